-- `completed` is a chain of three writers, and all that they put fits.
use Rattle.std.proofs.Common.{◌≡◌, ℕ, ◌-◌, List, ◌++◌, length, take, drop, replicate}
use Rattle.std.proofs.Common.{sym, ◌∙◌, arith, append-nil, length-append, length-drop}
use Rattle.std.proofs.Math.ListN.{length-take}
use lib.Seq.{take_all, length-take-le}
use Rattle.text.specs.Text.{text}
use Rattle.text.specs.Put.{written}
use Rattle.text.proofs.Chains.{first, and_then, written_front}
use Rattle.lines.specs.Earlier.{earlier_length, of_today}
use Rattle.lines.proofs.completed.Goals as goal

abbrev inserted : List ℕ → List ℕ
inserted line = take 44 line ++ text " ." ++ drop 44 line

fills : (line : List ℕ) → length line ≡ earlier_length → written 0 (inserted line) (replicate 47 0) ≡ of_today line
unfolding of_today
fills line long =
    let blank : List ℕ = replicate 47 0 in
    let size : length (inserted line) ≡ 47 = simp (length-append, length-take, length-drop) (omega (arith, long)) in
    written_front (inserted line) blank (omega (arith, size)) ∙ rw (size, append-nil, long)

pub slice_bounds-put-end-2 : goal.slice_bounds-put-end-2
slice_bounds-put-end-2 c = sym (length-take-le 44 c.args.line.now (omega (arith, c.requires)))

-- what is lent of the line from there on is all of it
rest : (line : List ℕ) → take (length line - 44) (drop 44 line) ≡ drop 44 line
rest line = take_all (length line - 44) (drop 44 line) (simp length-drop (omega arith))

pub returns : goal.returns
returns c =
    let line = c.args.line.now in
    let begun = first (take 44 line) (c.put-at.ensures.next, c.put-at.ensures.lent) in
    let spaced = and_then (text " .") begun (c.put-at-2.ensures.next, c.put-at-2.ensures.lent) in
    let put = and_then (drop 44 line) spaced (rw (rest line) at c.put.ensures.next, rw (rest line) at c.put.ensures.lent) in
    put.out ∙ fills line c.requires
