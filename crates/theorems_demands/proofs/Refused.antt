-- Demand 1: "Bad input is refused with the number and place in document 01; the drive state and any lent bytes then stand as before."
-- Amended by 02, M-102: "A body that it finds and load's own rules refuse in IDLE also sets flag 12".
-- A caller sees the refusal by the number that it is told, so each theorem starts from that.
use Rattle.std.proofs.Common.{None}
use mathlib.Core.Path.{◌≡◌, refl, sym, ap, ◌∙◌}
use mathlib.Core.Bool.{Bool, true, false, ◌&&◌, not, cond}
use mathlib.Core.List.{List, [], ◌∷◌}
use mathlib.Core.Logic.{◌⊎◌, inl, inr, ◌↔◌}
use Prim.Native.Nat.{ℕ, zero, suc}
use lib.Dec.{T, eqb, eqb→eq, leb, ltb}
use lib.ListN.{length, drop}
use lib.Seq.{drop_at}
use native.Mathlib.Omega.{arith}
use borrow.Author.Tests.{ne_eqb}
use lib.Ieee.Bits.{is_true}
use mir.Facts.{T_not, and_yes, yes_and}
use Rattle.numbers.proofs.Tests.{by_test, decide}
use Rattle.drive.specs.Answer.{answer_telling, reply as shown}
use Rattle.verdicts.specs.Table.{Row, row, verdict}
use Rattle.verdicts.proofs.Passed.{behind_passed, before_later, one_number}
use Rattle.settings.specs.Rules.{setting_rows}
use Rattle.drive.specs.Refusals.{load_rows, cycle_rows, tick_rows}
use Rattle.states.specs.States.{is}
use Rattle.images.specs.Image.{fifteen}
use Rattle.images.specs.Table.{well_formed, is_filled}
use Rattle.images.specs.Reads.{read_rows, found_of, is_read}
use Rattle.drive.specs.Calls
use Rattle.drive.specs.Blocks.{block_numbers, block_rows, marked, left_by_block}
use Rattle.drive.specs.Blocks
use Rattle.drive.specs.Ticks
use Rattle.drive.specs.AnyCall.{Call, loads, cycles, ticks, block_loads, reply}
use Rattle.drive.specs.declared.Drive.{Drive}
use Rattle.drive.specs.declared.answer.Answer.{Answer}
use Rattle.drive.specs.declared.answer.Reply.{Reply}
use Rattle.report.specs.Refusals.{line_length, line_verdict, accepts}
use Rattle.report.specs.Line.{line, lent_after}
use Rattle.report.proofs.Fields.{length-line}
use Rattle.streams.specs.Run.{Front, end, unknown, short, whole}
use Rattle.records.specs.Front.{front}
use Rattle.streams.specs.Run.{Outcome, rest, refused, follow, runs, output_after, ran_of}
use Rattle.records.specs.Run.{shiftline}
use Rattle.drive.proofs.Settles.{refusal}
use Rattle.theorems_demands.specs.Amended.{rows, amended, is_block_load}

-- a call that answers another number than 0 leaves the state, but there with flag 12, and shows what it leaves with the number and place of
-- the first row that holds
pub refused_unchanged :
    (d : Drive) (call : Call)
    → ((reply d call).answer.number ≡ 0 → ⊥)
    → reply d call ≡ shown (verdict (rows d call)).number (verdict (rows d call)).place (cond (amended d call) (marked d) d)
unfolding Calls.load Calls.cycle Ticks.tick Blocks.block_load
refused_unchanged d (loads numbers) given = refusal None (verdict (load_rows d numbers)) _ d given
refused_unchanged d (cycles fields) given = refusal (Calls.judged_by d fields) (verdict (cycle_rows d fields)) _ d given
refused_unchanged d (ticks fields) given = refusal None (verdict (tick_rows d fields)) _ d given
refused_unchanged d (block_loads image block) given =
    refusal None (verdict (block_rows d image block)) _ (left_by_block d image block) given

-- and a caller sees by the number where that is: it is a block load in IDLE that is answered with 2
not_2 : (a b c : Bool) → (verdict (row 7 0 a ∷ row 8 0 b ∷ row 9 0 c ∷ [])).number ≡ 2 → ⊥
not_2 true b c is = omega arith
not_2 false true c is = omega arith
not_2 false false true is = omega arith
not_2 false false false is = omega arith

abbrev behind_first : List Row → List Row
behind_first [] = []
behind_first (r ∷ rest) = rest

module _ (d : Drive) (image : List ℕ) (block : ℕ) where
  abbrev own : List Row
  own = load_rows d (block_numbers image block)

  -- load's own rules in IDLE
  own_2 : T (is 0 d.state) → ((verdict own).number ≡ 0 → ⊥) → (verdict own).number ≡ 2
  unfolding setting_rows
  own_2 idle given =
      let here : is 0 d.state ≡ true = is_true (is 0 d.state) idle in
      rw here (one_number 2 (behind_first own) tt (λ zero. given (rw here zero)))

  pub amended_is_2 :
      T (is 0 d.state)
      → ((verdict (block_rows d image block)).number ≡ 0 → ⊥)
      → T (amended d (block_loads image block)) ↔ ((verdict (block_rows d image block)).number ≡ 2)
  unfolding found_of
  amended_is_2 idle given = (
    λ both.
        let read = eqb→eq (verdict (read_rows fifteen image block)).number 0
        (and_yes (is_read fifteen image block) (is 0 d.state) both).0 in
        let same = behind_passed (read_rows fifteen image block) own tt read in
        rw same (own_2 idle (λ zero. given (rw same zero))),
    λ two.
        decide (is_read fifteen image block) (λ read. yes_and (is_read fifteen image block) (is 0 d.state) read idle)
        (λ unread.
        let refused : (verdict (read_rows fifteen image block)).number ≡ 0 → ⊥ =
        λ zero. T_not (is_read fifteen image block) (rw zero tt) unread in
        absurd
        (not_2 (not (well_formed fifteen image)) (leb 15 block) (not (is_filled 0 image block))
        (rw (before_later (read_rows fifteen image block) own refused) at two))),
  )

  -- its number is that of the first row that holds
  number_told : ((reply d (block_loads image block)).answer.number ≡ 0 → ⊥)
      → (reply d (block_loads image block)).answer.number ≡ (verdict (block_rows d image block)).number
  unfolding answer_telling
  number_told given = ap (λ (r : Reply). r.answer.number) (refused_unchanged d (block_loads image block) given)

  pub amended_answers_2 :
      T (is 0 d.state)
      → ((reply d (block_loads image block)).answer.number ≡ 0 → ⊥)
      → T (amended d (block_loads image block)) ↔ ((reply d (block_loads image block)).answer.number ≡ 2)
  amended_answers_2 idle given =
      let same = number_told given in
      let told = amended_is_2 idle (λ zero. given (same ∙ zero)) in
      (λ both. same ∙ told.0 both, λ two. told.1 (sym same ∙ two))

-- In a caller's words: a refused call leaves the drive as it is, but for a block load in IDLE that is answered with 2.
pub refused_leaves :
    (d : Drive) (call : Call)
    → ((reply d call).answer.number ≡ 0 → ⊥)
    → (is_block_load call && is 0 d.state && eqb (reply d call).answer.number 2) ≡ false
    → (reply d call).drive ≡ d
refused_leaves d (loads numbers) given other = ap (λ (r : Reply). r.drive) (refused_unchanged d (loads numbers) given)
refused_leaves d (cycles fields) given other = ap (λ (r : Reply). r.drive) (refused_unchanged d (cycles fields) given)
refused_leaves d (ticks fields) given other = ap (λ (r : Reply). r.drive) (refused_unchanged d (ticks fields) given)
refused_leaves d (block_loads image block) given other =
    ap (λ (r : Reply). r.drive) (refused_unchanged d (block_loads image block) given)
    ∙ by_test (λ (left : Drive). left ≡ d) (amended d (block_loads image block))
    (λ both.
    let idle = (and_yes (is_read fifteen image block) (is 0 d.state) both).1 in
    let two = (amended_answers_2 d image block idle given).0 both in
    absurd (differs (sym (rw (is_true (is 0 d.state) idle, two) at other))))
    (λ none. refl)
  where
    differs : false ≡ true → ⊥
    differs same = let z : ◌≡◌ {A = ℕ} 0 1 = cc in omega arith

-- a line call that tells another number than 0 leaves each lent byte
pub refused_line : (a : Answer) (lent : List ℕ) → ((line_verdict a (length lent)).number ≡ 0 → ⊥) → lent_after a lent ≡ lent
refused_line a lent given = rw (ne_eqb (line_verdict a (length lent)).number 0 given)

-- and whatever it tells, each byte behind the line's own
behind :
    (a : Answer) (lent : List ℕ) (taken : Bool)
    → accepts a (length lent) ≡ taken
    → drop line_length (lent_after a lent) ≡ drop line_length lent
behind a lent true e = rw e (drop_at (line a) (drop line_length lent) line_length (length-line a))
behind a lent false e = rw e

pub behind_the_line : (a : Answer) (lent : List ℕ) → drop line_length (lent_after a lent) ≡ drop line_length lent
behind_the_line a lent = behind a lent (accepts a (length lent)) refl

-- a run is not refused as a whole: whatever it comes to, it leaves each byte behind those that it says it wrote
pub behind_the_lines : (o : Outcome Drive) (lent : List ℕ)
    → drop (ran_of o).written (output_after o lent) ≡ drop (ran_of o).written lent
behind_the_lines o lent = drop_at o.lines (drop (length o.lines) lent) (length o.lines) refl

-- and where its input begins with no whole record, it takes nothing and leaves the state: number 6 or, where more may come, no line
unread :
    (closed : Bool) (d : Drive) (f : Front Call) (onward : Call → Outcome Drive)
    → ((r : Call) → f ≡ whole r → ⊥)
    → (follow shiftline closed d f onward ≡ rest d) ⊎ (follow shiftline closed d f onward ≡ refused shiftline d)
unread closed d end onward none = inl refl
unread closed d unknown onward none = inr refl
unread true d short onward none = inr refl
unread false d short onward none = inl refl
unread closed d (whole r) onward none = absurd (none r refl)

pub unread_unchanged :
    (fuel : ℕ) (closed : Bool) (room : ℕ) (bytes : List ℕ) (d : Drive)
    → ((r : Call) → front bytes ≡ whole r → ⊥)
    → (runs shiftline fuel closed room bytes d ≡ rest d) ⊎ (runs shiftline fuel closed room bytes d ≡ refused shiftline d)
unfolding runs
unread_unchanged zero closed room bytes d none = inl refl
unread_unchanged (suc fuel) closed room bytes d none =
    by_test (λ (o : Outcome Drive). (o ≡ rest d) ⊎ (o ≡ refused shiftline d)) (ltb room line_length)
    (λ tight. inl refl)
    (λ wide. unread closed d (front bytes) _ none)
