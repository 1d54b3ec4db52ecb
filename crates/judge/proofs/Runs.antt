-- Which turn ends a run; and a line lies within the bytes at whose front it stands.
use Prim.Native.Nat.{ℕ, zero, suc, ◌≤◌}
use native.Mathlib.Omega.{arith}
use mathlib.Core.Path.{◌≡◌, ap, sym, ◌∙◌}
use mathlib.Core.Bool.{Bool, true, false, not}
use lib.Dec.{ltb→lt}
use Prim.Native.Char.{code}
use Rattle.std.specs.Prelude.{◌+◌, ◌==◌, nat_lt, Option, unwrap_or, option_map}
use Rattle.std.specs.List.{position_or_len}
use mathlib.Core.List.{List}
use denote.Enum.Bare.{sameb}
use lib.ListN.{length}
use Rattle.numbers.proofs.Tests.{by_test}
use Rattle.judge.specs.NextLine.{line_size}
use Rattle.judge.specs.Run.{onward, wants_turn, runs}
use Rattle.judge.specs.contracts.Wants.{the_type}
use Rattle.judge.specs.declared.Wants.{Wants}
use Rattle.judge.specs.declared.Wants.TheVariants.{Turn, Records, Lines, Nothing}
use Rattle.judge.specs.declared.Ran.{Ran}

-- how many bytes of the line are there
abbrev pub size_at : List ℕ → ℕ
size_at lines = unwrap_or (line_size lines) (length lines)

pub size_within : (lines : List ℕ) → size_at lines ≤ length lines
unfolding line_size
size_within lines =
    by_test (λ (size : Option ℕ). unwrap_or (option_map (λ at. at + 1) size) (length lines) ≤ length lines)
    (nat_lt (feed_at lines) (length lines))
    (λ inside. omega (arith, ltb→lt (feed_at lines) (length lines) inside))
    (λ _. omega arith)
  where
    feed_at : List ℕ → ℕ
    feed_at bytes = position_or_len (λ byte. byte == code "\n") bytes

module _ (closed : Bool) (input : List ℕ) (finished : Bool) (lines : List ℕ) (ran next : Ran)
    (is : next ≡ onward closed input finished lines ran) (test : Bool) (tested : test ≡ not (sameb the_type next.wants Turn)) where
  -- the code's test that no other turn is wanted
  wanted : wants_turn (onward closed input finished lines ran).wants ≡ not test
  wanted = ap (λ (r : Ran). wants_turn r.wants) (sym is) ∙ go next.wants tested
    where
      go : (wants : Wants) → test ≡ not (sameb the_type wants Turn) → wants_turn wants ≡ not test
      go Turn e = rw e
      go Records e = rw e
      go Lines e = rw e
      go Nothing e = rw e

  -- a run ends with the turn that wants no other
  pub stops : (fuel : ℕ) → test ≡ true → next ≡ runs fuel closed input finished lines ran
  unfolding runs
  stops zero said = is
  stops (suc fuel) said = is ∙ rw (wanted, said)

  -- and goes on with any other
  pub goes : (fuel : ℕ) → test ≡ false → runs fuel closed input finished lines next ≡ runs (suc fuel) closed input finished lines ran
  unfolding runs
  goes fuel said = rw (wanted, said, is)
