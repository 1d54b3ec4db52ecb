-- In MOTORRUN a call that is no accepted tick leaves two drives alike that were alike; and it is none for the one where it is none for the
-- other.
use Rattle.std.proofs.Common.{None}
use mathlib.Core.Path.{◌≡◌, sym, subst, ap, ◌∙◌}
use mathlib.Core.Bool.{Bool, true, false, not, ◌||◌, cond}
use mathlib.Core.List.{List}
use Prim.Native.Nat.{ℕ}
use lib.Dec.{T, eqb, not_T}
use lib.Ieee.Bits.{is_false}
use mir.Facts.{T_not, eqb_yes}
use Rattle.states.specs.States.{is}
use Rattle.states.proofs.Every.{at_every}
use Rattle.fields.specs.declared.Tick.{Tick}
use Rattle.verdicts.specs.Table.{verdict}
use Rattle.verdicts.proofs.Passed.{both_passed}
use Rattle.images.specs.Image.{fifteen}
use Rattle.images.specs.Reads.{read_rows}
use Rattle.drive.specs.Answer.{answer_telling}
use Rattle.drive.specs.Refusals.{load_rows, tick_rows}
use Rattle.drive.specs.Blocks.{block_numbers, block_rows}
use Rattle.drive.specs.Ticks.{ticked}
use Rattle.drive.specs.Ticks as TickCalls
use Rattle.drive.specs.AnyCall.{Call, loads, cycles, ticks, block_loads, reply}
use Rattle.drive.specs.declared.Drive.{Drive}
use Rattle.drive.specs.declared.answer.Reply.{Reply}
use Rattle.drive.proofs.Settles.{refusal}
use Rattle.theorems_history.specs.Onlooker.{Asked, neither, heard, is_tick}
use Rattle.theorems_reached.proofs.Loads.{accepted_state}
use Rattle.onlooker.specs.Words.{words, asked}
use Rattle.theorems_demands.specs.Stalled.{slack, slackened}
use Rattle.theorems_demands.proofs.Shown.{made}
use Rattle.theorems_demands.proofs.Torque.{unrefused, accepted, without}
use Rattle.theorems_demands.proofs.Eased.{Alike}
use Rattle.theorems_demands.proofs.TorqueRead.{replies_same}

-- ---- what a call leaves in MOTORRUN

module _ (d : Drive) (running : T (is 4 d.state)) where
  -- no load is accepted there
  pub no_load : {C : Type 0} (numbers : List ℕ) → (verdict (load_rows d numbers)).number ≡ 0 → C
  no_load numbers none =
      absurd
      (T_not (is 0 d.state || is 1 d.state) (accepted_state d numbers none)
      (at_every (is 4) (λ s. not (is 0 s || is 1 s)) tt d.state running))

  pub no_block_load : {C : Type 0} (image : List ℕ) (block : ℕ) → (verdict (block_rows d image block)).number ≡ 0 → C
  no_block_load image block none =
      no_load (block_numbers image block)
      (both_passed (read_rows fifteen image block) (load_rows d (block_numbers image block)) tt none).1

-- a refused tick, anywhere
tick_leaves : (d : Drive) (t : Tick) → ((reply d (ticks t)).answer.number ≡ 0 → ⊥) → (reply d (ticks t)).drive ≡ d
unfolding TickCalls.tick
tick_leaves d t given = ap (λ (a : Reply). a.drive) (refusal None (verdict (tick_rows d t)) (ticked d t) d given)

-- of a call that asks nothing of a tick he hears of none
hears_none : (test : Bool) (about : Asked Tick) → T (not (is_tick words about)) → T (not (is_tick words (cond test about neither)))
hears_none true about other = other
hears_none false about other = tt

-- ---- two drives that are alike

module _ (d other : Drive) (a : Alike d other) (running : T (is 4 d.state)) where
  pub running_too : T (is 4 other.state)
  running_too = subst (λ (drive : Drive). T (is 4 drive.state)) (sym a.same) running

  -- a tick that is accepted with its torque is so without, by the other
  pub accepted_too : (t : Tick) → (reply d (ticks t)).answer.number ≡ 0 → (reply other (ticks (slack t))).answer.number ≡ 0
  unfolding answer_telling
  accepted_too t taken =
      let rows_alike = ap (λ (drive : Drive). (verdict (tick_rows drive (slack t))).number) a.same in
      ap (λ (r : Reply). r.answer.number) (accepted other (slack t) (rows_alike ∙ without d t (unrefused d t taken)))

  -- the call is no accepted tick without torque, for the other
  abbrev NoTick : Call → Type 0
  NoTick call = T (not (is_tick words (heard words (made (slackened call) (reply other (slackened call)).answer))))

  refused_too : (t : Tick) → NoTick (ticks t) → (reply other (ticks (slack t))).answer.number ≡ 0 → ⊥
  refused_too t none taken = rw taken at none

  pub no_tick_either : (call : Call) → NoTick call → T (not (is_tick words (heard words (made call (reply d call).answer))))
  no_tick_either (loads numbers) none = hears_none (eqb (reply d (loads numbers)).answer.number 0) (asked (loads numbers)) tt
  no_tick_either (cycles c) none = hears_none (eqb (reply d (cycles c)).answer.number 0) (asked (cycles c)) tt
  no_tick_either (ticks t) none =
      rw (is_false (eqb (reply d (ticks t)).answer.number 0)
      (not_T (eqb (reply d (ticks t)).answer.number 0) (λ taken. refused_too t none (accepted_too t (eqb_yes taken))))) tt
  no_tick_either (block_loads image block) none =
      hears_none (eqb (reply d (block_loads image block)).answer.number 0) (asked (block_loads image block)) tt

  pub still_alike : (call : Call) → NoTick call → Alike (reply d call).drive (reply other (slackened call)).drive
  still_alike (loads numbers) none = (replies_same d other a (loads numbers) tt tt).leaves
  still_alike (cycles c) none = (replies_same d other a (cycles c) tt tt).leaves
  still_alike (ticks t) none =
      rw (
        tick_leaves d t (λ taken. refused_too t none (accepted_too t taken)),
        tick_leaves other (slack t) (refused_too t none),
      )
      a
  still_alike (block_loads image block) none = (replies_same d other a (block_loads image block) tt tt).leaves
