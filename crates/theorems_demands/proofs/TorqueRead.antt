-- Torque is read by bit 7 alone: whatever is called, with torque in the ticks or without, each answer is the same until flag 7 is set.
use Rattle.std.proofs.Common.{Option, None}
use mathlib.Core.Path.{◌≡◌, refl, sym, ap, ◌∙◌}
use mathlib.Core.Bool.{Bool, true, false, not, ◌&&◌, cond}
use mathlib.Core.List.{List, [], ◌∷◌, ◌++◌}
use Prim.Native.Nat.{ℕ}
use native.Mathlib.Omega.{arith}
use lib.Dec.{T, eqb, ltb, not_T}
use lib.IntN.{nat_abs}
use lib.Ieee.Bits.{is_false}
use mir.Facts.{eqb_yes, leb_yes, ltb_yes}
use Rattle.numbers.proofs.Tests.{all_three}
use Rattle.faults.specs.Word.{bit}
use Rattle.states.specs.States.{is}
use Rattle.settings.specs.Settings.{meant, FaultEnable}
use Rattle.fields.specs.declared.Tick.{Tick}
use Rattle.verdicts.specs.Table.{verdict}
use Rattle.verdicts.specs.Table.{Verdict}
use Rattle.verdicts.proofs.Passed.{passed}
use Rattle.images.specs.Image.{fifteen}
use Rattle.images.specs.Reads.{is_read}
use Rattle.drive.specs.Answer.{answer_telling, reply_telling, reply as replied}
use Rattle.drive.specs.Refusals.{load_rows, cycle_rows, tick_rows}
use Rattle.drive.specs.Calls.{settle_telling, loaded, judged_by, cycled}
use Rattle.drive.specs.Calls
use Rattle.drive.specs.Blocks.{block_numbers, block_rows, marked, left_by_block}
use Rattle.drive.specs.Blocks
use Rattle.drive.specs.Ticks.{ticked}
use Rattle.drive.specs.Ticks as TickCalls
use Rattle.drive.specs.AnyCall.{Call, loads, cycles, ticks, block_loads, reply}
use Rattle.drive.specs.declared.Drive.{Drive}
use Rattle.hall.specs.declared.fate.Fate.{Fate}
use Rattle.drive.specs.declared.answer.Reply.{Reply}
use Rattle.theorems_history.specs.Log.{state_after, entry, log}
use Rattle.theorems_reached.specs.Machine.{machine}
use Rattle.theorems_reached.specs.Reached.{Loaded}
use Rattle.theorems_reached.proofs.Keeps.{every_reached}
use Rattle.theorems_demands.specs.Stalled.{sets7, slack, slackened, torqueless, torque_allowed, untripped, stalled_for}
use Rattle.theorems_demands.specs.Stalled.{TorqueIsReadByBit7Alone}
use Rattle.theorems_demands.proofs.Lawful.{remembered}
use Rattle.theorems_demands.proofs.Held.{all_counted}
use Rattle.theorems_demands.proofs.Torque.{accepted}
use Rattle.theorems_demands.proofs.FlagSeven as seven
use Rattle.theorems_demands.proofs.FlagSevenShown.{lock_alike, enabled_alike}
use Rattle.theorems_demands.proofs.Eased.{Alike, itself, cycled_alike, marked_alike}
use Rattle.theorems_demands.proofs.TorqueAlone.{shown_alike, ticked_alike}

-- two replies: alike in what they leave, and the same answer
pub record Same (r other : Reply) : Type 0 where
  pub leaves : Alike r.drive other.drive
  pub answers : r.answer ≡ other.answer

settle_same :
    (judged : Option Fate) (v : Verdict) (next left next' left' : Drive)
    → (v.number ≡ 0 → Alike next next')
    → Alike left left'
    → Same (settle_telling judged v next left) (settle_telling judged v next' left')
settle_same judged v next left next' left' goes stays = go (eqb v.number 0) refl
  where
    go : (test : Bool) → eqb v.number 0 ≡ test
        → Same (cond test (reply_telling judged 0 0 next) (replied v.number v.place left))
        (cond test (reply_telling judged 0 0 next') (replied v.number v.place left'))
    go true e =
        let alike = goes (eqb_yes (rw e tt)) in record { leaves = alike; answers = shown_alike next next' alike judged 0 0 }
    go false e = record { leaves = stays; answers = shown_alike left left' stays None v.number v.place }

module _ (d other : Drive) (a : Alike d other) where
  left_alike : (image : List ℕ) (block : ℕ) → Alike (left_by_block d image block) (left_by_block other image block)
  left_alike image block =
      rw (ap (λ (drive : Drive). is 0 drive.state) a.same) (go (is_read fifteen image block && is 0 d.state))
    where
      go : (test : Bool) → Alike (cond test (marked d) d) (cond test (marked other) other)
      go true = marked_alike d other a
      go false = a

  -- a tick with a torque that it may have is refused alike
  tick_rows_lem : (t : Tick) → T (torque_allowed (ticks t)) → verdict (tick_rows other (slack t)) ≡ verdict (tick_rows d t)
  tick_rows_lem t small =
      let within : ltb 4095 (nat_abs t.trq_ref) ≡ false =
      is_false (ltb 4095 (nat_abs t.trq_ref))
      (not_T (ltb 4095 (nat_abs t.trq_ref))
      (λ above.
      omega (
        arith,
        leb_yes {a = nat_abs t.trq_ref} {b = 4095} small,
        ltb_yes {a = 4095} {b = nat_abs t.trq_ref} above,
      )))
      in
      ap (λ (drive : Drive). verdict (tick_rows drive (slack t))) a.same ∙ rw within

  -- a call with its torque, which sets no flag 7, and without
  abbrev pub Unset : Call → Type 0
  Unset (loads numbers) = Unit {0}
  Unset (cycles c) = Unit {0}
  Unset (ticks t) =
      (verdict (tick_rows d t)).number ≡ 0
      → Loaded d.settings × ((seven.lock d t && bit 7 (FaultEnable d.settings)) ≡ false)
  Unset (block_loads image block) = Unit {0}

  pub replies_same : (call : Call) → T (torque_allowed call) → Unset call → Same (reply d call) (reply other (slackened call))
  unfolding Calls.load Calls.cycle TickCalls.tick Blocks.block_load
  replies_same (loads numbers) may unset =
      rw (ap (λ (drive : Drive). verdict (load_rows drive numbers)) a.same)
      (settle_same None (verdict (load_rows d numbers)) _ d _ other (λ none. itself (loaded (meant numbers))) a)
  replies_same (cycles c) may unset =
      rw (ap (λ (drive : Drive). verdict (cycle_rows drive c)) a.same, ap (λ (drive : Drive). judged_by drive c) a.same)
      (settle_same (judged_by d c) (verdict (cycle_rows d c)) (cycled d c) d (cycled other c) other (λ none. cycled_alike d other a c) a)
  replies_same (ticks t) may unset =
      rw (tick_rows_lem t may)
      (settle_same None (verdict (tick_rows d t)) (ticked d t) d (ticked other (slack t)) other
      (λ none. let (loaded, dark) = unset none in ticked_alike d other a t loaded dark)
      a)
  replies_same (block_loads image block) may unset =
      rw (ap (λ (drive : Drive). verdict (block_rows drive image block)) a.same)
      (settle_same None (verdict (block_rows d image block)) _ (left_by_block d image block) _ (left_by_block other image block)
      (λ none. itself (loaded (meant (block_numbers image block))))
      (left_alike image block))

-- ---- any calls

-- where the log tells that a call sets no flag 7, it does not
unset_by_the_log :
    (past : List Call) (call : Call)
    → T (not (sets7 (entry machine (state_after machine past) call) (log machine past)))
    → Unset (state_after machine past) (state_after machine past) (itself (state_after machine past)) call
unfolding stalled_for answer_telling
unset_by_the_log past (loads numbers) none = tt
unset_by_the_log past (cycles c) none = tt
unset_by_the_log past (ticks t) none = λ unrefused.
    let d : Drive = state_after machine past in
    let r = every_reached past in
    let outside = (passed (tick_rows d t) tt unrefused).0 in
    let taken : (reply d (ticks t)).answer.number ≡ 0 = ap (λ (a : Reply). a.answer.number) (accepted d t unrefused) in
    let sets : Bool = sets7 (entry machine d (ticks t)) (log machine past) in
    let is_set : sets ≡ (seven.lock d t && bit 7 (FaultEnable d.settings)) =
    rw (
      taken,
      lock_alike d r (log machine past) (remembered past) (all_counted past) t outside,
      ← enabled_alike d r (log machine past) (remembered past) (all_counted past) t outside,
    )
    in
    (r.settings outside, sym is_set ∙ is_false sets none)
unset_by_the_log past (block_loads image block) none = tt

module _ (earlier : List Call) where
  -- a call more of a row that has not tripped
  parts :
      (row : List Call) (call : Call)
      → T (untripped (call ∷ row) earlier)
      → T (torque_allowed call)
      × T (not (sets7 (entry machine (state_after machine (row ++ earlier)) call) (log machine (row ++ earlier))))
      × T (untripped row earlier)
  unfolding untripped
  parts row call all =
      all_three (torque_allowed call)
      (not (sets7 (entry machine (state_after machine (row ++ earlier)) call) (log machine (row ++ earlier))))
      (untripped row earlier)
      all

  -- one call more
  same_reply :
      (row : List Call) (call : Call)
      → Alike (state_after machine (row ++ earlier)) (state_after machine (torqueless row earlier))
      → T (torque_allowed call)
      → T (not (sets7 (entry machine (state_after machine (row ++ earlier)) call) (log machine (row ++ earlier))))
      → Same (reply (state_after machine (row ++ earlier)) call) (reply (state_after machine (torqueless row earlier)) (slackened call))
  same_reply row call alike may none =
      replies_same (state_after machine (row ++ earlier)) (state_after machine (torqueless row earlier)) alike call may
      (unset_by_the_log (row ++ earlier) call none)

  still_alike :
      (row : List Call)
      → T (untripped row earlier)
      → Alike (state_after machine (row ++ earlier)) (state_after machine (torqueless row earlier))
  unfolding untripped state_after
  still_alike [] all = itself (state_after machine earlier)
  still_alike (call ∷ row) all =
      let (may, none, rest) = parts row call all in
      (same_reply row call (still_alike row rest) may none).leaves

pub torque_is_read_by_bit_7_alone : TorqueIsReadByBit7Alone
torque_is_read_by_bit_7_alone earlier row call all =
    let (may, none, rest) = parts earlier row call all in
    (same_reply earlier row call (still_alike earlier row rest) may none).answers
