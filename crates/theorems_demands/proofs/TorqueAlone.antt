-- Torque is read by bit 7 alone: two drives that are alike reply alike to a call with torque and to the same call without, unless flag 7 is
-- set by it.
use Rattle.std.proofs.Common.{Option}
use mathlib.Core.Path.{◌≡◌, refl, sym, ap, ◌∙◌}
use mathlib.Core.Bool.{Bool, true, false, ◌&&◌, ◌||◌, and-or_distrib_right}
use Prim.Native.Nat.{ℕ}
use lib.Bits.{or_zero_r}
use Rattle.faults.specs.Word.{bit, flag, ◌or◌}
use Rattle.faults.proofs.Joined.{or_swap, live_each, live_flag}
use Rattle.states.specs.States.{is}
use Rattle.settings.specs.Settings.{FaultEnable}
use Rattle.fields.specs.declared.Tick.{Tick}
use Rattle.motor.specs.Counts.{watched}
use Rattle.motor.specs.Reference.{target_of}
use Rattle.moves.specs.Moves.{move_of}
use Rattle.moves.specs.declared.Move.{Move}
use Rattle.moves.specs.declared.Move.TheVariants.{Stay, Enter, Measure, Clear, Retry}
use Rattle.drive.specs.Flags.{always_live, alive}
use Rattle.drive.specs.Answer.{answer_telling}
use Rattle.drive.specs.Ticks.{watch, standing, raised, armed_by, nth, grounds, chosen, moved, ticked}
use Rattle.drive.specs.declared.Drive.{Drive}
use Rattle.hall.specs.declared.fate.Fate.{Fate}
use Rattle.theorems_reached.specs.Reached.{Loaded}
use Rattle.theorems_demands.specs.Stalled.{slack}
use Rattle.theorems_demands.proofs.FlagSeven as seven
use Rattle.theorems_demands.proofs.Eased.{eased, Alike, joined}

-- ---- what two drives that are alike show

module _ (d other : Drive) (a : Alike d other) where
  -- the same flags are live, with any more
  pub live_with : (more : ℕ) → alive d.settings (d.flags or more) ≡ alive d.settings (a.flags or more)
  live_with more =
      let none : (a.set && bit 7 (always_live or FaultEnable d.settings)) ≡ false =
      ap (λ (on : Bool). a.set && on) (seven.mask_7 d.settings) ∙ a.masked
      in
      ap (λ (flags : ℕ). alive d.settings (flags or more)) a.more
      ∙ ap (alive d.settings) (or_swap a.flags (flag 7 a.set) more)
      ∙ live_each always_live (FaultEnable d.settings) (a.flags or more) (flag 7 a.set)
      ∙ ap (λ (word : ℕ). alive d.settings (a.flags or more) or word)
      (live_flag always_live (FaultEnable d.settings) 7 a.set ∙ ap (flag 7) none)
      ∙ or_zero_r (alive d.settings (a.flags or more))

  pub shown_alike : (judged : Option Fate) (number place : ℕ)
      → answer_telling judged number place d ≡ answer_telling judged number place other
  unfolding answer_telling
  shown_alike judged number place =
      let live : alive d.settings d.flags ≡ alive d.settings a.flags =
      ap (alive d.settings) (sym (or_zero_r d.flags)) ∙ live_with 0 ∙ ap (alive d.settings) (or_zero_r a.flags)
      in
      rw (a.same, live)

-- ---- a tick, in any state

module _ (d other : Drive) (a : Alike d other) (t : Tick) (loaded : Loaded d.settings)
    (unset : (seven.lock d t && bit 7 (FaultEnable d.settings)) ≡ false) where
  abbrev eases : Drive
  eases = eased d a.count a.flags

  abbrev others : ℕ
  others = seven.others d t

  others_alike : seven.others eases (slack t) ≡ others
  unfolding watched
  others_alike = refl

  -- the causes without torque are the others
  standing_slack : standing eases (slack t) ≡ (others or 0)
  standing_slack =
      seven.parted eases (slack t)
      ∙ ap (λ (on : Bool). seven.others eases (slack t) or flag 7 on) (seven.unlocked eases t loaded)
      ∙ ap (λ (word : ℕ). word or 0) others_alike

  raised_alike : raised d t ≡ (raised eases (slack t) or flag 7 (a.set || seven.lock d t))
  raised_alike =
      ap (λ (flags : ℕ). flags or standing d t) a.more
      ∙ ap (λ (causes : ℕ). a.flags or flag 7 a.set or causes) (seven.parted d t)
      ∙ joined a.flags others a.set (seven.lock d t)
      ∙ ap (λ (causes : ℕ). a.flags or causes or flag 7 (a.set || seven.lock d t)) (sym standing_slack)

  masked_now : ((a.set || seven.lock d t) && bit 7 (FaultEnable d.settings)) ≡ false
  masked_now = and-or_distrib_right a.set (seven.lock d t) (bit 7 (FaultEnable d.settings)) ∙ rw (a.masked, unset)

  -- with flag 7 masked, the same is live
  live_but_7 : (word : ℕ) (set : Bool) → (set && bit 7 (FaultEnable d.settings)) ≡ false
      → alive d.settings (word or flag 7 set) ≡ alive d.settings word
  live_but_7 word set none =
      let dark : (set && bit 7 (always_live or FaultEnable d.settings)) ≡ false =
      ap (λ (on : Bool). set && on) (seven.mask_7 d.settings) ∙ none
      in
      live_each always_live (FaultEnable d.settings) word (flag 7 set)
      ∙ ap (λ (more : ℕ). alive d.settings word or more)
      (live_flag always_live (FaultEnable d.settings) 7 set ∙ ap (flag 7) dark)
      ∙ or_zero_r (alive d.settings word)

  live_raised : alive d.settings (raised d t) ≡ alive d.settings (raised eases (slack t))
  live_raised =
      ap (alive d.settings) raised_alike ∙ live_but_7 (raised eases (slack t)) (a.set || seven.lock d t) masked_now

  live_standing : alive d.settings (standing d t) ≡ alive d.settings (standing eases (slack t))
  live_standing =
      ap (alive d.settings) (seven.parted d t)
      ∙ live_but_7 others (seven.lock d t) unset
      ∙ ap (alive d.settings) (sym (standing_slack ∙ or_zero_r others))

  -- so it moves alike
  grounds_alike :
      grounds d t (standing d t) (raised d t) ≡ grounds eases (slack t) (standing eases (slack t)) (raised eases (slack t))
  grounds_alike = rw (live_raised, live_standing)

  chosen_alike : chosen d t ≡ chosen eases (slack t)
  chosen_alike = ap move_of grounds_alike

  abbrev next : Move → Drive
  next move = moved d t (watch d t) (raised d t) (armed_by d t) (nth d) move

  abbrev next_slack : Move → Drive
  next_slack move =
      moved eases (slack t) (watch eases (slack t)) (raised eases (slack t)) (armed_by eases (slack t)) (nth eases) move

  -- whatever the move, they stay alike
  with_flags : (after after_slack : Drive)
      → after.flags ≡ raised d t
      → after.settings ≡ d.settings
      → after_slack ≡ eased after after_slack.run.rotor_lock_ticks (raised eases (slack t))
      → Alike after after_slack
  with_flags after after_slack flags settings same =
      record {
        count = after_slack.run.rotor_lock_ticks;
        flags = raised eases (slack t);
        set = a.set || seven.lock d t;
        same = same;
        more = flags ∙ raised_alike;
        masked = rw settings masked_now;
      }

  stay_alike : (running : Bool) → is 4 d.state ≡ running
      → next_slack Stay ≡ eased (next Stay) (next_slack Stay).run.rotor_lock_ticks (raised eases (slack t))
  unfolding watched target_of
  stay_alike true e = rw e
  stay_alike false e = rw e

  moved_alike : (move : Move) → Alike (next move) (next_slack move)
  moved_alike Stay = with_flags (next Stay) (next_slack Stay) refl refl (stay_alike (is 4 d.state) refl)
  moved_alike (Enter state) = with_flags (next (Enter state)) (next_slack (Enter state)) refl refl refl
  moved_alike Measure = with_flags (next Measure) (next_slack Measure) refl refl refl
  moved_alike Clear = record { count = 0; flags = 0; set = false; same = refl; more = refl; masked = refl }
  moved_alike Retry = record { count = 0; flags = 0; set = false; same = refl; more = refl; masked = refl }

  pub ticked_alike : Alike (ticked d t) (ticked other (slack t))
  unfolding ticked
  ticked_alike = rw (a.same, ← chosen_alike) (moved_alike (chosen d t))
