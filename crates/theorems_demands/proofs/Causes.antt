-- The causes that the onlooker finds in a tick and in the samples are among those that the drive finds: each is a flag of its own there.
use mathlib.Core.Bool.{Bool, false, ◌&&◌, ◌||◌}
use mathlib.Core.List.{List}
use Prim.Native.Nat.{ℕ}
use lib.Dec.{T, eqb, ltb}
use mir.Facts.{and_yes, eqb_yes}
use Rattle.numbers.proofs.Tests.{or_left, or_cases}
use Rattle.faults.specs.Word.{bit, ◌or◌, any}
use Rattle.faults.proofs.Bits.{old_bit, new_bit, set_bit, sets, is_live, new_shows}
use Rattle.settings.specs.Settings.{FaultEnable, VdcOvLevel, VdcLvLevel, CriticalOvLevel, Tshutdown}
use Rattle.fields.specs.declared.Tick.{Tick}
use Rattle.drive.specs.Flags.{always_live}
use Rattle.drive.specs.Causes.{cause_flags, causes}
use Rattle.drive.specs.Answer.{live_word}
use Rattle.drive.specs.Ticks.{watch, standing, raised, alight}
use Rattle.drive.specs.declared.Drive.{Drive}
use Rattle.states.specs.States.{is}
use Rattle.theorems_reached.specs.Reached.{Reached}
use Rattle.onlooker.specs.Words.{cause_of, dead_cause_of}

module _ (d : Drive) (t : Tick) where
  abbrev s : List ℕ
  s = d.settings

  abbrev flags : List (ℕ × Bool)
  flags = cause_flags s (is 4 d.state) d.hall.dead_streak t (watch d t)

  -- a flag of the list that is set and enabled is live
  lives : (k : ℕ) → T (sets k flags) → T (bit k (always_live or FaultEnable s)) → T (alight d (standing d t))
  unfolding causes
  lives k set enabled = is_live always_live (FaultEnable s) k (standing d t) (set_bit k flags set) enabled

  always : (k : ℕ) → T (bit k always_live) → T (bit k (always_live or FaultEnable s))
  always k = old_bit k always_live (FaultEnable s)

  -- .. by the mask, too
  masked : (k : ℕ) (test : Bool) → (T test → T (sets k flags)) → T (test && bit k (FaultEnable s)) → T (alight d (standing d t))
  masked k test set both =
      let (stands, enabled) = and_yes test (bit k (FaultEnable s)) both in
      lives k (set stands) (new_bit k always_live (FaultEnable s) enabled)

  -- what he finds blocks an exit from FAULT ..
  pub found_blocks : T (cause_of s t || dead_cause_of s d.hall.dead_streak) → T (alight d (standing d t))
  found_blocks found =
      let kill : Bool = eqb t.gate_kill 1 in
      let critical : Bool = ltb (CriticalOvLevel s) t.vdc_raw in
      let over : Bool = ltb (VdcOvLevel s) t.vdc_filt in
      let under : Bool = ltb t.vdc_filt (VdcLvLevel s) in
      let hot : Bool = ltb (Tshutdown s) t.temperature in
      let dead : Bool = eqb d.hall.dead_streak 2 in
      let on : ℕ → Bool = λ (k : ℕ). bit k (FaultEnable s) in
      or_cases (kill || critical || over && on 2 || under && on 3 || hot && on 6) (dead && on 15) found
      (λ a.
      or_cases (kill || critical || over && on 2 || under && on 3) (hot && on 6) a
      (λ b.
      or_cases (kill || critical || over && on 2) (under && on 3) b
      (λ c.
      or_cases (kill || critical) (over && on 2) c
      (λ e.
      or_cases kill critical e (λ u. lives 0 (or_left kill false u) (always 0 tt))
      (λ u. lives 1 (or_left critical false u) (always 1 tt)))
      (masked 2 over (or_left over false)))
      (masked 3 under (or_left under false)))
      (masked 6 hot (or_left hot false)))
      (masked 15 dead (or_left dead false))

  -- .. and trips outside it
  pub found_trips : T (cause_of s t || dead_cause_of s d.hall.dead_streak) → T (alight d (raised d t))
  found_trips found = new_shows always_live (FaultEnable s) d.flags (standing d t) (found_blocks found)

-- a dead streak of 2 is flagged as long as it stands
pub dead_shows : (d : Drive) → Reached d → T (dead_cause_of d.settings d.hall.dead_streak) → T (any (live_word d))
dead_shows d r found =
    let (two, unmasked) = and_yes (eqb d.hall.dead_streak 2) (bit 15 (FaultEnable d.settings)) found in
    is_live always_live (FaultEnable d.settings) 15 d.flags (r.flags.dead unmasked (eqb_yes two))
    (new_bit 15 always_live (FaultEnable d.settings) unmasked)
