-- Document 01, "Speed reference", kept times 2048.
use Rattle.std.specs.Prelude.{ℕ, ◌+◌, ◌-◌, ◌*◌, ◌/◌, min, Bool, cond, List, ltb, ℤ, pos, neg_ℤ, nat_abs, ◌+ℤ◌, ◌-ℤ◌, ◌*ℤ◌}
use Rattle.std.specs.Int.Signed.{lt_z}
use Rattle.settings.specs.Settings.{mode1, MinSpd, SpdRampRate, CmdStart, CmdGain}
use Rattle.fields.specs.declared.Tick.{Tick}
use Rattle.motor.specs.Counts.{at_rest}
use Rattle.motor.specs.declared.Run.{Run}
use Rattle.motor.specs.declared.Watched.{Watched}

-- "kept times 2048"
abbrev pub times2048 : ℤ → ℤ
times2048 z = z *ℤ pos 2048

-- "Mode 0 target: where its absolute value is below MinSpd, MinSpd with its sign, 0 being positive."
unfoldable pub target0 : ℕ → ℤ → ℤ
target0 min_spd target =
    cond (ltb (nat_abs target) min_spd) (cond (lt_z target (pos 0)) (neg_ℤ (pos min_spd)) (pos min_spd)) target

-- "Mode 1: MinSpd plus floor((control - CmdStart) x CmdGain / 4096), at most 16383; MinSpd where control is below CmdStart."
abbrev pub target1 : ℕ → ℕ → ℕ → ℕ → ℕ
target1 min_spd start gain control =
    cond (ltb control start) min_spd (min (min_spd + (control - start) * gain / 4096) 16383)

unfoldable pub target_of : List ℕ → Tick → ℤ
target_of s t =
    cond (mode1 s) (pos (target1 (MinSpd s) (CmdStart s) (CmdGain s) t.control)) (target0 (MinSpd s) t.target)

-- "moves it toward the target by at most SpdRampRate without passing it"
unfoldable pub toward : ℕ → ℤ → ℤ → ℤ
toward rate target reference =
    cond (lt_z (reference +ℤ pos rate) target) (reference +ℤ pos rate)
    (cond (lt_z target (reference -ℤ pos rate)) (reference -ℤ pos rate) target)

-- "Each tick staying there moves it toward the target"
abbrev pub ramped : List ℕ → Tick → ℤ → ℤ
ramped s t reference = toward (SpdRampRate s) (times2048 (target_of s t)) reference

-- "Entering MOTORRUN takes the measured speed."
abbrev pub starting : Tick → Run
starting t = record { slots = at_rest.slots; rotor_lock_ticks = 0; hall_still_ticks = 0; reference = times2048 t.speed }

-- a tick that stays in MOTORRUN: the counts go on, and the reference moves toward the target
abbrev pub ran : List ℕ → Tick → Watched → Run → Run
ran s t w r =
    record {
      slots = w.slots;
      rotor_lock_ticks = w.rotor_lock_ticks;
      hall_still_ticks = w.hall_still_ticks;
      reference = ramped s t r.reference;
    }

-- after a tick that stays in MOTORRUN, or that enters it; "other states hold 0"
abbrev pub after : List ℕ → Tick → Watched → Bool → Bool → Run → Run
after s t w stays enters r = cond stays (ran s t w r) (cond enters (starting t) at_rest)
