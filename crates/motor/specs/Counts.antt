-- Document 01, "Causes", and 02, M-103: what bits 4, 7 and 14 count in MOTORRUN.
use Rattle.std.specs.Prelude.{ℕ, ◌*◌, ◌/◌, Bool, false, ◌&&◌, ◌||◌, not, cond, List, eqb, ltb, leb, pos, nat_abs}
use Rattle.numbers.specs.Count.{up}
use Rattle.settings.specs.Settings.{FluxFaultTime, RotorLockTime, HallTimeoutPeriod, MotorLim}
use Rattle.fields.specs.declared.Tick.{Tick}
use Rattle.motor.specs.declared.Slots.{Slots}
use Rattle.motor.specs.declared.Run.{Run}
use Rattle.motor.specs.declared.Watched.{Watched}

-- "from zero at each entry"; "other states hold 0"
abbrev pub at_rest : Run
at_rest =
    record {
      slots = record { ticks = 0; bad = false; bad_slots = 0 };
      rotor_lock_ticks = 0;
      hall_still_ticks = 0;
      reference = pos 0;
    }

-- 4: "slots of floor(5 x FluxFaultTime / 4) ticks"
abbrev pub slot_length : ℕ → ℕ
slot_length time = 5 * time / 4

-- a tick that makes its slot bad: "Flx_M below 512 or above 8192"
abbrev pub bad_flux : ℕ → Bool
bad_flux flux = ltb flux 512 || ltb 8192 flux

-- this tick is the last of its slot
abbrev pub ends : ℕ → Slots → Bool
ends length s = eqb (up length s.ticks) length

-- "a slot is bad if any tick [is]"; a good slot ends the row of bad ones
abbrev pub next_slots : ℕ → Bool → Slots → Slots
next_slots length bad_tick s =
    record {
      ticks = cond (ends length s) 0 (up length s.ticks);
      bad = (s.bad || bad_tick) && not (ends length s);
      bad_slots = cond (ends length s) (cond (s.bad || bad_tick) (up 8 s.bad_slots) 0) s.bad_slots;
    }

-- "It stands at the end of the eighth consecutive bad slot, and of each bad one following."
abbrev pub flux_stands : ℕ → Bool → Slots → Bool
flux_stands length bad_tick s = ends length s && (s.bad || bad_tick) && eqb (up 8 s.bad_slots) 8

-- a condition "for [limit] consecutive ticks, and while this goes on": the count, and whether it stands
abbrev pub lasting : ℕ → Bool → ℕ → ℕ
lasting limit holds count = cond holds (up limit count) 0

abbrev pub lasts : ℕ → Bool → ℕ → Bool
lasts limit holds count = holds && eqb (up limit count) limit

-- 7: "the absolute TrqRef is at least MotorLim and the absolute speed lies in MinSpd..4095"; 02, M-103: "01 starts its speed range at
-- MinSpd. .. the house rule now differs: the range is every absolute speed up to 4095."
abbrev pub locked : List ℕ → Tick → Bool
locked s t = leb (MotorLim s) (nat_abs t.trq_ref) && leb (nat_abs t.speed) 4095

-- one tick taken in MOTORRUN: the counts after it, and which of the three causes stand; 7: "for 10 x RotorLockTime consecutive ticks";
-- 14: "the still count is 4096 for 10 x HallTimeoutPeriod consecutive ticks, and while this goes on"
unfoldable pub watched : List ℕ → Tick → ℕ → Run → Watched
watched s t still_count r =
    record {
      slots = next_slots (slot_length (FluxFaultTime s)) (bad_flux t.flx_m) r.slots;
      rotor_lock_ticks = lasting (10 * RotorLockTime s) (locked s t) r.rotor_lock_ticks;
      hall_still_ticks = lasting (10 * HallTimeoutPeriod s) (eqb still_count 4096) r.hall_still_ticks;
      flux = flux_stands (slot_length (FluxFaultTime s)) (bad_flux t.flx_m) r.slots;
      locked = lasts (10 * RotorLockTime s) (locked s t) r.rotor_lock_ticks;
      timeout = lasts (10 * HallTimeoutPeriod s) (eqb still_count 4096) r.hall_still_ticks;
    }
