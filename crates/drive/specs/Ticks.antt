-- Document 01: the tick. Causes, then the command, then one move.
use Rattle.std.specs.Prelude.{ℕ, Bool, true, false, cond, not, ◌&&◌, ◌||◌}
use Rattle.numbers.specs.Count.{up}
use Rattle.faults.specs.Word.{◌or◌, any}
use Rattle.faults.specs.Exit.{arms, retried}
use Rattle.states.specs.States.{is}
use Rattle.states.specs.declared.State.{State}
use Rattle.states.specs.declared.State.TheVariants.{Stop}
use Rattle.settings.specs.Settings.{OffsetPsc, RetryLimit, samples}
use Rattle.fields.specs.declared.Tick.{Tick}
use Rattle.motor.specs.Counts.{at_rest, watched}
use Rattle.motor.specs.Reference.{after}
use Rattle.motor.specs.declared.Run.{Run}
use Rattle.motor.specs.declared.Watched.{Watched}
use Rattle.moves.specs.Moves.{move_of}
use Rattle.moves.specs.declared.Grounds.{Grounds}
use Rattle.moves.specs.declared.Move.{Move}
use Rattle.moves.specs.declared.Move.TheVariants.{Stay, Enter, Measure, Clear, Retry}
use Rattle.verdicts.specs.Table.{verdict}
use Rattle.drive.specs.Flags.{alive}
use Rattle.drive.specs.Command.{low, high}
use Rattle.drive.specs.Offsets.{measured_by, cleared}
use Rattle.drive.specs.Causes.{causes}
use Rattle.drive.specs.Refusals.{tick_rows}
use Rattle.drive.specs.Calls.{becomes, settle}
use Rattle.drive.specs.declared.Drive.{Drive}
use Rattle.drive.specs.declared.offsets.Offsets.{Offsets}
use Rattle.drive.specs.declared.answer.Reply.{Reply}

-- a tick that moves: "Entering a state zeroes its cycle and tick counts"
abbrev pub arrive :
    Drive
    → (state : State) (flags : ℕ) (offsets : Offsets) (run : Run) (armed : Bool) (retries : ℕ)
    → Drive
arrive d state flags offsets run armed retries = becomes d state d.hall flags 0 0 offsets run armed retries

-- "Entering a state zeroes .. in OFFSETCAL its sums"; "A start or entry to FAULT disarms, also in that tick."
abbrev pub entered : Drive → Tick → Watched → (flags : ℕ) (armed : Bool) → State → Drive
entered d t w flags armed state =
    arrive d state flags
    (cond (is 2 state) (cleared d.offsets) d.offsets)
    (after d.settings t w false (is 4 state) d.run)
    (armed && not (is 3 state || is 5 state))
    d.retries

-- a tick that does not move; "Each tick staying there [MOTORRUN] moves it toward the target"
abbrev pub stayed : Drive → Tick → Watched → (flags : ℕ) (armed : Bool) (nth : ℕ) → Drive
stayed d t w flags armed nth =
    becomes d d.state d.hall flags d.cycles nth d.offsets
    (after d.settings t w (is 4 d.state) false d.run)
    armed
    d.retries

-- "to 1; each offset is its sum divided by N"
abbrev pub measured : Drive → (flags : ℕ) (armed : Bool) → Drive
measured d flags armed =
    arrive d Stop flags (measured_by (samples (OffsetPsc d.settings)) d.offsets) at_rest armed d.retries

-- "clear = 1 .. zeroes flags and retries, to 1"; "A masked cause cleared while standing is flagged again at the next tick", by
-- `raised`
abbrev pub cleared_trip : Drive → Bool → Drive
cleared_trip d armed = arrive d Stop 0 d.offsets at_rest armed 0

-- "flags zero, retries up by one, armed, to 1"
abbrev pub retried_trip : Drive → Drive
retried_trip d = arrive d Stop 0 d.offsets at_rest true (retried (RetryLimit d.settings) d.retries)

abbrev pub moved : Drive → Tick → Watched → (flags : ℕ) (armed : Bool) (nth : ℕ) → Move → Drive
moved d t w flags armed nth Stay = stayed d t w flags armed nth
moved d t w flags armed nth (Enter state) = entered d t w flags armed state
moved d t w flags armed nth Measure = measured d flags armed
moved d t w flags armed nth Clear = cleared_trip d armed
moved d t w flags armed nth Retry = retried_trip d

-- armed after what the tick commands, before it moves
abbrev pub armed_by : Drive → Tick → Bool
armed_by d t = arms d.armed (low d.settings t) (is 5 d.state)

-- which tick of its state this one is, from 1; counted to 65535, which no number of ticks that is asked for exceeds
abbrev pub nth : Drive → ℕ
nth d = up 65535 d.ticks

-- the counts of bits 4, 7 and 14 with this tick
abbrev pub watch : Drive → Tick → Watched
watch d t = watched d.settings t d.hall.still_count d.run

-- the causes that stand
abbrev pub standing : Drive → Tick → ℕ
standing d t = causes d.settings (is 4 d.state) d.hall.dead_streak t (watch d t)

-- "Causes standing at a tick set these flags, which stay until cleared."
abbrev pub raised : Drive → Tick → ℕ
raised d t = d.flags or standing d t

-- one of these flags is live
abbrev pub alight : Drive → ℕ → Bool
alight d flags = any (alive d.settings flags)

-- what the move of a tick is decided by
abbrev pub grounds : Drive → Tick → (standing raised : ℕ) → Grounds
grounds d t standing raised =
    record {
      state = d.state;
      settings = d.settings;
      cycles = d.cycles;
      measured = d.offsets.measured;
      armed = d.armed;
      retries = d.retries;
      nth = nth d;
      clear = t.clear;
      speed = t.speed;
      low = low d.settings t;
      high = high d.settings t;
      tripped = alight d raised;
      blocked = alight d standing;
    }

abbrev pub chosen : Drive → Tick → Move
chosen d t = move_of (grounds d t (standing d t) (raised d t))

unfoldable pub ticked : Drive → Tick → Drive
ticked d t = moved d t (watch d t) (raised d t) (armed_by d t) (nth d) (chosen d t)

unfoldable pub tick : Drive → Tick → Reply
tick d t = settle (verdict (tick_rows d t)) (ticked d t) d
