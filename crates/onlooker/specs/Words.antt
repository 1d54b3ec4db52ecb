-- This drive as the onlooker of demand 3 knows it: the words of its calls and answers. The numbers here are those of a load, a sample or a
-- tick, or shown by an answer: nothing is read off the drive's state. The types of calls and answers are the drive's; every test on them
-- is written anew here from documents 01 and 02, so that a mistake made in the drive's definitions and code alike is not made here.
-- Causes 0, 1, 2, 3, 6 and 15 are told by what comes in. Causes 4, 7 and 14 "count only ticks taken in MOTORRUN": none stands in FAULT, so
-- no exit has to ask for them, and while the drive runs the live word tells them.
use Rattle.std.specs.Prelude.{ℕ, zero, suc, ◌+◌, ◌*◌, ◌-◌, ◌/◌, ◌%◌, ◌^◌, Bool, not}
use Rattle.std.specs.Prelude.{◌&&◌, ◌||◌, cond, List, [], ◌∷◌, ◌++◌, eqb, ltb, leb, length, get_or}
use Rattle.numbers.specs.Count.{up}
use Rattle.theorems_history.specs.Onlooker.{Asked, load, tick, neither, Words}
use Rattle.drive.specs.AnyCall.{Call, loads, cycles, ticks, block_loads}
use Rattle.drive.specs.declared.answer.Answer.{Answer}
use Rattle.fields.specs.declared.Tick.{Tick}

-- 02, M-101: "a load of 24 numbers means 3"
abbrev pub as_loaded : List ℕ → List ℕ
as_loaded numbers = cond (eqb (length numbers) 24) (numbers ++ (3 ∷ [])) numbers

-- 02, M-102: "entries of kind .. one byte, then offset and length in bytes, two bytes each, high first": the two bytes at a place
abbrev pub two_bytes : List ℕ → ℕ → ℕ
two_bytes image at = 256 * get_or image at 0 + get_or image (at + 1) 0

-- "numbers, high byte first": so many from a place on
unfoldable pub numbers_from : List ℕ → ℕ → ℕ → List ℕ
numbers_from image at zero = []
numbers_from image at (suc count) = two_bytes image at ∷ numbers_from image (at + 2) count

-- "24 or 25 numbers": those that an accepted block load brought, by the block's own entry of five bytes
unfoldable pub stored : List ℕ → ℕ → List ℕ
stored image block =
    let start : ℕ = two_bytes image (5 * block + 1) in
    cond (eqb (two_bytes image (5 * block + 3)) (2 * 24)) (numbers_from image start 24) (numbers_from image start 25)

-- "Three calls change the state: load (settings), cycle .. and tick"; 02, M-102, of the block load: "demand 3 counts it as a load"
abbrev pub asked : Call → Asked Tick
asked (loads numbers) = load (as_loaded numbers)
asked (cycles fields) = neither
asked (ticks fields) = tick fields
asked (block_loads image block) = load (as_loaded (stored image block))

-- the loaded numbers by the paper's places: 1 ControlMode, 2 FaultEnable, 3 VdcOvLevel, 4 VdcLvLevel, 5 CriticalOvLevel, 6 Tshutdown,
-- 7 RotorLockTime, 13 MotorLim, 21 CmdStart, 22 CmdStop, 24 RetryLimit, 25 the number of sensors
abbrev pub setting : ℕ → List ℕ → ℕ
setting n s = get_or s (n - 1) 0

abbrev pub is_mode1 : List ℕ → Bool
is_mode1 s = eqb (setting 1 s) 1

-- "A flag is live if its FaultEnable bit is 1"
abbrev pub enabled : ℕ → List ℕ → Bool
enabled flag s = eqb ((setting 2 s / 2 ^ flag) % 2) 1

-- "0 or 7: dead streak up by one, at most 2"; any other pattern leaves it at zero, and so does a load. 02, M-101, of two sensors: "The
-- dead-pattern test does not apply."
abbrev pub is_dead : List ℕ → ℕ → Bool
is_dead s pattern = not (eqb (setting 25 s) 2) && (eqb pattern 0 || eqb pattern 7)

abbrev pub dead_after : List ℕ → Call → ℕ → ℕ
dead_after s (loads numbers) dead = 0
dead_after s (cycles fields) dead = cond (is_dead s fields.pattern) (up 2 dead) 0
dead_after s (ticks fields) dead = dead
dead_after s (block_loads image block) dead = 0

-- "Mode 0: low is command 0, high is command 1. Mode 1: low is control at most CmdStop, high is control at least CmdStart."
abbrev pub low_of : List ℕ → Tick → Bool
low_of s t = cond (is_mode1 s) (leb t.control (setting 22 s)) (eqb t.command 0)

abbrev pub high_of : List ℕ → Tick → Bool
high_of s t = cond (is_mode1 s) (leb (setting 21 s) t.control) (eqb t.command 1)

-- "0: gate kill is 1. 1: VdcRaw above CriticalOvLevel. 2: VdcFilt above VdcOvLevel. 3: VdcFilt below VdcLvLevel. 6: temperature above
-- Tshutdown."; "0 and 1 are always live"
abbrev pub cause_of : List ℕ → Tick → Bool
cause_of s t =
    eqb t.gate_kill 1
    || ltb (setting 5 s) t.vdc_raw
    || ltb (setting 3 s) t.vdc_filt && enabled 2 s
    || ltb t.vdc_filt (setting 4 s) && enabled 3 s
    || ltb (setting 6 s) t.temperature && enabled 6 s

-- "15: dead streak is 2."
abbrev pub dead_cause_of : List ℕ → ℕ → Bool
dead_cause_of s dead = eqb dead 2 && enabled 15 s

abbrev pub words : Words Call Answer
words =
    record {
      Tick = Tick;
      asked = asked;
      -- "0 accepted"
      accepted = λ a. eqb a.number 0;
      state = λ a. a.state;
      live_shown = λ a. not (eqb a.live 0);
      -- "off (0)", "charge (1)", "drive (2)", "all low sides on (3)": what is neither off nor the brake turns
      turns = λ a. not (eqb a.gate 0 || eqb a.gate 3);
      -- "1 STOP"; "3 BTSCHARGE", where the start leads; "5 FAULT"; "the six starting and running states (3, 4, 6, 7, 8, 9)"
      is_stop = λ n. eqb n 1;
      is_start = λ n. eqb n 3;
      is_fault = λ n. eqb n 5;
      is_running = λ n. eqb n 3 || eqb n 4 || eqb n 6 || eqb n 7 || eqb n 8 || eqb n 9;
      low = low_of;
      high = high_of;
      clear = λ t. eqb t.clear 1;
      cause = cause_of;
      dead_after = dead_after;
      dead_cause = dead_cause_of;
      -- "in mode 1, from its 10,000th tick on, with fewer than RetryLimit retries used"
      timed = is_mode1;
      wait = 10000;
      limit = setting 24;
    }
