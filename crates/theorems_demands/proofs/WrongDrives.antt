-- Wrong drives: each is this drive but for one lie or one blind spot, in its replies, its state and its account of itself alike. Demand 3
-- catches each at the last call of a run that is written out. antt computes each verdict. (This drive passes every run: Lawful.antt.)
use mathlib.Core.Path.{◌≡◌, refl}
use mathlib.Core.Bool.{Bool, true, false, not, ◌&&◌, cond}
use mathlib.Core.List.{List, [], ◌∷◌, ◌++◌, reverse}
use Prim.Native.Nat.{ℕ}
use lib.Dec.{eqb}
use lib.ListN.{drop}
use Rattle.theorems_history.specs.Log.{log}
use Rattle.theorems_history.specs.Onlooker.{notes}
use Rattle.theorems_history.specs.History.{Seen, holds}
use Rattle.states.specs.States.{is}
use Rattle.states.specs.declared.State.{State}
use Rattle.states.specs.declared.State.TheVariants.{Idle, Stop, BtsCharge, MotorRun}
use Rattle.fields.specs.declared.Tick.{Tick}
use Rattle.drive.specs.Answer.{gate_of, reply as replied}
use Rattle.settings.specs.Settings.{meant}
use Rattle.drive.specs.Calls.{loaded as freshly}
use Rattle.drive.specs.Ticks.{arrive, retried_trip}
use Rattle.drive.specs.AnyCall.{Call, loads, cycles, ticks, block_loads, reply}
use Rattle.drive.specs.declared.Drive.{Drive}
use Rattle.drive.specs.declared.answer.Answer.{Answer}
use Rattle.drive.specs.declared.answer.Reply.{Reply}
use Rattle.theorems_history.proofs.Judges.{judges}
use Rattle.theorems_reached.specs.Machine.{machine_of}
use Rattle.theorems_demands.proofs.Computes.{computes}
use Rattle.theorems_demands.specs.NamedCalls.{settings_with, loaded, loaded_in_mode1, shows, tick_with, low, high, over, clear}
use Rattle.theorems_demands.specs.NamedCalls.{ready, started}
use Rattle.onlooker.specs.Words.{words}

-- a drive is what it replies in each state
abbrev pub Replies : Type 0
Replies = Drive → Call → Reply

-- ---- blind drives: a field of a tick is read as a harmless number, in every state, in MOTORRUN alone, or elsewhere alone

abbrev Hides : Type 0
Hides = Tick → Tick

abbrev hiding : (kill command control raw filtered temperature : ℕ → ℕ) → Hides
hiding kill command control raw filtered temperature t =
    record {
      gate_kill = kill t.gate_kill;
      clear = t.clear;
      command = command t.command;
      control = control t.control;
      vdc_raw = raw t.vdc_raw;
      vdc_filt = filtered t.vdc_filt;
      temperature = temperature t.temperature;
      flx_m = t.flx_m;
      trq_ref = t.trq_ref;
      speed = t.speed;
      target = t.target;
    }

abbrev always : ℕ → ℕ → ℕ
always harmless number = harmless

abbrev seen : ℕ → ℕ
seen number = number

abbrev hides_kill : Hides
hides_kill = hiding (always 0) seen seen seen seen seen

abbrev hides_command : Hides
hides_command = hiding seen (always 1) seen seen seen seen

abbrev hides_control : Hides
hides_control = hiding seen seen (always 400) seen seen seen

abbrev hides_raw : Hides
hides_raw = hiding seen seen seen (always 2623) seen seen

abbrev hides_filtered : Hides
hides_filtered = hiding seen seen seen seen (always 2623) seen

abbrev hides_temperature : Hides
hides_temperature = hiding seen seen seen seen seen (always 1000)

-- a call with such fields
abbrev altered : Hides → Call → Call
altered hide (loads numbers) = loads numbers
altered hide (cycles fields) = cycles fields
altered hide (ticks fields) = ticks (hide fields)
altered hide (block_loads image block) = block_loads image block

abbrev blind_where : (State → Bool) → Hides → Replies
blind_where there hide d call = reply d (cond (there d.state) (altered hide call) call)

abbrev blind_in_motor_run : Hides → Replies
blind_in_motor_run = blind_where (is 4)

abbrev blind_elsewhere : Hides → Replies
blind_elsewhere = blind_where (λ state. not (is 4 state))

-- a dead sample is read as the pattern 1
abbrev blind_to_dead_samples : Replies
blind_to_dead_samples d (block_loads image block) = reply d (block_loads image block)
blind_to_dead_samples d (loads numbers) = reply d (loads numbers)
blind_to_dead_samples d (cycles fields) = reply d (cycles (record { pattern = 1; first = fields.first; second = fields.second }))
blind_to_dead_samples d (ticks fields) = reply d (ticks fields)

-- ---- drives that lie

-- the same reply with another gate
abbrev showing : ℕ → Reply → Reply
showing gate r =
    let a : Answer = r.answer in
    record {
      drive = r.drive;
      answer =
          record {
            number = a.number;
            place = a.place;
            state = a.state;
            gate = gate;
            live = a.live;
            reference = a.reference;
            position = a.position;
            angle = a.angle;
            offsets = a.offsets;
            retries = a.retries;
            judged = a.judged;
          };
    }

-- the gate ignores every fault, though the state is right
abbrev gate_ignores_faults : Replies
gate_ignores_faults d call = let r : Reply = reply d call in showing (gate_of r.drive.state) r

-- in FAULT the gate has a number that the paper does not know
abbrev gate_of_no_name : Replies
gate_of_no_name d call = let r : Reply = reply d call in cond (is 5 r.drive.state) (showing 4 r) r

-- a stray sample shuts the gates, with nothing else to show for it
abbrev gate_rests : Replies
gate_rests d (block_loads image block) = reply d (block_loads image block)
gate_rests d (loads numbers) = reply d (loads numbers)
gate_rests d (cycles fields) = let r : Reply = reply d (cycles fields) in cond (eqb fields.pattern 6) (showing 0 r) r
gate_rests d (ticks fields) = reply d (ticks fields)

-- moved to a state, with no flag and all else as it was
abbrev put : State → Drive → Drive
put state d = arrive d state 0 d.offsets d.run d.armed d.retries

-- FAULT shows no flag, and a tick in it runs on with no start
abbrev trips_in_silence : Replies
trips_in_silence d (block_loads image block) = reply d (block_loads image block)
trips_in_silence d (loads numbers) = reply d (loads numbers)
trips_in_silence d (cycles fields) = reply d (cycles fields)
trips_in_silence d (ticks fields) =
    let next : Drive = (reply d (ticks fields)).drive in
    cond (is 5 d.state) (replied 0 0 (put MotorRun d)) (replied 0 0 (cond (is 5 next.state) (put next.state next) next))

-- a trip goes to STOP, and no flag is left of it
abbrev stops_at_a_trip : Replies
stops_at_a_trip d (block_loads image block) = reply d (block_loads image block)
stops_at_a_trip d (loads numbers) = reply d (loads numbers)
stops_at_a_trip d (cycles fields) = reply d (cycles fields)
stops_at_a_trip d (ticks fields) =
    let next : Drive = (reply d (ticks fields)).drive in cond (is 5 next.state) (replied 0 0 (put Stop next)) (replied 0 0 next)

-- a dead sample sends MOTORRUN to IDLE, and the next sample sends it back
abbrev nods : Replies
nods d (block_loads image block) = reply d (block_loads image block)
nods d (loads numbers) = reply d (loads numbers)
nods d (cycles fields) =
    cond (is 4 d.state) (replied 0 0 (put Idle d)) (cond (is 0 d.state) (replied 0 0 (put MotorRun d)) (reply d (cycles fields)))
nods d (ticks fields) = reply d (ticks fields)

-- MOTORRUN goes back to BTSCHARGE, and starts anew
abbrev restarts : Replies
restarts d (block_loads image block) = reply d (block_loads image block)
restarts d (loads numbers) = reply d (loads numbers)
restarts d (cycles fields) = reply d (cycles fields)
restarts d (ticks fields) = cond (is 4 d.state) (replied 0 0 (put BtsCharge d)) (reply d (ticks fields))

-- FAULT is left in a cycle, or by a load
abbrev leaves_in_a_cycle : Replies
leaves_in_a_cycle d (block_loads image block) = reply d (block_loads image block)
leaves_in_a_cycle d (loads numbers) = reply d (loads numbers)
leaves_in_a_cycle d (cycles fields) = cond (is 5 d.state) (replied 0 0 (put Stop d)) (reply d (cycles fields))
leaves_in_a_cycle d (ticks fields) = reply d (ticks fields)

abbrev leaves_by_a_load : Replies
leaves_by_a_load d (block_loads image block) = reply d (block_loads image block)
leaves_by_a_load d (loads numbers) = cond (is 5 d.state) (replied 0 0 (freshly (meant numbers))) (reply d (loads numbers))
leaves_by_a_load d (cycles fields) = reply d (cycles fields)
leaves_by_a_load d (ticks fields) = reply d (ticks fields)

-- a retry at FAULT's first tick
abbrev retries_at_once : Replies
retries_at_once d (block_loads image block) = reply d (block_loads image block)
retries_at_once d (loads numbers) = reply d (loads numbers)
retries_at_once d (cycles fields) = reply d (cycles fields)
retries_at_once d (ticks fields) = cond (is 5 d.state) (replied 0 0 (retried_trip d)) (reply d (ticks fields))

-- ---- the runs

-- the run up to MOTORRUN, in mode 0
abbrev pub running : List Call
running = ready loaded ++ started 5

-- .. in mode 1, and with no bit of FaultEnable but that of flag 2
abbrev running_in_mode1 : List Call
running_in_mode1 = ready loaded_in_mode1 ++ started 5

abbrev running_with_bit2 : List Call
running_with_bit2 = ready (loads (0 ∷ 4 ∷ drop 2 (settings_with 0 0))) ++ started 5

-- ticks with one thing wrong, the command high: gate kill, VdcRaw, VdcFilt too high, too low; the temperature; a low
abbrev hot : Call
hot = altered (hiding seen seen seen seen seen (always 3501)) high

abbrev kill : ℕ → Call
kill clear = tick_with 1 clear 1 400 2623 2623 0 700

abbrev brake : Call
brake = tick_with 0 0 1 400 3501 2623 0 700

abbrev under : Call
under = tick_with 0 0 1 400 2623 999 0 700

-- a wrong drive, and the calls at whose last it is caught
abbrev pub Row : Type 0
Row = Replies × List Call

abbrev rows : List Row
rows =
    -- "the answer's gate ignores every fault, though the state is right"
    (gate_ignores_faults, running ++ (shows 0 ∷ shows 0 ∷ [])) ∷
    (gate_of_no_name, running ++ (over ∷ [])) ∷
    -- "gate kill raises no flag in MOTORRUN"; so for the other causes that a tick and the samples tell
    (blind_in_motor_run hides_kill, running ++ (kill 0 ∷ [])) ∷
    (blind_in_motor_run hides_raw, running ++ (brake ∷ [])) ∷
    (blind_in_motor_run hides_filtered, running ++ (over ∷ [])) ∷
    (blind_in_motor_run hides_filtered, running ++ (under ∷ [])) ∷
    (blind_in_motor_run hides_filtered, running_with_bit2 ++ (over ∷ [])) ∷
    (blind_in_motor_run hides_temperature, running ++ (hot ∷ [])) ∷
    (blind_to_dead_samples, running ++ (shows 0 ∷ shows 7 ∷ [])) ∷
    -- "gate kill counts as a cause in MOTORRUN only, so FAULT is left .. with gate kill held"
    (blind_elsewhere hides_kill, running ++ (kill 0 ∷ kill 1 ∷ [])) ∷
    -- "a supervisor that trips without showing a flag, stands in FAULT and runs again with no start"
    (trips_in_silence, running ++ (over ∷ high ∷ [])) ∷
    -- a trip of which nothing is shown, and a start after it; gates that rest, and turn again with no start
    (stops_at_a_trip, running ++ (over ∷ low ∷ high ∷ [])) ∷
    (gate_rests, running ++ (shows 6 ∷ shows 1 ∷ [])) ∷
    -- a start anew out of MOTORRUN, with no low
    (restarts, running ++ (high ∷ [])) ∷
    -- "RUN to IDLE and back to RUN without a start"
    (nods, running ++ (shows 0 ∷ shows 1 ∷ [])) ∷
    -- "FAULT left in a cycle or a load, the cause still there"
    (leaves_in_a_cycle, running ++ (over ∷ shows 1 ∷ [])) ∷
    (leaves_by_a_load, running ++ (over ∷ loaded ∷ [])) ∷
    -- "a 'retry' at FAULT's first tick, or in mode 0"
    (retries_at_once, running_in_mode1 ++ (over ∷ high ∷ [])) ∷
    (retries_at_once, running ++ (over ∷ high ∷ [])) ∷
    -- a low that is not heeded, in mode 0 and, by the control level alone, in mode 1
    (blind_in_motor_run hides_command, running ++ (low ∷ [])) ∷
    (blind_in_motor_run hides_control, running_in_mode1 ++ (tick_with 0 0 1 300 2623 2623 0 700 ∷ [])) ∷
    []

abbrev pub noted : Replies → List Call → List Seen
noted replies calls = notes words (log (machine_of replies) (reverse calls))

-- the rule holds up to the newest call, and not with it
abbrev breaks_now : List Seen → Bool
breaks_now [] = false
breaks_now (call ∷ past) = holds past && not (holds (call ∷ past))

abbrev pub all_caught : List Row → Bool
all_caught [] = true
all_caught (row ∷ rest) = breaks_now (noted row.0 row.1) && all_caught rest

pub each_is_caught : all_caught rows ≡ true
unfolding judges computes
each_is_caught = refl
