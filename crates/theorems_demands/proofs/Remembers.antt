-- What the onlooker remembers of the log is so of the drive: each call leaves it so.
use mathlib.Core.Path.{◌≡◌, refl, sym}
use mathlib.Core.Bool.{Bool, true, false, not, ◌&&◌, ◌||◌, cond}
use mathlib.Core.List.{List}
use Prim.Native.Nat.{ℕ, ◌≤◌, ◌<◌, zero-le}
use native.Mathlib.Omega.{arith}
use lib.Dec.{T, eqb}
use lib.Ieee.Bits.{is_true}
use lib.ListN.{length, get_or}
use Rattle.theorems_history.specs.Onlooker.{Memory, nothing_yet, load, remember}
use Rattle.states.specs.States.{number_of, is}
use Rattle.drive.specs.Answer.{answer, answer_telling}
use Rattle.settings.specs.Settings.{setting_count, all_settings, meant}
use Rattle.settings.proofs.Meant.{length-meant}
use Rattle.numbers.proofs.Fill.{first_at}
use Rattle.hall.specs.declared.layout.Sensors.{Sensors}
use Rattle.hall.specs.declared.layout.Sensors.TheVariants.{Three, Two}
use Rattle.drive.specs.Refusals.{highest_pattern}
use Rattle.drive.specs.Calls as Calls
use Rattle.drive.specs.Calls.{power_up, becomes, loaded, cycled}
use Rattle.drive.specs.Ticks.{ticked, arrive, moved, watch, raised, armed_by, nth, chosen}
use Rattle.drive.specs.AnyCall.{Call, cycles, ticks}
use Rattle.drive.specs.declared.Drive.{Drive}
use Rattle.fields.specs.declared.Cycle.{Cycle}
use Rattle.fields.specs.declared.Tick.{Tick}
use Rattle.moves.specs.declared.Move.{Move}
use Rattle.moves.specs.declared.Move.TheVariants.{Stay, Enter, Measure, Clear, Retry}
use Rattle.states.specs.declared.State.{State}
use Rattle.drive.specs.declared.offsets.Offsets.{Offsets}
use Rattle.motor.specs.declared.Run.{Run}
use Rattle.theorems_reached.proofs.Hall.{dead_pattern, dead_by_pattern}
use Rattle.onlooker.specs.Words.{words, asked, dead_after, is_dead}

-- the numbers of a load are the drive's settings, and choose its sensors
pub record Agree (numbers settings : List ℕ) (sensors : Sensors) : Type 0 where
  pub setting : (i : ℕ) → i < setting_count → get_or numbers i 0 ≡ get_or settings i 0
  pub chooses : Calls.chosen numbers ≡ sensors

pub record Remembers (d : Drive) (memory : Memory) : Type 0 where
  -- in IDLE nothing is loaded, and nothing is asked of what is
  pub loaded : T (not (is 0 d.state)) → Agree memory.numbers d.settings d.sensors
  pub shown : memory.shown ≡ number_of d.state
  -- the drive stops counting at 65535; he does not
  pub waited : T (is 5 d.state) → d.ticks ≤ memory.waited
  pub dead : memory.dead ≡ d.hall.dead_streak

pub remembers_power_up : Remembers power_up nothing_yet
remembers_power_up = record { loaded = λ t. absurd t; shown = refl; waited = λ t. absurd t; dead = refl }

-- he calls dead what the layout does that the numbers choose
pub dead_alike : (numbers : List ℕ) (p : ℕ) → is_dead numbers p ≡ dead_pattern (Calls.chosen numbers) p
dead_alike numbers p = go (eqb (get_or numbers 24 0) 2)
  where
    go : (two : Bool) → (not two && (eqb p 0 || eqb p 7)) ≡ dead_pattern (cond two Two Three) p
    go true = refl
    go false = refl

-- the drive with other flags
abbrev pub flagged : Drive → ℕ → Drive
flagged d flags = becomes d d.state d.hall flags d.cycles d.ticks d.offsets d.run d.armed d.retries

-- his memory after a call that was refused with this number, and after one that was accepted
abbrev pub after_refused : Memory → Call → ℕ → ℕ → Drive → Memory
after_refused memory call number at d = remember words memory (record { call = call; answer = answer number at d })

abbrev pub after_accepted : Memory → Call → Drive → Memory
after_accepted memory call next = remember words memory (record { call = call; answer = answer 0 0 next })

module _ (d : Drive) (memory : Memory) (knows : Remembers d memory) where
  -- in FAULT the last answer showed it
  in_fault_lem : T (is 5 d.state) → eqb memory.shown 5 ≡ true
  in_fault_lem fault = rw knows.shown (is_true (is 5 d.state) fault)

  -- a refused call, whatever flags it leaves
  pub refused_remembers :
      (flags : ℕ) (call : Call) (number at : ℕ)
      → eqb number 0 ≡ false
      → (let left : Drive = flagged d flags in Remembers left (after_refused memory call number at left))
  unfolding answer_telling
  refused_remembers flags call number at refused =
      record {
        loaded = λ outside. rw refused (knows.loaded outside);
        shown = refl;
        waited = λ fault. rw (in_fault_lem fault, refused) (knows.waited fault);
        dead = rw refused knows.dead;
      }

  -- an accepted load of either kind: it asks for these numbers
  pub load_remembers :
      (call : Call) (numbers : List ℕ)
      → asked call ≡ load (meant numbers)
      → dead_after memory.numbers call memory.dead ≡ 0
      → (eqb (length numbers) setting_count || eqb (length numbers) all_settings) ≡ true
      → Remembers (loaded (meant numbers)) (after_accepted memory call (loaded (meant numbers)))
  unfolding answer_telling
  load_remembers call numbers asks none either =
      record {
        loaded = λ t.
            rw asks
            (record {
              setting = λ i below.
                  sym (first_at setting_count (meant numbers) i below (omega (arith, below, length-meant numbers either)));
              chooses = refl;
            });
        shown = refl;
        waited = λ t. absurd t;
        dead = none;
      }

  -- which samples are dead is told by the loaded numbers
  pub cycle_remembers :
      (c : Cycle)
      → T (not (is 0 d.state))
      → c.pattern ≤ highest_pattern d.sensors
      → Remembers (cycled d c) (after_accepted memory (cycles c) (cycled d c))
  unfolding answer_telling cycled
  cycle_remembers c outside small =
      record {
        loaded = knows.loaded;
        shown = refl;
        waited = λ fault. rw (in_fault_lem fault) (knows.waited fault);
        dead =
            rw (knows.dead, dead_alike memory.numbers c.pattern, (knows.loaded outside).chooses)
            (sym (dead_by_pattern d.sensors d.hall c.pattern _ small));
      }

  module _ (t : Tick) (outside : T (not (is 0 d.state))) where
    abbrev next : Move → Drive
    next move = moved d t (watch d t) (raised d t) (armed_by d t) (nth d) move

    -- a tick that arrives in a state: its ticks are counted from 0
    arrives :
        {state : State} {flags retries : ℕ} {offsets : Offsets} {run : Run} {armed : Bool}
        → (let after : Drive = arrive d state flags offsets run armed retries in Remembers after (after_accepted memory (ticks t) after))
    unfolding answer_telling
    arrives = record { loaded = λ u. knows.loaded outside; shown = refl; waited = λ fault. zero-le; dead = knows.dead }

    by_move : (move : Move) → Remembers (next move) (after_accepted memory (ticks t) (next move))
    unfolding answer_telling
    by_move Stay =
        record {
          loaded = knows.loaded;
          shown = refl;
          waited = λ fault. let few = knows.waited fault in rw (in_fault_lem fault) (omega arith);
          dead = knows.dead;
        }
    by_move (Enter state) = arrives
    by_move Measure = arrives
    by_move Clear = arrives
    by_move Retry = arrives

    pub tick_remembers : Remembers (ticked d t) (after_accepted memory (ticks t) (ticked d t))
    unfolding ticked
    tick_remembers = by_move (chosen d t)
