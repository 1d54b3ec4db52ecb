-- Wrong drives about Hall samples: each is this drive but for one thing, in its state and its account of itself alike. The letter and the
-- position that the log tells differ from its answer at the last call of a run that is written out. antt computes each verdict. (This
-- drive passes: Letters.antt.)
use mathlib.Core.Path.{◌≡◌, refl}
use mathlib.Core.Bool.{Bool, true, false, not, ◌&&◌, cond}
use mathlib.Core.List.{List, [], ◌∷◌, ◌++◌, map, reverse}
use Prim.Native.Nat.{ℕ, ◌+◌, ◌-◌, ◌%◌, ◌^◌}
use Prim.Native.Char.{code}
use lib.Dec.{eqb}
use Rattle.std.specs.Prelude.{Option, Some, None}
use Rattle.theorems_history.specs.Log.{Machine, log}
use Rattle.theorems_history.proofs.Judges.{judges}
use Rattle.hall.specs.declared.Hall.{Hall}
use Rattle.hall.specs.declared.fate.Fate.{Fate}
use Rattle.hall.specs.declared.fate.Fate.TheVariants.{Dead, First, Same, Forward, Back, Stray}
use Rattle.hall.specs.declared.layout.Sensors.{Sensors}
use Rattle.hall.specs.declared.layout.Sensors.TheVariants.{Three}
use Rattle.drive.specs.Answer.{letter_of, letter, reply_telling}
use Rattle.states.specs.States.{is}
use Rattle.states.specs.declared.State.TheVariants.{Stop}
use Rattle.drive.specs.Calls.{fresh, becomes, power_up}
use Rattle.drive.specs.AnyCall.{Call, loads, cycles, ticks, block_loads, reply}
use Rattle.drive.specs.declared.Drive.{Drive}
use Rattle.drive.specs.declared.answer.Answer.{Answer}
use Rattle.drive.specs.declared.answer.Reply.{Reply}
use Rattle.theorems_reached.specs.Machine.{machine_of}
use Rattle.theorems_demands.specs.NamedCalls.{settings_with, loaded, shows, low}
use Rattle.theorems_demands.specs.FlagTwelve.{is_load}
use Rattle.theorems_demands.specs.Stalled.{Log}
use Rattle.theorems_demands.proofs.Computes.{computes, each}
use Rattle.theorems_samples.specs.Letters.{samples_of, letter_by_log, position_by_log}

abbrev Replies : Type 0
Replies = Drive → Call → Reply

-- this drive, but that each reply is changed so
abbrev changed : (Drive → Call → Reply → Reply) → Replies
changed change d call = change d call (reply d call)

abbrev is_cycle : Call → Bool
is_cycle (loads numbers) = false
is_cycle (cycles c) = true
is_cycle (ticks t) = false
is_cycle (block_loads image block) = false

abbrev accepted : Reply → Bool
accepted r = eqb r.answer.number 0

-- ---- replies that tell another sample

abbrev telling : Option Fate → Reply → Reply
telling judged r = reply_telling judged r.answer.number r.answer.place r.drive

-- the name that is told of a sample
abbrev name_of : (Fate → Option Fate) → Option Fate → Option Fate
name_of name None = None
name_of name (Some f) = name f

abbrev renamed : (Fate → Option Fate) → Reply → Reply
renamed name r = telling (name_of name r.answer.judged) r

-- two names exchanged
abbrev exchanged : Fate → Fate → Fate → Option Fate
exchanged a b f = cond (eqb (letter_of f) (letter_of a)) (Some b) (cond (eqb (letter_of f) (letter_of b)) (Some a) (Some f))

-- ---- replies that leave another Hall part

abbrev leaving : (Hall → Hall) → Reply → Reply
leaving change r =
    let d : Drive = r.drive in
    reply_telling r.answer.judged r.answer.number r.answer.place
    (becomes d d.state (change d.hall) d.flags d.cycles d.ticks d.offsets d.run d.armed d.retries)

abbrev hall_with : Option ℕ → ℕ → ℕ → Hall → Hall
hall_with kept position stray hall =
    record {
      kept = kept;
      position = position;
      angle = hall.angle;
      dead_streak = hall.dead_streak;
      stray_streak = stray;
      still_count = hall.still_count;
    }

-- what it left, but for the pattern, the position or the stray streak
abbrev keeping : Option ℕ → Reply → Reply
keeping kept = leaving (λ h. hall_with kept h.position h.stray_streak h)

abbrev counting : (ℕ → ℕ) → Reply → Reply
counting count = leaving (λ h. hall_with h.kept (count h.position) h.stray_streak h)

abbrev straying : ℕ → Reply → Reply
straying stray = leaving (λ h. hall_with h.kept h.position stray h)

abbrev is_fate : ℕ → Reply → Bool
is_fate n r = eqb (letter r.answer.judged) n

-- what an accepted load left, with other sensors than it chose
abbrev sensing : Sensors → Reply → Reply
sensing sensors r = cond (accepted r) (reply_telling None 0 0 (fresh Stop r.drive.settings sensors)) r

-- ---- a drive that remembers the name before: it tells each cycle the letter of the one before it

abbrev one_late : Machine
one_late =
    record {
      State = Drive × Option Fate;
      Call = Call;
      Answer = Answer;
      power_up = (power_up, None);
      step = λ s call.
          let r : Reply = reply s.0 call in (r.drive, cond (is_cycle call && accepted r) r.answer.judged s.1);
      answer = λ s call.
          let r : Reply = reply s.0 call in (cond (is_cycle call && accepted r) (telling s.1 r) r).answer;
    }

-- ---- the runs

abbrev two : Call
two = loads (settings_with 0 0 ++ (2 ∷ []))

-- a load of three sensors, and cycles with these patterns
abbrev fed : List ℕ → List Call
fed patterns = loaded ∷ map shows patterns

-- a wrong drive, and the calls at whose last it is told
abbrev Row : Type 0
Row = Replies × List Call

abbrev rows : List Row
rows =
    -- names exchanged
    (changed (λ d call. renamed (exchanged First Same)), fed (1 ∷ [])) ∷
    (changed (λ d call. renamed (exchanged Forward Back)), fed (1 ∷ 3 ∷ [])) ∷
    (changed (λ d call. renamed (exchanged Dead Stray)), fed (0 ∷ [])) ∷
    -- "a refused sample is not judged"; a tick and a load bring none
    (changed (λ d call r. cond (is_cycle call && not (accepted r)) (telling (Some Same) r) r), fed (8 ∷ [])) ∷
    (changed (λ d call r. cond (is_cycle call) r (telling (Some Same) r)), loaded ∷ low ∷ []) ∷
    (changed (λ d call r. cond (is_cycle call) r (telling (Some First) r)), loaded ∷ []) ∷
    -- "the sample that makes flag 15 keeps its name"
    (changed (λ d call r. cond (eqb r.answer.live 32768) (telling None r) r), fed (1 ∷ 6 ∷ 6 ∷ 6 ∷ [])) ∷
    (changed (λ d call r. cond (eqb r.answer.live 32768) (telling None r) r), fed (1 ∷ 0 ∷ 7 ∷ [])) ∷
    -- the pattern kept over two dead samples; forgotten after one; forgotten by a tick; forgotten by a refused cycle; kept over a load
    (changed (λ d call r. cond (is_fate (code "D") r) (keeping d.hall.kept r) r), fed (1 ∷ 0 ∷ 0 ∷ 1 ∷ [])) ∷
    (changed (λ d call r. cond (is_fate (code "D") r) (keeping None r) r), fed (1 ∷ 0 ∷ 1 ∷ [])) ∷
    (changed (λ d call r. cond (is_cycle call) r (keeping None r)), loaded ∷ shows 1 ∷ low ∷ shows 1 ∷ []) ∷
    (changed (λ d call r. cond (accepted r) r (keeping None r)), fed (1 ∷ 8 ∷ 1 ∷ [])) ∷
    (changed (λ d call r. cond (is_cycle call) r (keeping d.hall.kept r)), loaded ∷ shows 1 ∷ fed (1 ∷ [])) ∷
    -- a stray streak that a dead sample does not end; one that is forgotten at its second
    (
      changed (λ d call r. cond (is_fate (code "D") r) (straying d.hall.stray_streak r) r),
      fed (1 ∷ 6 ∷ 6 ∷ 0 ∷ 6 ∷ 1 ∷ []),
    ) ∷ (
      changed (λ d call r. cond (is_fate (code "X") r && eqb d.hall.stray_streak 1) (keeping None r) r),
      fed (1 ∷ 6 ∷ 6 ∷ 1 ∷ []),
    ) ∷
    -- a stray pattern that is kept
    (changed (λ d call r. cond (is_fate (code "X") r) (keeping (Some 6) r) r), fed (1 ∷ 6 ∷ 6 ∷ [])) ∷
    -- three sensors whatever is loaded; those of the load before
    (changed (λ d call r. cond (is_load call) (sensing Three r) r), two ∷ shows 0 ∷ []) ∷
    (changed (λ d call r. cond (is_load call && not (is 0 d.state)) (sensing d.sensors r) r), two ∷ fed (0 ∷ [])) ∷
    -- the position: counted at a first sample; up where the step is back; not at all; by one where the sector has two; kept over a load
    (changed (λ d call r. cond (is_fate (code "F") r) (counting (λ n. n + 1) r) r), fed (1 ∷ [])) ∷
    (changed (λ d call r. cond (is_fate (code "B") r) (counting (λ n. (n + 2) % 2 ^ 32) r) r), fed (3 ∷ 1 ∷ [])) ∷
    (changed (λ d call r. cond (is_fate (code "W") r) (counting (λ n. d.hall.position) r) r), fed (1 ∷ 3 ∷ [])) ∷
    (changed (λ d call r. cond (is_fate (code "W") r) (counting (λ n. n - 1) r) r), two ∷ shows 1 ∷ shows 3 ∷ []) ∷ (
      changed (λ d call r. cond (is_cycle call) r (counting (λ n. d.hall.position) r)),
      fed (1 ∷ 3 ∷ []) ++ (loaded ∷ []),
    ) ∷
    []

-- the newest answer has the letter and the position that the log tells
abbrev agrees : Log → Bool
agrees [] = true
agrees (e ∷ past) = eqb (letter e.answer.judged) (letter_by_log e past) && eqb e.answer.position (position_by_log e past)

abbrev told_now : Row → Bool
told_now row = not (agrees (log (machine_of row.0) (reverse row.1)))

pub each_is_told : each told_now rows ≡ true
unfolding judges computes samples_of
each_is_told = refl

-- the letter of the cycle before is told at the first pattern, and so at a step behind two of the same
pub one_late_is_told :
    each (λ (calls : List Call). not (agrees (log one_late (reverse calls))))
    ((loaded ∷ shows 1 ∷ []) ∷ (loaded ∷ shows 1 ∷ shows 1 ∷ shows 3 ∷ []) ∷ [])
    ≡ true
unfolding judges computes samples_of
one_late_is_told = refl

-- and this drive agrees at each of those runs' ends: the test does not refuse everything
pub this_drive_agrees : each (λ (row : Row). agrees (log (machine_of reply) (reverse row.1))) rows ≡ true
unfolding judges computes samples_of
this_drive_agrees = refl
