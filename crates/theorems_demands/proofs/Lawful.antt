-- This drive obeys the laws of demand 3 at every call, and so demand 3 holds of the log of every sequence of its calls.
use mathlib.Core.Path.{◌≡◌, refl, sym, subst}
use mathlib.Core.Bool.{Bool, true, false, not, ◌&&◌, ◌||◌}
use mathlib.Core.List.{List, [], ◌∷◌}
use Prim.Native.Nat.{ℕ, ◌≤◌, zero-le}
use native.Mathlib.Omega.{arith}
use lib.Dec.{T, eqb, ltb, ltb→lt, not_T}
use lib.ListN.{length, get_or}
use mir.Facts.{and_yes, ltb_no}
use Rattle.theorems_history.specs.Log.{state_after, log}
use Rattle.theorems_history.specs.Onlooker.{Memory, Asked, load, neither, heard, remember, noted, note, memory_of}
use Rattle.theorems_history.specs.History.{Seen}
use Rattle.theorems_history.specs.Laws.{Step, Lawful}
use Rattle.numbers.proofs.Tests.{decide, or_left, fails_left, fails_right, contrary, joins}
use Rattle.theorems_history.proofs.Steps
use Rattle.theorems_history.proofs.Demand3.{demand3}
use Rattle.states.specs.States.{number_of, is, turning}
use Rattle.settings.specs.Settings.{setting_count, all_settings, meant, FaultEnable, RetryLimit}
use Rattle.faults.specs.Word.{flag, ◌or◌, any}
use Rattle.faults.proofs.Bits.{old_stays}
use Rattle.drive.specs.Flags.{always_live}
use Rattle.drive.specs.Command.{low}
use Rattle.drive.specs.Answer.{live_word, answer, answer_telling, reply_telling, reply as replied}
use Rattle.verdicts.specs.Table.{verdict}
use Rattle.drive.specs.Refusals.{highest_pattern, load_rows, cycle_rows, tick_rows}
use Rattle.drive.specs.Calls.{becomes, loaded, judged_by, cycled, sample}
use Rattle.images.specs.Image.{fifteen}
use Rattle.images.specs.Reads.{read_rows, is_read}
use Rattle.drive.specs.Blocks.{block_numbers, block_rows, marked}
use Rattle.drive.specs.Ticks.{ticked}
use Rattle.drive.specs.AnyCall.{Call, loads, cycles, ticks, block_loads, reply}
use Rattle.drive.specs.declared.Drive.{Drive}
use Rattle.drive.specs.declared.answer.Answer.{Answer}
use Rattle.drive.specs.declared.answer.Reply.{Reply}
use Rattle.fields.specs.declared.Cycle.{Cycle}
use Rattle.fields.specs.declared.Tick.{Tick}
use Rattle.hall.specs.declared.Hall.{Hall}
use Rattle.drive.specs.declared.offsets.Offsets.{Offsets}
use Rattle.theorems_reached.specs.Machine.{machine}
use Rattle.theorems_reached.specs.Reached.{Reached}
use Rattle.verdicts.proofs.Passed.{passed, both_passed}
use Rattle.drive.proofs.EachCall.{marks, each_call}
use Rattle.theorems_reached.proofs.Loads.{accepted_state, accepted_count}
use Rattle.theorems_reached.proofs.Keeps.{reached_power_up, marked_reached, cycled_reached, call_keeps, every_reached}
use Rattle.theorems_reached.proofs.Corollaries.{in_idle, disarmed_in_fault, low_excludes_high}
use Rattle.onlooker.specs.Words.{words, asked, dead_after, dead_cause_of}
use Rattle.theorems_demands.specs.Supervised.{DriveDemand3}
use Rattle.theorems_demands.proofs.Shown.{inside, fault_shown, gates_ask, dark, shows_turning}
use Rattle.theorems_demands.proofs.Causes.{dead_shows}
use Rattle.theorems_demands.proofs.Remembers.{Agree, Remembers, remembers_power_up, flagged, after_refused, refused_remembers}
use Rattle.theorems_demands.proofs.Remembers.{load_remembers, cycle_remembers, tick_remembers}
use Rattle.theorems_demands.proofs.Stored.{stored_is}
use Rattle.theorems_demands.proofs.Ticks
use Rattle.theorems_demands.proofs.Tests.{never_both, idle_or_stop, not_both, begins, begins_nothing}

-- ---- a call in a reached state, with an onlooker who remembers what is so

-- what is to be shown of a call and its reply
module _ (d : Drive) (memory : Memory) (call : Call) where
  pub record Done (r : Reply) : Type 0 where
    pub remembers : Remembers r.drive (remember words memory (record { call = call; answer = r.answer }))
    pub obeys : Step (inside d) (note words memory (record { call = call; answer = r.answer })) (inside r.drive)

-- what he notes of a tick is told by the numbers that the drive has, too
same_note :
    (d : Drive) (t : Tick) (m : Memory) (answer : Answer)
    → Agree m.numbers d.settings d.sensors
    → m.shown ≡ number_of d.state
    → m.dead ≡ d.hall.dead_streak
    → note words (Ticks.memory d t m.waited d.state) (record { call = ticks t; answer = answer })
    ≡ note words m (record { call = ticks t; answer = answer })
same_note d t m answer agree shown dead = go (eqb answer.number 0) refl
  where
    at : (i : ℕ) → T (ltb i setting_count) → get_or m.numbers i 0 ≡ get_or d.settings i 0
    at i below = agree.setting i (ltb→lt i setting_count below)

    go : (accepted : Bool) → eqb answer.number 0 ≡ accepted
        → note words (Ticks.memory d t m.waited d.state) (record { call = ticks t; answer = answer })
        ≡ note words m (record { call = ticks t; answer = answer })
    go true told =
        rw (told, shown, dead, at 0 tt, at 1 tt, at 2 tt, at 3 tt, at 4 tt, at 5 tt, at 20 tt, at 21 tt, at 23 tt)
    go false told = rw (told, shown, dead, at 1 tt, at 23 tt)

module _ (d : Drive) (r : Reached d) (memory : Memory) (knows : Remembers d memory) where
  -- the retries used are within the limit that he remembers
  within : d.retries ≤ RetryLimit memory.numbers
  within =
      decide (is 0 d.state)
      (in_idle d r (λ (e : Drive). e.retries ≤ RetryLimit memory.numbers) zero-le zero-le)
      (λ outside. rw ((knows.loaded outside).setting 23 (omega arith)) r.retries)

  -- a call that is no tick and after which the drive stands where it stood, armed as it was: one that is refused, and a cycle. It may end
  -- the turning, by a flag
  module _ (hall : Hall) (flags cycles : ℕ) (offsets : Offsets) where
    abbrev stood : Drive
    stood = becomes d d.state hall flags cycles d.ticks offsets d.run d.armed d.retries

    -- a dead streak of 2 is flagged as long as it stands; in IDLE there is none
    dead_faults :
        (now : Memory)
        → Reached stood
        → Remembers stood now
        → T (dead_cause_of now.numbers now.dead)
        → T (any (live_word stood))
    dead_faults now r-now knows-now cause =
        decide (is 0 d.state)
        (λ idle.
        let none : hall.dead_streak ≡ 0 = in_idle stood r-now (λ (e : Drive). e.hall.dead_streak ≡ 0) refl refl idle in
        absurd (rw (knows-now.dead, none) at cause))
        (λ outside. dead_shows stood r-now (rw ((knows-now.loaded outside).setting 1 (omega arith), knows-now.dead) at cause))

    stands :
        (number at : ℕ) (now : Memory)
        → Reached stood
        → (T (any (live_word d)) → T (any (live_word stood)))
        → Remembers stood now
        → now.numbers ≡ memory.numbers
        → Step (inside d) (noted words memory neither now (answer number at stood)) (inside stood)
    unfolding answer_telling
    stands number at now r-now more knows-now same =
        Steps.passes_by (inside d) (noted words memory neither now (answer number at stood)) (inside stood) (gates_ask number at stood)
        (rw same within)
        (fault_shown number at stood)
        (dead_faults now r-now knows-now)
        (λ was keeps. more was)
        (dark number at stood)
        tt
        (fails_right (eqb now.shown 3 && eqb memory.shown 1) false tt)
        (rw (knows.shown, knows-now.shown) (begins_nothing d.state))
        (rw (knows.shown, knows-now.shown) (never_both (is 5 d.state)))
        (λ is. is)
        (or_left d.armed false)
        (λ turns.
        let (runs, dim) = and_yes (turning d.state) (not (any (live_word stood))) turns in
        let drives = shows_turning number at stood turns in
        let was = contrary (any (live_word d)) (any (live_word stood)) more dim in
        let no_start : Bool = not (is 3 d.state && is 1 d.state && false) in
        let begun = fails_left (begins d.state d.state) no_start (begins_nothing d.state) in
        rw (knows.shown, knows-now.shown) (search joins depth 9))
        refl

  -- a refused call leaves the drive, but for flags that it may set
  module _ (flags : ℕ) (r-now : Reached (flagged d flags)) (more : T (any (live_word d)) → T (any (live_word (flagged d flags))))
      (call : Call) (number at : ℕ) (not-0 : eqb number 0 ≡ false) where
    abbrev left : Drive
    left = flagged d flags

    abbrev after : Memory
    after = after_refused memory call number at left

    heard_nothing_lem : heard words (record { call = call; answer = answer number at left }) ≡ neither
    unfolding answer_telling
    heard_nothing_lem = rw not-0

    loaded_nothing : after.numbers ≡ memory.numbers
    unfolding answer_telling
    loaded_nothing = rw not-0

    refused_with : Done d memory call (replied number at left)
    refused_with =
        let now = refused_remembers d memory knows flags call number at not-0 in
        record {
          remembers = now;
          obeys =
              subst (λ (about : Asked Tick). Step (inside d) (noted words memory about after (answer number at left)) (inside left))
              (sym heard_nothing_lem)
              (stands d.hall flags d.cycles d.offsets number at after r-now more now loaded_nothing);
        }

  refused : (call : Call) (number at : ℕ) → eqb number 0 ≡ false → Done d memory call (replied number at d)
  refused = refused_with d.flags r (λ t. t)

  load_done :
      (call : Call) (numbers : List ℕ)
      → asked call ≡ load (meant numbers)
      → dead_after memory.numbers call memory.dead ≡ 0
      → T (is 0 d.state || is 1 d.state)
      → (eqb (length numbers) setting_count || eqb (length numbers) all_settings) ≡ true
      → Done d memory call (replied 0 0 (loaded (meant numbers)))
  unfolding answer_telling
  load_done call numbers asks none admitted either =
      let next : Drive = loaded (meant numbers) in
      record {
        remembers = load_remembers d memory knows call numbers asks none either;
        obeys =
            rw (asks, none)
            (Steps.loads (inside d) _ (inside next) (gates_ask 0 0 next) zero-le
            (fault_shown 0 0 next) (λ cause. cause) (λ was keeps. absurd keeps) (dark 0 0 next)
            tt tt
            (rw knows.shown (fails_left (is 5 d.state) true (idle_or_stop (number_of d.state) admitted)))
            tt tt refl);
      }

  cycle_done :
      (c : Cycle)
      → Reached (cycled d c)
      → T (not (is 0 d.state))
      → c.pattern ≤ highest_pattern d.sensors
      → Done d memory (cycles c) (reply_telling (judged_by d c) 0 0 (cycled d c))
  unfolding answer_telling cycled
  cycle_done c r-now outside small =
      let now = cycle_remembers d memory knows c outside small in
      record {
        remembers = now;
        obeys =
            stands _ _ _ _ 0 0 _ r-now
            (old_stays always_live (FaultEnable d.settings) d.flags (flag 15 (sample d c).flagged))
            now refl;
      }

  module _ (t : Tick) (outside : T (not (is 0 d.state))) where
    tick_done : Done d memory (ticks t) (replied 0 0 (ticked d t))
    tick_done =
        record {
          remembers = tick_remembers d memory knows t outside;
          obeys =
              subst (λ (seen : Seen). Step (inside d) seen (inside (ticked d t)))
              (same_note d t memory (answer 0 0 (ticked d t)) (knows.loaded outside) knows.shown knows.dead)
              (Ticks.tick_obeys d t memory.waited r.retries d.state
              outside
              (not_both (is 5 d.state) d.armed (λ fault. rw (disarmed_in_fault d r fault) tt))
              knows.waited
              r.flags.tripped
              (λ is-high. not_T (low d.settings t) (λ is-low. low_excludes_high d r t outside is-low is-high)));
        }

  -- a block load: accepted, he reads the numbers that were loaded off the image himself
  block_load_done :
      (image : List ℕ) (block : ℕ)
      → (verdict (block_rows d image block)).number ≡ 0
      → Done d memory (block_loads image block) (replied 0 0 (loaded (meant (block_numbers image block))))
  unfolding meant
  block_load_done image block none =
      let both = both_passed (read_rows fifteen image block) (load_rows d (block_numbers image block)) tt none in
      load_done (block_loads image block) (block_numbers image block) (rw (stored_is image block both.0)) refl
      (accepted_state d (block_numbers image block) both.1) (accepted_count d (block_numbers image block) both.1)

  -- refused, in IDLE it may leave flag 12
  block_load_refused :
      (image : List ℕ) (block number at : ℕ)
      → T (marks d (block_loads image block))
      → eqb number 0 ≡ false
      → Done d memory (block_loads image block) (replied number at (marked d))
  block_load_refused image block number at lit =
      refused_with (d.flags or flag 12 true) (marked_reached d r (and_yes (is_read fifteen image block) (is 0 d.state) lit).1)
      (old_stays always_live (FaultEnable d.settings) d.flags (flag 12 true))
      (block_loads image block) number at

  done : (call : Call) → Done d memory call (reply d call)
  unfolding meant
  done =
      each_call d (Done d memory)
      (record {
        loads_it = λ numbers none.
            load_done (loads numbers) numbers refl refl (accepted_state d numbers none) (accepted_count d numbers none);
        loads_a_block = block_load_done;
        cycles_on = λ c none.
            let p = passed (cycle_rows d c) tt none in
            cycle_done c (cycled_reached d c r p.0 (ltb_no p.1.0) (ltb_no p.1.1.0) (ltb_no p.1.1.1.0)) p.0
            (ltb_no p.1.0);
        ticks_on = λ t none. tick_done t (passed (tick_rows d t) tt none).0;
        refuses = λ call number at dark. refused call number at;
        refuses_marked = block_load_refused;
      })

-- ---- every call

-- what the onlooker remembers of a log is so after its calls
pub remembered : (calls : List Call) → Remembers (state_after machine calls) (memory_of words (log machine calls))
unfolding state_after log memory_of
remembered [] = remembers_power_up
remembered (call ∷ earlier) =
    (done (state_after machine earlier) (every_reached earlier) (memory_of words (log machine earlier)) (remembered earlier) call).remembers

pub lawful : Lawful machine words
lawful =
    record {
      inside = inside;
      Good = λ d memory. Reached d × Remembers d memory;
      good_at_power_up = (reached_power_up, remembers_power_up);
      good_after = λ d memory good call. (call_keeps d call good.0, (done d good.0 memory good.1 call).remembers);
      asleep_at_power_up = refl;
      obeys = λ d memory good call. (done d good.0 memory good.1 call).obeys;
    }

-- Demand 3 of this drive, for every list of calls from power-up, stated of the log of calls and answers.
pub drive_demand3 : DriveDemand3
drive_demand3 = demand3 machine words lawful
