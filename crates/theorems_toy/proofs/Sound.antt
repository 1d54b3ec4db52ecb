-- The sound toy obeys the laws, case by case, and so demand 3 holds of it: a second supervisor, with other calls and other words, comes
-- to the same theorem by its own record of laws.
use Prim.Native.Nat.{ℕ, suc, ◌≤◌, ◌<◌, zero-le}
use native.Mathlib.Omega.{arith}
use mathlib.Core.Path.{◌≡◌, refl}
use mathlib.Core.Bool.{Bool, true, false, not}
use mathlib.Core.List.{List}
use lib.Dec.{T, not_T, ltb, leb}
use borrow.Author.Tests.{ltb-true, leb-true, le-leb}
use Rattle.theorems_history.specs.Log.{entry, log}
use Rattle.theorems_history.specs.Onlooker.{Memory, remember, note, notes}
use Rattle.theorems_history.specs.History.{Demand3}
use Rattle.theorems_history.specs.Laws.{Inside, Step, Lawful}
use Rattle.numbers.proofs.Tests.{joins}
use Rattle.theorems_history.proofs.Demand3.{demand3}
use Rattle.theorems_history.proofs.Toy.{Spot, idle, stop, run, fault, Toy, toy, Lever, down, middle, up, fields, Press, loads, ticks}
use Rattle.theorems_history.proofs.Toy.{glitch, halt}
use Rattle.theorems_history.proofs.Toy.{numbers, words, sound, machine, next, turns}

abbrev was_loaded : Spot → Bool
was_loaded idle = false
was_loaded stop = true
was_loaded run = true
was_loaded fault = true

abbrev inside : Toy → Inside
inside (toy spot armed flag timed used limit waited) =
    record {
      loaded = was_loaded spot;
      armed = armed;
      faulted = flag;
      turning = turns sound (toy spot armed flag timed used limit waited);
      used = used;
    }

-- what is known of a state outside IDLE, and of what the onlooker remembers of it
record Known (flag timed : Bool) (used limit : ℕ) (memory : Memory) : Type 0 where
  loaded : memory.numbers ≡ numbers timed limit
  within : used ≤ limit
  dead : T (ltb 1 memory.dead) → T flag

abbrev Good : Toy → Memory → Type 0
Good (toy idle armed flag timed used limit waited) memory = (memory.shown ≡ 0) × T (not armed) × (used ≡ 0) × (memory.dead ≡ 0)
Good (toy stop armed flag timed used limit waited) memory = (memory.shown ≡ 1) × Known flag timed used limit memory
Good (toy run armed flag timed used limit waited) memory = (memory.shown ≡ 2) × Known flag timed used limit memory
Good (toy fault armed flag timed used limit waited) memory =
    (memory.shown ≡ 3) × Known flag timed used limit memory × T (not armed) × (waited ≤ memory.waited) × T flag

-- a call obeys the laws and leaves a good state
record Done (state : Toy) (memory : Memory) (call : Press) : Type 0 where
  good : Good (next sound state call) (remember words memory (entry (machine sound) state call))
  obeys : Step (inside state) (note words memory (entry (machine sound) state call)) (inside (next sound state call))

-- a law at a call whose tests are all known
ruleset computed = (joins, absurd, zero-le)

-- neither cause nor clear: a retry, where retries are timed, one is due and there is room for it
waits :
    (timed due room : Bool) (used limit waited : ℕ) (memory : Memory) (lever : Lever)
    → memory.shown ≡ 3
    → memory.numbers ≡ numbers timed limit
    → used ≤ limit
    → suc waited ≤ suc memory.waited
    → leb 2 (suc waited) ≡ due
    → ltb used limit ≡ room
    → Done (toy fault false true timed used limit waited) memory (ticks (fields false false lever))
waits false due room used limit waited memory lever at loaded within later is-due is-room = rw (at, loaded) (search computed)
waits true false room used limit waited memory lever at loaded within later is-due is-room =
    rw (at, loaded) (record { good = rw is-due (search computed); obeys = rw is-due (search computed) })
waits true true false used limit waited memory lever at loaded within later is-due is-room =
    rw (at, loaded) (record { good = rw (is-due, is-room) (search computed); obeys = rw (is-due, is-room) (search computed) })
waits true true true used limit waited memory lever at loaded within later is-due is-room =
    let free : used < limit = ltb-true used limit is-room in
    let noted : leb 2 (suc memory.waited) ≡ true = le-leb 2 (suc memory.waited) (omega (arith, leb-true 2 (suc waited) is-due)) in
    rw (at, loaded) (record { good = rw (is-due, is-room) (search computed); obeys = simp (is-due, is-room, noted) (search computed) })

module _ (timed : Bool) (used limit waited : ℕ) (memory : Memory) where
  in_idle :
      (flag : Bool)
      → memory.shown ≡ 0
      → used ≡ 0
      → memory.dead ≡ 0
      → (call : Press)
      → Done (toy idle false flag timed used limit waited) memory call
  in_idle flag at none alive (loads retry most) = rw (at, none, alive) (search computed)
  in_idle flag at none alive (ticks f) = rw (at, none, alive) (search computed)
  in_idle flag at none alive glitch = rw (at, none, alive) (search computed)
  in_idle flag at none alive halt = rw (at, none, alive) (search computed)

  in_stop_lem :
      (armed flag : Bool)
      → memory.shown ≡ 1
      → Known flag timed used limit memory
      → (call : Press)
      → Done (toy stop armed flag timed used limit waited) memory call
  in_stop_lem armed flag at known (loads retry most) = rw (at, known.loaded) (search computed)
  in_stop_lem armed true at known (ticks (fields cause clear lever)) = rw (at, known.loaded) (search computed)
  in_stop_lem armed false at known (ticks (fields true clear lever)) = rw (at, known.loaded) (search computed)
  in_stop_lem armed false at known (ticks (fields false clear down)) = rw (at, known.loaded) (search computed)
  in_stop_lem armed false at known (ticks (fields false clear middle)) = rw (at, known.loaded) (search computed)
  in_stop_lem true false at known (ticks (fields false clear up)) = rw (at, known.loaded) (search computed)
  in_stop_lem false false at known (ticks (fields false clear up)) = rw (at, known.loaded) (search computed)
  in_stop_lem armed flag at known glitch = rw (at, known.loaded) (search computed)
  in_stop_lem armed flag at known halt = let dead = known.dead in rw (at, known.loaded) (search computed)

  in_run_lem :
      (armed flag : Bool)
      → memory.shown ≡ 2
      → Known flag timed used limit memory
      → (call : Press)
      → Done (toy run armed flag timed used limit waited) memory call
  in_run_lem armed true at known (loads retry most) = rw (at, known.loaded) (search computed)
  in_run_lem armed false at known (loads retry most) =
      let dead = known.dead in
      let calm = not_T (ltb 1 memory.dead) dead in
      rw (at, known.loaded) (search computed)
  in_run_lem armed true at known (ticks (fields cause clear lever)) = rw (at, known.loaded) (search computed)
  in_run_lem armed false at known (ticks (fields true clear lever)) = rw (at, known.loaded) (search computed)
  in_run_lem armed false at known (ticks (fields false clear down)) = rw (at, known.loaded) (search computed)
  in_run_lem armed false at known (ticks (fields false clear middle)) = rw (at, known.loaded) (search computed)
  in_run_lem armed false at known (ticks (fields false clear up)) = rw (at, known.loaded) (search computed)
  in_run_lem armed true at known glitch = rw (at, known.loaded) (search computed)
  in_run_lem armed false at known glitch = rw (at, known.loaded) (search computed)
  in_run_lem armed flag at known halt = let dead = known.dead in rw (at, known.loaded) (search computed)

  in_fault_lem :
      memory.shown ≡ 3
      → Known true timed used limit memory
      → waited ≤ memory.waited
      → (call : Press)
      → Done (toy fault false true timed used limit waited) memory call
  in_fault_lem at known late (loads retry most) = let dead = known.dead in rw (at, known.loaded) (search computed)
  in_fault_lem at known late (ticks (fields true clear lever)) =
      let later : suc waited ≤ suc memory.waited = omega arith in rw (at, known.loaded) (search computed)
  in_fault_lem at known late (ticks (fields false true lever)) = rw (at, known.loaded) (search computed)
  in_fault_lem at known late (ticks (fields false false lever)) =
      waits timed (leb 2 (suc waited)) (ltb used limit) used limit waited memory lever at known.loaded known.within (omega arith)
      refl refl
  in_fault_lem at known late glitch = rw (at, known.loaded) (search computed)
  in_fault_lem at known late halt = let dead = known.dead in rw (at, known.loaded) (search computed)

done : (state : Toy) (memory : Memory) → Good state memory → (call : Press) → Done state memory call
done (toy idle true flag timed used limit waited) memory good call = absurd good.1
done (toy idle false flag timed used limit waited) memory good call =
    in_idle timed used limit waited memory flag good.0 good.2 good.3 call
done (toy stop armed flag timed used limit waited) memory good call =
    in_stop_lem timed used limit waited memory armed flag good.0 good.1 call
done (toy run armed flag timed used limit waited) memory good call =
    in_run_lem timed used limit waited memory armed flag good.0 good.1 call
done (toy fault true flag timed used limit waited) memory good call = absurd good.2
done (toy fault false false timed used limit waited) memory good call = absurd good.4
done (toy fault false true timed used limit waited) memory good call =
    in_fault_lem timed used limit waited memory good.0 good.1 good.3 call

lawful : Lawful (machine sound) words
lawful =
    record {
      inside = inside;
      Good = Good;
      good_at_power_up = (refl, tt, refl, refl);
      good_after = λ state memory good call. (done state memory good call).good;
      asleep_at_power_up = refl;
      obeys = λ state memory good call. (done state memory good call).obeys;
    }

-- So demand 3 holds of the sound toy.
pub toy_demand3 : (calls : List Press) → Demand3 (notes words (log (machine sound) calls))
toy_demand3 = demand3 (machine sound) words lawful
