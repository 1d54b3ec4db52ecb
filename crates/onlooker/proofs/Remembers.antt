-- His memory follows the history's, call by call, and so his notes are the history's, for logs of any length.
use Prim.Native.Nat.{ℕ, min}
use mathlib.Core.Path.{◌≡◌, refl, ◌∙◌}
use mathlib.Core.Bool.{Bool, true, false, not, ◌&&◌}
use mathlib.Core.List.{List, [], ◌∷◌}
use lib.Dec.{eqb}
use lib.ListN.{replicate}
use Rattle.settings.specs.Settings.{all_settings}
use Rattle.drive.specs.AnyCall.{Call, loads, cycles, ticks, block_loads}
use Rattle.drive.specs.declared.answer.Answer.{Answer}
use Rattle.theorems_history.specs.Log.{Entry}
use Rattle.theorems_history.specs.Onlooker.{Asked, load, tick, neither, heard, is_load, is_tick, numbers_after, remember, note, memory_of}
use Rattle.theorems_history.specs.Onlooker.{Memory as Remembered}
use Rattle.fields.specs.declared.Tick.{Tick}
use Rattle.onlooker.specs.Words.{words, dead_after}
use Rattle.onlooker.specs.Hears.{wait, recalled, held, hears, follows}
use Rattle.onlooker.specs.Tells.{heard_of}
use Rattle.onlooker.specs.declared.Memory.{Memory}
use Rattle.onlooker.proofs.Clipped.{clipped_on, due_again}

-- the numbers of the last load; before the first he holds zeros and the history nothing, and every setting of either is 0
pub data Same (numbers known : List ℕ) : Type 0 where
  loaded : numbers ≡ known → Same numbers known
  unloaded : numbers ≡ replicate all_settings 0 → known ≡ [] → Same numbers known

pub record Near (m : Memory) (r : Remembered) : Type 0 where
  pub numbers : Same m.numbers r.numbers
  pub shown : m.shown ≡ r.shown
  pub waited : m.waited ≡ min r.waited wait
  pub dead : m.dead ≡ r.dead

-- a memory with these numbers, and the wait clipped
abbrev clipped_with : List ℕ → Remembered → Remembered
clipped_with numbers r = record { numbers = numbers; shown = r.shown; waited = min r.waited wait; dead = r.dead }

-- the clipped wait makes no other note
note_clipped : (accepted : Bool) (call : Call) (answer : Answer) (r : Remembered) → eqb answer.number 0 ≡ accepted
    → note words (clipped_with r.numbers r) (record { call = call; answer = answer })
    ≡ note words r (record { call = call; answer = answer })
note_clipped true (loads numbers) answer r told = rw told
note_clipped true (cycles fields) answer r told = rw told
note_clipped true (block_loads image block) answer r told = rw told
note_clipped true (ticks fields) answer r told = rw (told, due_again (eqb r.shown 5 && true) r.waited)
note_clipped false call answer r told = rw told

-- nor do the zeros
note_unloaded : (accepted : Bool) (call : Call) (answer : Answer) (r : Remembered) → eqb answer.number 0 ≡ accepted
    → note words (clipped_with (replicate all_settings 0) r) (record { call = call; answer = answer })
    ≡ note words (clipped_with [] r) (record { call = call; answer = answer })
note_unloaded true (loads numbers) answer r told = rw told
note_unloaded true (cycles fields) answer r told = rw told
note_unloaded true (block_loads image block) answer r told = rw told
note_unloaded true (ticks fields) answer r told = rw told
note_unloaded false call answer r told = rw told

pub same_note : (m : Memory) (r : Remembered) (e : Entry Call Answer) → Near m r → note words (recalled m) e ≡ note words r e
same_note m r e near = noted near.numbers where
  told : eqb e.answer.number 0 ≡ eqb e.answer.number 0
  told = refl

  noted : Same m.numbers r.numbers → note words (recalled m) e ≡ note words r e
  noted (loaded same) =
      rw (same, near.shown, near.waited, near.dead)
      (note_clipped (eqb e.answer.number 0) e.call e.answer r told)
  noted (unloaded zeros none) =
      rw (zeros, near.shown, near.waited, near.dead)
      (note_unloaded (eqb e.answer.number 0) e.call e.answer r told
      ∙ rw (← none) (note_clipped (eqb e.answer.number 0) e.call e.answer r told))

same_after : (about : Asked Tick) {a b : List ℕ} → Same a b → Same (numbers_after words about a) (numbers_after words about b)
same_after (load numbers) same = loaded refl
same_after (tick fields) same = same
same_after neither same = same

-- which samples are dead is told alike
same_dead : (call : Call) (dead : ℕ) {a b : List ℕ} → Same a b → dead_after a call dead ≡ dead_after b call dead
same_dead call dead (loaded same) = rw same
same_dead (loads numbers) dead (unloaded zeros none) = refl
same_dead (cycles fields) dead (unloaded zeros none) = rw (zeros, none)
same_dead (block_loads image block) dead (unloaded zeros none) = refl
same_dead (ticks fields) dead (unloaded zeros none) = refl

near_after : (m : Memory) (r : Remembered) (e : Entry Call Answer)
    → Near m r → Near (held (remember words (recalled m) e)) (remember words r e)
near_after m r e near =
    record {
      numbers = same_after (heard words e) near.numbers;
      shown = refl;
      waited =
          rw (near.shown, near.waited)
          (clipped_on (eqb r.shown 5 && not (is_load words (heard words e))) (is_tick words (heard words e)) r.waited);
      dead = rw (near.dead, same_dead e.call r.dead near.numbers);
    }

pub near : (log : List (Entry Call Answer)) → Near (heard_of log).memory (memory_of words log)
unfolding heard_of memory_of hears follows
near [] = record { numbers = unloaded refl refl; shown = refl; waited = refl; dead = refl }
near (e ∷ earlier) = near_after (heard_of earlier).memory (memory_of words earlier) e (near earlier)

-- so what he makes of the newest call is what the history notes of it
pub noted_alike : (e : Entry Call Answer) (earlier : List (Entry Call Answer))
    → note words (recalled (heard_of earlier).memory) e ≡ note words (memory_of words earlier) e
noted_alike e earlier = same_note (heard_of earlier).memory (memory_of words earlier) e (near earlier)
