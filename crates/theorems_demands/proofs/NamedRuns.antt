-- The three runs of the specs do what they say: what is short is computed, and the ticks of the wait are all alike.
use mathlib.Core.Path.{◌≡◌, refl, ap, ◌∙◌}
use mathlib.Core.Bool.{true, false}
use mathlib.Core.List.{List, [], ◌∷◌, ◌++◌, append-nil}
use Prim.Native.Nat.{ℕ, zero, suc, ◌+◌, ◌≤◌, min}
use native.Mathlib.Omega.{arith}
use lib.Dec.{leb, lit≤}
use lib.IntN.{negsuc}
use lib.ListN.{length, replicate, length-append, length-replicate}
use borrow.Author.Tests.{lt-leb}
use Rattle.std.specs.Prelude.{Some}
use Rattle.theorems_history.specs.Log.{state_after, entry, log}
use Rattle.theorems_history.specs.Onlooker.{Memory, memory_of, remember, note, notes}
use Rattle.theorems_history.specs.History.{Seen}
use Rattle.theorems_history.specs.Page.{Mark, load, low, cause, retry, start, turns, stands, page, turning}
use Rattle.numbers.specs.Count.{up}
use Rattle.drive.specs.AnyCall.{reply}
use Rattle.states.specs.declared.State.TheVariants.{Stop, Fault}
use Rattle.motor.specs.Counts.{at_rest}
use Rattle.drive.specs.Offsets.{zero as zeroes}
use Rattle.drive.specs.Calls.{becomes}
use Rattle.drive.specs.declared.Drive.{Drive}
use Rattle.theorems_reached.specs.Machine.{machine}
use Rattle.theorems_demands.proofs.Computes.{computes}
use Rattle.theorems_demands.specs.NamedCalls.{settings_with, high, clear}
use Rattle.theorems_demands.specs.NamedRuns.{noted, turned, tripped, waited, tried_again, foremans_page, held}
use Rattle.onlooker.specs.Words.{words, as_loaded}

-- A raised command turns the pump.
pub turns_by_command : turning (noted turned) ≡ true
unfolding state_after log memory_of notes computes
turns_by_command = refl

-- ---- the wait for a retry

-- the tripped drive at its n-th tick in FAULT, written out (flag 2 alone is the word 4), and what the onlooker remembers then
abbrev faulted : ℕ → Drive
faulted n =
    becomes (state_after machine tripped) Fault
    (record { kept = Some 1; position = 0; angle = negsuc 5461; dead_streak = 0; stray_streak = 0; still_count = 66 })
    4 0 n
    (record { measured = true; value = zeroes; sum = zeroes })
    at_rest false 0

abbrev recalled : ℕ → Memory
recalled n = record { numbers = as_loaded (settings_with 1 0); shown = 5; waited = n; dead = 0 }

-- his note of each tick of the wait: a live fault stands, and nothing happens
abbrev waiting : Seen
waiting =
    record {
      loaded = false;
      low = false;
      started = false;
      began = false;
      exited = false;
      clear = false;
      due = false;
      cause_stood = false;
      limit = 2;
      live_shown = true;
      running = false;
      turns = false;
    }

is_faulted : state_after machine tripped ≡ faulted 0
unfolding state_after computes
is_faulted = refl

is_recalled : memory_of words (log machine tripped) ≡ recalled 0
unfolding state_after log memory_of computes
is_recalled = refl

module _ (n : ℕ) (small : n ≤ 9998) where
  early : leb 10000 (min (n + 1) 65535) ≡ false
  early = lt-leb 10000 (min (n + 1) 65535) (omega arith)

  waits : (reply (faulted n) high).drive ≡ faulted (suc n)
  unfolding state_after computes
  waits = let counted : min (n + 1) 65535 ≡ suc n = omega arith in rw (early, counted)

  waits_noted : note words (recalled n) (entry machine (faulted n) high) ≡ waiting
  unfolding state_after computes
  waits_noted = let early-too : leb 10000 (suc n) ≡ false = lt-leb 10000 (suc n) (omega arith) in rw (early, early-too)

  waits_recalled : remember words (recalled n) (entry machine (faulted n) high) ≡ recalled (suc n)
  unfolding state_after computes
  waits_recalled = rw early

-- n ticks of the wait: the drive, what he remembers, and his notes
both : {A : Type 0} (f : Drive → Memory → A) {d d' : Drive} {m m' : Memory} → d ≡ d' → m ≡ m' → f d m ≡ f d' m'
both f {d} {d'} {m} {m'} e e' = ap (λ (x : Drive). f x m) e ∙ ap (f d') e'

waits_all : (n : ℕ) → n ≤ 9999 → state_after machine (waited n) ≡ faulted n
unfolding state_after
waits_all zero small = is_faulted
waits_all (suc n) small = ap (λ (d : Drive). (reply d high).drive) (waits_all n (omega arith)) ∙ waits n (omega arith)

recalls_all : (n : ℕ) → n ≤ 9999 → memory_of words (log machine (waited n)) ≡ recalled n
unfolding log memory_of
recalls_all zero small = is_recalled
recalls_all (suc n) small =
    both (λ (d : Drive) (m : Memory). remember words m (entry machine d high)) (waits_all n (omega arith)) (recalls_all n (omega arith))
    ∙ waits_recalled n (omega arith)

notes_all : (n : ℕ) → n ≤ 9999 → noted (waited n) ≡ replicate n waiting ++ noted tripped
unfolding log notes
notes_all zero small = refl
notes_all (suc n) small =
    both (λ (d : Drive) (m : Memory). note words m (entry machine d high) ∷ noted (waited n))
    (waits_all n (omega arith))
    (recalls_all n (omega arith))
    ∙ ap (λ (call : Seen). call ∷ noted (waited n)) (waits_noted n (omega arith))
    ∙ ap (λ (past : List Seen). waiting ∷ past) (notes_all n (omega arith))

-- nothing of it comes on the page
still : (n : ℕ) (past : List Seen) → turning past ≡ false → turning (replicate n waiting ++ past) ≡ false
still zero past rests = rests
still (suc n) past rests = refl

nothing_more : (n : ℕ) (past : List Seen) → turning past ≡ false → page (replicate n waiting ++ past) ≡ page past
unfolding page
nothing_more zero past rests = refl
nothing_more (suc n) past rests =
    rw (still n past rests, append-nil (page (replicate n waiting ++ past))) (nothing_more n past rests)

-- the calls up to the trip
trips : turning (noted tripped) ≡ false
unfolding state_after log memory_of notes computes
trips = refl

seventy_eight : length (noted tripped) ≡ 78
unfolding state_after log memory_of notes computes
seventy_eight = refl

-- two highs more
abbrev two_more : Drive → Memory → List Seen → List Seen
two_more d m past =
    note words (remember words m (entry machine d high)) (entry machine (reply d high).drive high)
    ∷ note words m (entry machine d high)
    ∷ past

ends : (n : ℕ)
    → noted (high ∷ high ∷ waited n)
    ≡ two_more (state_after machine (waited n)) (memory_of words (log machine (waited n))) (noted (waited n))
unfolding state_after log memory_of notes
ends n = refl

-- at the 10,000th tick in FAULT the drive makes its retry, and the next one starts
on_the_page : (past : List Seen)
    → turning past ≡ false
    → length past ≡ 10077
    → page (two_more (faulted 9999) (recalled 9999) past)
    ≡ (page past ++ ((10078, retry) ∷ [])) ++ ((10079, start) ∷ (10079, turns) ∷ [])
unfolding state_after page computes
on_the_page past rests many = rw (rests, many)

up_to_the_trip : page (noted tripped)
    ≡ (1, load) ∷ (2, low) ∷ (67, low) ∷ (68, low) ∷ (69, start) ∷ (69, turns) ∷ (78, cause) ∷ (78, stands) ∷ []
unfolding state_after log memory_of notes page computes
up_to_the_trip = refl

all_of_it : (n : ℕ) → n ≤ 9999 → n ≡ 9999 → page (noted (high ∷ high ∷ waited n)) ≡ foremans_page
all_of_it n small e =
    let past : List Seen = replicate n waiting ++ noted tripped in
    let many : length past ≡ 10077 = simp (length-append, length-replicate, seventy_eight) (omega arith) in
    ap page (ends n)
    ∙ both (λ (d : Drive) (m : Memory). page (two_more d m (noted (waited n)))) (waits_all n small) (recalls_all n small)
    ∙ ap (λ (notes : List Seen). page (two_more (faulted n) (recalled n) notes)) (notes_all n small)
    ∙ ap (λ (k : ℕ). page (two_more (faulted k) (recalled k) past)) e
    ∙ on_the_page past (still n (noted tripped) trips) many
    ∙ ap (λ (p : List (ℕ × Mark)). (p ++ ((10078, retry) ∷ [])) ++ ((10079, start) ∷ (10079, turns) ∷ []))
    (nothing_more n (noted tripped) trips ∙ up_to_the_trip)

-- The page to show a foreman: load, low, start, trip, 9,999 ticks in FAULT, the retry at the 10,000th, and the start.
pub the_foremans_page : page (noted tried_again) ≡ foremans_page
the_foremans_page = all_of_it 9999 (lit≤ tt) refl

-- ---- a clear, and the command held high

-- the drive after the clear, when so many ticks in STOP are counted
abbrev stopped : ℕ → Drive
stopped n = becomes (faulted 0) Stop (faulted 0).hall 0 0 n (faulted 0).offsets (faulted 0).run false 0

clears : (reply (faulted 0) clear).drive ≡ stopped 0
unfolding state_after computes
clears = refl

stays : (n : ℕ) → (reply (stopped n) high).drive ≡ stopped (up 65535 n)
unfolding state_after computes
stays n = refl

abbrev counted : ℕ → ℕ
counted zero = 0
counted (suc n) = up 65535 (counted n)

stays_all : (n : ℕ) → state_after machine (held n) ≡ stopped (counted n)
unfolding state_after
stays_all zero = ap (λ (d : Drive). (reply d clear).drive) is_faulted ∙ clears
stays_all (suc n) = ap (λ (d : Drive). (reply d high).drive) (stays_all n) ∙ stays (counted n)

clear_rests : words.turns (machine.answer (faulted 0) clear) ≡ false
unfolding state_after computes
clear_rests = refl

high_rests : (n : ℕ) → words.turns (machine.answer (stopped n) high) ≡ false
unfolding state_after computes
high_rests n = refl

-- A command held high after a clear starts nothing, however long it is held.
pub held_high_starts_nothing : (n : ℕ) → turning (noted (held n)) ≡ false
unfolding log notes
held_high_starts_nothing zero = ap (λ (d : Drive). words.turns (machine.answer d clear)) is_faulted ∙ clear_rests
held_high_starts_nothing (suc n) = ap (λ (d : Drive). words.turns (machine.answer d high)) (stays_all n) ∙ high_rests (counted n)
