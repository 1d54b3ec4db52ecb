-- Flag 12 stands in the live word of an answer just where the log of calls and answers says so.
use Rattle.std.proofs.Common.{None}
use Prim.Native.Nat.{ℕ, ◌*◌}
use native.Mathlib.Nat.{zero-add}
use native.Mathlib.Omega.{arith}
use mathlib.Core.Bool.{Bool, true, false, not, ◌&&◌, cond, true≢false, and-true, and-false}
use mathlib.Core.Path.{◌≡◌, refl, sym, ap, ◌∙◌}
use mathlib.Core.List.{List, [], ◌∷◌}
use lib.Dec.{T, eqb, ltb, not_T}
use lib.IntN.{pos}
use lib.Ieee.Bits.{is_true, is_false}
use mir.Facts.{T_not, and_yes}
use borrow.Author.Tests.{le-leb, lt-leb, ltb-true, ltb-false}
use Rattle.numbers.proofs.Tests.{decide}
use Rattle.faults.specs.Word.{bit, ◌or◌}
use Rattle.faults.proofs.Bits.{bit_or_lem, bit_and_lem}
use Rattle.states.specs.States.{is}
use Rattle.settings.specs.Settings.{meant, FaultEnable, RotorLockTime}
use Rattle.fields.specs.declared.Cycle.{Cycle}
use Rattle.fields.specs.declared.Tick.{Tick}
use Rattle.verdicts.specs.Table.{row, verdict}
use Rattle.numbers.specs.Bytes.{byte}
use Rattle.verdicts.proofs.Passed.{passed}
use Rattle.theorems_history.specs.Log.{Entry, state_after, log}
use Rattle.images.specs.Image.{fifteen}
use Rattle.images.specs.Table.{well_formed}
use Rattle.images.specs.Reads.{found_of, is_read}
use Rattle.drive.specs.Answer.{live_word, answer, answer_telling}
use Rattle.drive.specs.Refusals.{cycle_rows, tick_rows}
use Rattle.drive.specs.Flags.{always_live, alive}
use Rattle.drive.specs.Calls.{loaded, judged_by, cycled}
use Rattle.drive.specs.Blocks.{block_numbers, marked}
use Rattle.drive.specs.Ticks.{ticked}
use Rattle.drive.specs.Ticks as TickCalls
use Rattle.drive.specs.AnyCall.{Call, loads, cycles, ticks, block_loads, reply}
use Rattle.drive.specs.declared.Drive.{Drive}
use Rattle.drive.specs.declared.answer.Answer.{Answer}
use Rattle.drive.specs.declared.answer.Reply.{Reply}
use Rattle.drive.proofs.EachCall.{marks, each_call}
use Rattle.drive.proofs.Settles.{tick_keeps_settings}
use Rattle.theorems_reached.specs.Machine.{machine}
use Rattle.theorems_reached.specs.Reached.{Reached}
use Rattle.theorems_reached.proofs.Loads.{at_least}
use Rattle.theorems_reached.proofs.Keeps.{every_reached, tick_keeps}
use Rattle.theorems_reached.proofs.Corollaries.{in_idle, no_flag_12_outside_idle}
use Rattle.theorems_demands.proofs.Shown.{made, answer_shows}
use Rattle.theorems_demands.specs.FlagTwelve.{is_load, loads_now, loaded_yet, finds, refused_now, lit, FlagTwelve}

abbrev Log : Type 0
Log = List (Entry Call Answer)

-- what the log tells of the state: IDLE until a load is accepted, and then no flag 12 any more
record Told (d : Drive) (log : Log) : Type 0 where
  asleep : is 0 d.state ≡ not (loaded_yet log)
  dark : loaded_yet log ≡ true → lit log ≡ false
  shown : loaded_yet log ≡ false → bit 12 d.flags ≡ lit log

told_power_up : Told machine.power_up []
unfolding loaded_yet lit
told_power_up = record { asleep = refl; dark = λ e. refl; shown = λ e. refl }

-- what the call tells is what the reader says
finds_read : (image : List ℕ) (block : ℕ) → finds (block_loads image block) ≡ is_read fifteen image block
unfolding found_of
finds_read image block = by (well_formed fifteen image) (ltb block 15) refl refl
  where
    kind : (filled : Bool) → filled ≡ eqb (verdict (row 9 0 (not filled) ∷ [])).number 0
    kind true = refl
    kind false = refl

    by : (formed inside : Bool) → well_formed fifteen image ≡ formed → ltb block 15 ≡ inside
        → finds (block_loads image block) ≡ is_read fifteen image block
    by false inside e f = rw e
    by true false e f = rw (e, f, le-leb 15 block (ltb-false block 15 f))
    by true true e f = rw (e, f, lt-leb 15 block (ltb-true block 15 f), zero-add (5 * block)) (kind (eqb (byte (5 * block) image) 1))

module _ (d : Drive) (r : Reached d) (log : Log) (told : Told d log) where
  -- an entry that is on the log as nothing
  stays :
      (e : Entry Call Answer) (after : Drive)
      → loads_now e ≡ false
      → refused_now e log ≡ false
      → is 0 after.state ≡ is 0 d.state
      → (loaded_yet log ≡ false → bit 12 after.flags ≡ bit 12 d.flags)
      → Told after (e ∷ log)
  unfolding loaded_yet lit
  stays e after none other state flags =
      record {
        asleep = rw none (state ∙ told.asleep);
        dark = λ loaded. rw (none, other) (told.dark (rw none at loaded));
        shown = λ asleep. let not_yet = rw none at asleep in rw (none, other) (flags not_yet ∙ told.shown not_yet);
      }

  -- a load of either kind, accepted
  loads_told : (e : Entry Call Answer) (numbers : List ℕ) → loads_now e ≡ true → Told (loaded numbers) (e ∷ log)
  unfolding loaded_yet lit
  loads_told e numbers now =
      record { asleep = rw now; dark = λ loaded. rw now; shown = λ asleep. absurd (true≢false (rw now at asleep)) }

  -- what the log tells of a refusal: flag 12 is lit where the drive sets it
  noted :
      (call : Call) (number at : ℕ) (left : Drive)
      → eqb number 0 ≡ false
      → refused_now (made call (answer number at left)) log ≡ marks d call
  unfolding answer_telling
  noted (loads numbers) number at left given = refl
  noted (cycles c) number at left given = refl
  noted (ticks t) number at left given = refl
  noted (block_loads image block) number at left given =
      let found : (finds (block_loads image block) && not (eqb number 0)) ≡ is_read fifteen image block =
      rw (given, finds_read image block) (and-true (is_read fifteen image block))
      in
      ap (λ (reads : Bool). reads && not (loaded_yet log)) found
      ∙ ap (λ (asleep : Bool). is_read fifteen image block && asleep) (sym told.asleep)

  refused : (call : Call) (number at : ℕ) → T (not (marks d call)) → eqb number 0 ≡ false
      → Told d (made call (answer number at d) ∷ log)
  unfolding answer_telling
  refused call number at dark given =
      stays (made call (answer number at d)) d (rw given (and-false (is_load call)))
      (noted call number at d given ∙ is_false (marks d call) dark)
      refl
      (λ asleep. refl)

  -- in IDLE, with flag 12
  refused_marked :
      (image : List ℕ) (block number at : ℕ)
      → T (marks d (block_loads image block))
      → eqb number 0 ≡ false
      → Told (marked d) (made (block_loads image block) (answer number at (marked d)) ∷ log)
  unfolding answer_telling loaded_yet lit
  refused_marked image block number at sets given =
      let call : Call = block_loads image block in
      let idle = (and_yes (is_read fifteen image block) (is 0 d.state) sets).1 in
      let here : not (loaded_yet log) ≡ true = sym told.asleep ∙ is_true (is 0 d.state) idle in
      let now : refused_now (made call (answer number at (marked d))) log ≡ true =
      noted call number at (marked d) given ∙ is_true (marks d call) sets
      in
      record {
        asleep = rw given told.asleep;
        dark = λ loaded. absurd (true≢false (sym here ∙ rw (rw given at loaded)));
        shown = λ asleep. rw (now, given) (in_idle d r (λ (e : Drive). bit 12 (marked e).flags ≡ true) refl refl idle);
      }

  -- outside IDLE a load was accepted
  yet : T (not (is 0 d.state)) → loaded_yet log ≡ false → ⊥
  yet outside asleep = T_not (is 0 d.state) (rw (told.asleep, asleep) tt) outside

  cycle_told :
      (c : Cycle)
      → T (not (is 0 d.state))
      → Told (cycled d c) (made (cycles c) (answer_telling (judged_by d c) 0 0 (cycled d c)) ∷ log)
  unfolding cycled
  cycle_told c outside = stays _ (cycled d c) refl refl refl (λ asleep. absurd (yet outside asleep))

  -- a tick never leads to IDLE: its settings are those of an accepted load, and IDLE has none
  module _ (t : Tick) (none : (verdict (tick_rows d t)).number ≡ 0) (after : Reached (ticked d t)) where
    outside : T (not (is 0 d.state))
    outside = (passed (tick_rows d t) tt none).0

    as_loaded_lem : (ticked d t).settings ≡ d.settings
    unfolding TickCalls.tick
    as_loaded_lem = rw none at (tick_keeps_settings d t).0

    awake : is 0 (ticked d t).state ≡ false
    awake =
        is_false (is 0 (ticked d t).state)
        (not_T (is 0 (ticked d t).state)
        (λ idle.
        let lock : RotorLockTime (ticked d t).settings ≡ 0 =
        in_idle (ticked d t) after (λ (e : Drive). RotorLockTime e.settings ≡ 0) refl refl idle in
        omega (arith, rw as_loaded_lem at lock, at_least (r.settings outside) 6 (omega arith))))

    tick_told : Told (ticked d t) (made (ticks t) (answer 0 0 (ticked d t)) ∷ log)
    tick_told =
        stays _ (ticked d t) refl refl (awake ∙ sym (is_false (is 0 d.state) outside)) (λ asleep. absurd (yet outside asleep))

  after_call : (call : Call) → Told (reply d call).drive (made call (reply d call).answer ∷ log)
  unfolding TickCalls.tick answer_telling
  after_call =
      each_call d (λ (call : Call) (a : Reply). Told a.drive (made call a.answer ∷ log))
      (record {
        loads_it = λ numbers none. loads_told _ (meant numbers) refl;
        loads_a_block = λ image block none. loads_told _ (meant (block_numbers image block)) refl;
        cycles_on = λ c none. cycle_told c (passed (cycle_rows d c) tt none).0;
        ticks_on = λ t none. tick_told t none (rw none at (tick_keeps d t r));
        refuses = refused;
        refuses_marked = refused_marked;
      })

-- every sequence of calls
all_told : (calls : List Call) → Told (state_after machine calls) (log machine calls)
unfolding state_after log
all_told [] = told_power_up
all_told (call ∷ earlier) =
    after_call (state_after machine earlier) (every_reached earlier) (log machine earlier) (all_told earlier) call

-- the live word shows flag 12 where it stands
live_shows : (d : Drive) → Reached d → (log : Log) → Told d log → bit 12 (live_word d) ≡ lit log
live_shows d r log told =
    decide (is 0 d.state)
    (λ idle.
    let asleep : loaded_yet log ≡ false = opposite (loaded_yet log) (sym told.asleep ∙ is_true (is 0 d.state) idle) in
    in_idle d r (λ (e : Drive). bit 12 (live_word e) ≡ bit 12 e.flags) refl refl idle ∙ told.shown asleep)
    (λ outside.
    let loaded : loaded_yet log ≡ true = opposite (loaded_yet log) (sym told.asleep ∙ is_false (is 0 d.state) outside) in
    let none : bit 12 d.flags ≡ false = is_false (bit 12 d.flags) (no_flag_12_outside_idle d r outside) in
    bit_and_lem 12 d.flags (always_live or FaultEnable d.settings) ∙ rw none (sym (told.dark loaded)))
  where
    opposite : (a : Bool) {b : Bool} → not a ≡ b → a ≡ not b
    opposite true same = ap not same
    opposite false same = ap not same

pub flag_twelve : FlagTwelve
unfolding state_after log
flag_twelve call earlier =
    let before = state_after machine earlier in
    ap (bit 12) (answer_shows before call)
    ∙ live_shows (reply before call).drive (every_reached (call ∷ earlier)) (log machine (call ∷ earlier))
    (all_told (call ∷ earlier))

-- "always live": whatever FaultEnable is
pub always_live_lem : (settings : List ℕ) (flags : ℕ) → bit 12 (alive settings flags) ≡ bit 12 flags
always_live_lem settings flags =
    bit_and_lem 12 flags (always_live or FaultEnable settings)
    ∙ rw (bit_or_lem 12 always_live (FaultEnable settings)) (and-true (bit 12 flags))

-- Until a load is accepted each answer is, but for number and place, that of power-up, with flag 12 in its live word where it stands.
pub idle_shows :
    (calls : List Call) (number place : ℕ)
    → loaded_yet (log machine calls) ≡ false
    → answer number place (state_after machine calls)
    ≡ record {
      number = number;
      place = place;
      state = 0;
      gate = 0;
      live = cond (lit (log machine calls)) 4096 0;
      reference = pos 0;
      position = 0;
      angle = pos 0;
      offsets = record { first = 0; second = 0 };
      retries = 0;
      judged = None;
    }
unfolding answer_telling
idle_shows calls number place asleep =
    let told = all_told calls in
    let idle : T (is 0 (state_after machine calls).state) = rw (told.asleep, asleep) tt in
    rw (← told.shown asleep)
    (in_idle (state_after machine calls) (every_reached calls)
    (λ (d : Drive).
    answer number place d
    ≡ record {
      number = number;
      place = place;
      state = 0;
      gate = 0;
      live = cond (bit 12 d.flags) 4096 0;
      reference = pos 0;
      position = 0;
      angle = pos 0;
      offsets = record { first = 0; second = 0 };
      retries = 0;
      judged = None;
    })
    refl refl idle)
