-- Each call leaves what the reader of the log keeps true of the drive, and so each answer has the letter and the position that he tells.
use Prim.Native.Nat.{ℕ, ◌≤◌}
use Prim.Native.Char.{code}
use mathlib.Core.Path.{◌≡◌, refl, sym, ap, subst, ◌∙◌}
use mathlib.Core.Bool.{Bool, true, false, not, ◌&&◌, ◌||◌, cond}
use mathlib.Core.List.{List, [], ◌∷◌}
use lib.Dec.{T, eqb}
use lib.IntN.{ℤ}
use lib.ListN.{get_or}
use mir.Syntax.{w16}
use mir.Val.{to_z}
use mir.Facts.{ltb_no}
use borrow.Author.Tests.{eq-eqb}
use Rattle.std.specs.Prelude.{Option}
use Rattle.hall.specs.Layout.{three, two, layout, among}
use Rattle.hall.specs.Fate.{fate}
use Rattle.hall.specs.Sample.{sampled, after, dead_sample, stray_sample}
use Rattle.hall.specs.declared.Hall.{Hall}
use Rattle.hall.specs.declared.fate.Fate.{Fate}
use Rattle.hall.specs.declared.fate.Fate.TheVariants.{Dead, First, Same, Forward, Back, Stray}
use Rattle.hall.specs.declared.layout.Sensors.{Sensors}
use Rattle.hall.specs.declared.layout.Sensors.TheVariants.{Three, Two}
use Rattle.states.specs.States.{is}
use Rattle.settings.specs.Settings.{meant, HallAngleOffset}
use Rattle.moves.specs.declared.Move.{Move}
use Rattle.moves.specs.declared.Move.TheVariants.{Stay, Enter, Measure, Clear, Retry}
use Rattle.fields.specs.declared.Cycle.{Cycle}
use Rattle.fields.specs.declared.Tick.{Tick}
use Rattle.verdicts.proofs.Passed.{passed}
use Rattle.drive.specs.Answer.{letter_of, letter, answer_telling, reply_telling, reply as shown}
use Rattle.drive.specs.Refusals.{highest_pattern, cycle_rows}
use Rattle.drive.specs.Calls.{chosen, judged_by, cycled, loaded}
use Rattle.drive.specs.Ticks.{watch, raised, armed_by, nth, moved, ticked, chosen as chosen-move}
use Rattle.drive.specs.Blocks.{block_numbers, marked}
use Rattle.drive.specs.AnyCall.{Call, cycles, reply}
use Rattle.drive.specs.declared.Drive.{Drive}
use Rattle.drive.specs.declared.answer.Reply.{Reply}
use Rattle.drive.proofs.EachCall.{each_call}
use Rattle.theorems_history.specs.Log.{state_after, log}
use Rattle.theorems_reached.specs.Machine.{machine}
use Rattle.theorems_reached.specs.Reached.{Reached}
use Rattle.theorems_reached.proofs.Hall.{dead_pattern, outside_the_order}
use Rattle.theorems_reached.proofs.Keeps.{every_reached}
use Rattle.lines.proofs.Places.{end_of_line}
use Rattle.theorems_demands.specs.FlagTwelve.{is_load}
use Rattle.theorems_demands.specs.Stalled.{Log, numbers_of}
use Rattle.theorems_demands.proofs.Remembers.{dead_alike}
use Rattle.theorems_demands.proofs.Lawful.{remembered}
use Rattle.theorems_samples.specs.Letters.{layout_of, letter_against, letter_for, Samples, no_sample}
use Rattle.theorems_samples.specs.Letters.{with_call, samples_of, letter_of_call, shown_position}
use Rattle.theorems_samples.specs.Letters.{position_of_call, SampleIsTold, NumberSixTellsNothing}
use Rattle.theorems_samples.proofs.Fates.{letter_in, Follows, letter_told, samples_follow, position_told, steps_told}

-- the layout that he takes from the loaded numbers is the drive's
same_layout : (numbers : List ℕ) → layout_of numbers ≡ layout (chosen numbers)
same_layout numbers = go (eqb (get_or numbers 24 0) 2)
  where
    go : (test : Bool) → cond test two three ≡ layout (cond test Two Three)
    go true = refl
    go false = refl

-- a sample's fate is the judgement of its pattern
fate_is : (s : Sensors) (hall : Hall) (p : ℕ) (offset : ℤ) → (sampled s hall p offset).fate ≡ fate (layout s) p hall.kept
unfolding sampled dead_sample stray_sample
fate_is s hall p offset = go (fate (layout s) p hall.kept)
  where
    go : (f : Fate) → (after (layout s) hall p offset f).fate ≡ f
    go Dead = refl
    go First = refl
    go Same = refl
    go Forward = refl
    go Back = refl
    go Stray = refl

-- no tick changes the Hall part
ticked_hall : (d : Drive) (t : Tick) → (ticked d t).hall ≡ d.hall
unfolding ticked
ticked_hall d t = go (chosen-move d t)
  where
    go : (move : Move) → (moved d t (watch d t) (raised d t) (armed_by d t) (nth d) move).hall ≡ d.hall
    go Stay = refl
    go (Enter state) = refl
    go Measure = refl
    go Clear = refl
    go Retry = refl

-- of the patterns that a cycle takes, he calls dead those that the order does not have
letter_in_lem : (numbers : List ℕ) (kept : Option ℕ) (p : ℕ) → p ≤ highest_pattern (chosen numbers)
    → letter_for numbers kept p ≡ letter_in (layout (chosen numbers)) kept p
letter_in_lem numbers kept p small =
    rw (dead_alike numbers p, same_layout numbers) (go (dead_pattern (chosen numbers) p) (outside_the_order (chosen numbers) p small))
  where
    go : (dead : Bool) → not dead ≡ among (layout (chosen numbers)).order p
        → cond dead (code "D") (letter_against (layout (chosen numbers)) kept p) ≡ letter_in (layout (chosen numbers)) kept p
    go true e = rw (← e)
    go false e = rw (← e)

-- before a call: what he keeps, and the position that was shown
pub record Knows (d : Drive) (m : Samples) (shown : ℕ) : Type 0 where
  pub follows : Follows d.hall m
  pub position : shown ≡ d.hall.position

module _ (d : Drive) (reached : Reached d) (numbers : List ℕ) (agrees : T (not (is 0 d.state)) → chosen numbers ≡ d.sensors)
    (m : Samples) (shown : ℕ) (knows : Knows d m shown) where
  -- a call with its answer
  abbrev Says : Call → Reply → Type 0
  Says call r =
      let taken : Bool = eqb r.answer.number 0 in
      Knows r.drive (cond taken (with_call numbers m call) m) r.answer.position
      × (letter r.answer.judged ≡ cond taken (letter_of_call numbers m.kept call) (code "."))
      × (r.answer.position ≡ cond taken (position_of_call numbers m.kept call shown) shown)
      × (T (not (is_load call && taken))
      → not (eqb r.answer.position shown)
      ≡ (eqb (letter r.answer.judged) (code "W") || eqb (letter r.answer.judged) (code "B")))

  -- a call that leaves the Hall part and tells of no sample: a tick, and any refusal
  rests : (after : Drive) → after.hall ≡ d.hall
      → Knows after m after.hall.position
      × (after.hall.position ≡ shown)
      × (not (eqb after.hall.position shown) ≡ false)
  rests after same =
      let stays : after.hall.position ≡ shown = ap (λ (h : Hall). h.position) same ∙ sym knows.position in (
        record { follows = rw same knows.follows; position = refl },
        stays,
        rw (eq-eqb after.hall.position shown stays),
      )

  -- an accepted cycle
  cycle_says : (c : Cycle) → T (not (is 0 d.state)) → c.pattern ≤ highest_pattern d.sensors
      → Says (cycles c) (reply_telling (judged_by d c) 0 0 (cycled d c))
  unfolding answer_telling cycled
  cycle_says c outside small =
      let offset = to_z w16 (HallAngleOffset d.settings) in
      let told = letter_told d.sensors d.hall reached.hall m knows.follows c.pattern offset in
      let named = ap letter_of (fate_is d.sensors d.hall c.pattern offset) ∙ sym told in
      let judged-here : letter_for numbers m.kept c.pattern ≡ letter_in (layout d.sensors) m.kept c.pattern =
      letter_in_lem numbers m.kept c.pattern (subst (λ (s : Sensors). c.pattern ≤ highest_pattern s) (sym (agrees outside)) small)
      ∙ ap (λ (s : Sensors). letter_in (layout s) m.kept c.pattern) (agrees outside) in
      let laid_out : layout_of numbers ≡ layout d.sensors = same_layout numbers ∙ ap layout (agrees outside) in
      rw (judged-here, laid_out, knows.position) (
        record { follows = samples_follow d.sensors d.hall reached.hall m knows.follows c.pattern offset; position = refl },
        named,
        position_told d.sensors d.hall reached.hall m knows.follows c.pattern offset,
        λ _. rw named (steps_told d.sensors d.hall reached.hall m knows.follows c.pattern offset),
      )

  pub says : (call : Call) → Says call (reply d call)
  unfolding answer_telling
  says =
      each_call d Says
      (record {
        loads_it = λ given none. (fresh_known (meant given), refl, refl, λ t. absurd t);
        loads_a_block = λ image block none. (fresh_known (meant (block_numbers image block)), refl, refl, λ t. absurd t);
        cycles_on = λ c none. let p = passed (cycle_rows d c) tt none in cycle_says c p.0 (ltb_no p.1.0);
        ticks_on = λ t none. let (known, stays, still) = rests (ticked d t) (ticked_hall d t) in (known, refl, stays, λ _. still);
        refuses = λ call number at dark given.
            let (known, stays, still) = rests d refl in rw given (known, refl, stays, λ _. still);
        refuses_marked = λ image block number at lit given.
            let (known, stays, still) = rests (marked d) refl in rw given (known, refl, stays, λ _. still);
      })
    where
      fresh_known : (given : List ℕ) → Knows (loaded given) no_sample 0
      fresh_known given = record { follows = record { kept = refl; dead = refl; stray = refl }; position = refl }

-- ---- of any calls

module _ (earlier : List Call) where
  abbrev before : Drive
  before = state_after machine earlier

  abbrev past : Log
  past = log machine earlier

  agrees_then : T (not (is 0 before.state)) → chosen (numbers_of past) ≡ before.sensors
  agrees_then outside = ((remembered earlier).loaded outside).chooses

known : (calls : List Call)
    → Knows (state_after machine calls) (samples_of (log machine calls)) (shown_position (log machine calls))
unfolding state_after log samples_of
known [] = record { follows = record { kept = refl; dead = refl; stray = refl }; position = refl }
known (call ∷ earlier) =
    (says (before earlier) (every_reached earlier) (numbers_of (past earlier)) (agrees_then earlier) (samples_of (past earlier))
    (shown_position (past earlier)) (known earlier) call).0

-- Each answer has the letter and the position that the log tells, and moves where it says W or B.
pub sample_is_told : SampleIsTold
sample_is_told call earlier =
    let (kept, its_letter, its_position, moves) =
    says (before earlier) (every_reached earlier) (numbers_of (past earlier)) (agrees_then earlier) (samples_of (past earlier))
    (shown_position (past earlier)) (known earlier) call in
    record {
      its_letter = its_letter;
      printed = end_of_line (machine.answer (state_after machine earlier) call) ∙ rw its_letter;
      its_position = its_position;
      moves = moves;
    }

pub number_six_tells_nothing : NumberSixTellsNothing
unfolding answer_telling
number_six_tells_nothing d = end_of_line (shown 6 0 d).answer
