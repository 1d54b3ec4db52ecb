-- A full turn after a load, of calls and their answers: each cycle of it is accepted and hands its pattern to the Hall part, of which
-- `hall` Laws.antt shows the turn.
use mathlib.Core.Path.{◌≡◌, refl}
use mathlib.Core.Bool.{true, not, ◌||◌}
use mathlib.Core.List.{List}
use Prim.Native.Nat.{ℕ, zero, suc, ◌≤◌}
use native.Mathlib.Omega.{arith}
use lib.Dec.{T, eqb}
use lib.IntN.{ℤ}
use lib.ListN.{length, get_or, take, get_or-append}
use lib.Seq.{get_or_at}
use lib.Ieee.Bits.{is_true, is_false}
use mir.Syntax.{w16}
use mir.Val.{to_z}
use borrow.Author.Tests.{le-ltb, eq-eqb, eqb-true, eqb-false}
use Rattle.std.specs.Prelude.{Some}
use Rattle.numbers.proofs.Fill.{first_at}
use Rattle.hall.specs.Layout.{layout, among}
use Rattle.hall.specs.Fate.{fate, beside}
use Rattle.hall.specs.Sample.{powered_up, sampled}
use Rattle.hall.specs.Turns.{Way, onward, walked, turned}
use Rattle.hall.specs.declared.Hall.{Hall}
use Rattle.hall.specs.declared.layout.Sensors.{Sensors}
use Rattle.hall.specs.declared.layout.Sensors.TheVariants.{Three, Two}
use Rattle.hall.proofs.Laws.{round, step_kept, full_turn}
use Rattle.settings.specs.Settings.{setting_count, all_settings, meant, HallAngleOffset}
use Rattle.settings.proofs.Meant.{meant_of_24, meant_of_others, length-meant}
use Rattle.states.specs.States.{is}
use Rattle.verdicts.specs.Table.{verdict}
use Rattle.drive.specs.Answer.{answer_telling, reply_telling}
use Rattle.drive.specs.Refusals.{highest_pattern, load_rows}
use Rattle.drive.specs.Calls.{chosen, loaded, load, judged_by, cycled, cycle}
use Rattle.drive.specs.declared.Drive.{Drive}
use Rattle.drive.specs.declared.answer.Reply.{Reply}
use Rattle.theorems_reached.proofs.Loads.{accepted_count}
use Rattle.theorems_reached.specs.Turns.{named, shows, turning, TurnAnswered}

-- an accepted load leaves what its numbers mean
loaded_by : (d : Drive) (numbers : List ℕ) → (load d numbers).answer.number ≡ 0
    → ((verdict (load_rows d numbers)).number ≡ 0) × ((load d numbers).drive ≡ loaded (meant numbers))
unfolding load answer_telling
loaded_by d numbers = grind (arith, eq-eqb)

-- the drive chooses the sensors that the numbers name
chosen_named : (d : Drive) (numbers : List ℕ) → chosen (meant numbers) ≡ named d numbers
chosen_named d numbers = grind (arith, eqb-true, meant_of_24, get_or_at, meant_of_others, eqb-false)

-- and their tenth number is the offset, also where a 25th is added
same_offset : (numbers : List ℕ) → (eqb (length numbers) setting_count || eqb (length numbers) all_settings) ≡ true
    → HallAngleOffset (take setting_count (meant numbers)) ≡ get_or numbers 9 0
same_offset numbers either = grind (arith, first_at, length-meant, eqb-true, meant_of_24, get_or-append, meant_of_others, eqb-false)

-- each pattern of a layout is one that a cycle takes
taken : (s : Sensors) (p : ℕ) → T (among (layout s).order p) → p ≤ highest_pattern s
taken s = grind arith

module _ (first second : ℕ) (first_small : first ≤ 4095) (second-small : second ≤ 4095) where
  -- a cycle outside IDLE that shows a pattern of the layout is accepted
  accepts : (d : Drive) (p : ℕ) → T (not (is 0 d.state)) → T (among (layout d.sensors).order p)
      → cycle d (shows first second p) ≡ reply_telling (judged_by d (shows first second p)) 0 0 (cycled d (shows first second p))
  unfolding cycle
  accepts d p outside stands = grind (arith, is_false, le-ltb, taken)

  -- what an answer shows of a Hall part
  Shown : Reply → Hall → Type 0
  Shown r hall = (r.answer.number ≡ 0) × (r.answer.position ≡ hall.position) × (r.answer.angle ≡ hall.angle)

  abbrev offset : Drive → ℤ
  offset d = to_z w16 (HallAngleOffset d.settings)

  -- from a kept pattern, n cycles after a step: the Hall part goes on as it does by itself
  goes_on :
      (way : Way) (n : ℕ) (d : Drive) (p : ℕ)
      → T (not (is 0 d.state))
      → T (among (layout d.sensors).order p)
      → d.hall.kept ≡ Some p
      → Shown (turning first second d.sensors way n d (onward (layout d.sensors) way p))
      (walked d.sensors way (suc n) d.hall p (offset d))
  unfolding Shown answer_telling cycled
  goes_on way zero d p outside stands kept = grind (arith, accepts, round)
  goes_on way (suc n) d p outside stands kept =
      let there : ℕ = onward (layout d.sensors) way p in
      grind (
        arith,
        accepts d there,
        round d.sensors way p,
        step_kept d.sensors way d.hall p (offset d),
        goes_on way n (cycled d (shows first second there)) there,
      )

  -- the first pattern after a load is kept, at position 0
  first_kept : (s : Sensors) (p : ℕ) (offset : ℤ) → T (among (layout s).order p)
      → ((sampled s powered_up p offset).hall.kept ≡ Some p) × ((sampled s powered_up p offset).hall.position ≡ 0)
  unfolding sampled fate beside
  first_kept s p offset stands = grind (arith, is_true)

  -- as many steps as there are sectors are some
  record Sectors (s : Sensors) : Type 0 where
    pub others : ℕ
    pub all : length (layout s).order ≡ suc others

  sectors : (s : Sensors) → Sectors s
  sectors Three = record { others = 5; all = refl }
  sectors Two = record { others = 3; all = refl }

  -- a turn from a drive that has just been loaded
  turned_after :
      (way : Way) (d : Drive) (p : ℕ)
      → T (not (is 0 d.state))
      → d.hall ≡ powered_up
      → T (among (layout d.sensors).order p)
      → Shown (turning first second d.sensors way (length (layout d.sensors).order) d p)
      (turned d.sensors way (sampled d.sensors powered_up p (offset d)).hall p (offset d))
  unfolding cycled
  turned_after way d p outside fresh stands =
      let n : ℕ = (sectors d.sensors).others in
      grind (
        arith,
        sectors d.sensors,
        accepts d p,
        first_kept d.sensors p (offset d),
        goes_on way n (cycled d (shows first second p)) p,
      )

  -- After any accepted load, from any pattern of the layout that its numbers name, either way round.
  pub turn_answered :
      (way : Way) (d : Drive) (numbers : List ℕ) (p : ℕ)
      → (load d numbers).answer.number ≡ 0
      → T (among (layout (named d numbers)).order p)
      → TurnAnswered first second way d numbers p
  unfolding Shown
  turn_answered way d numbers p accepted stands =
      let s : Sensors = named d numbers in
      let e : Drive = loaded (meant numbers) in
      grind (
        arith,
        loaded_by d numbers,
        first_kept s p (offset e),
        full_turn s way (sampled s powered_up p (offset e)).hall p (offset e),
        same_offset numbers,
        accepted_count d numbers,
        turned_after way e p,
        chosen_named d numbers,
      )
