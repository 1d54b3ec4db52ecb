-- Document 02, M-101, of calls and their answers: after a load "a full turn is six counts either way", with the sensors that its numbers
-- name. Nothing is read off the drive's state: a drive that keeps one layout and judges by another gives other answers. What a turn of the
-- Hall part is stands in `hall` Turns.antt.
use Rattle.std.specs.Prelude.{ℕ, zero, suc, ◌≡◌, cond, List, eqb, length, get_or}
use Rattle.std.specs.Int.{w16}
use Rattle.std.proofs.Common.{to_z}
use Rattle.hall.specs.Layout.{layout}
use Rattle.hall.specs.Turns.{Way, onward, counted, entered}
use Rattle.hall.specs.declared.layout.Sensors.{Sensors}
use Rattle.hall.specs.declared.layout.Sensors.TheVariants.{Three, Two}
use Rattle.fields.specs.declared.Cycle.{Cycle}
use Rattle.drive.specs.Calls.{load, cycle}
use Rattle.drive.specs.declared.Drive.{Drive}
use Rattle.drive.specs.declared.answer.Answer.{Answer}
use Rattle.drive.specs.declared.answer.Reply.{Reply}

-- "Setting 25 chooses 2 or 3 sensors; a load of 24 numbers means 3": `before`, the drive that the load finds, is not asked
abbrev pub named : Drive → List ℕ → Sensors
named before numbers = cond (eqb (length numbers) 24) Three (cond (eqb (get_or numbers 24 0) 2) Two Three)

-- two current samples, which the Hall part does not ask for
module _ (first second : ℕ) where
  abbrev pub shows : ℕ → Cycle
  shows p = record { pattern = p; first = first; second = second }

  -- the reply to the last of n cycles more, after one that shows p: each shows the pattern onward from the one before
  abbrev pub turning : Sensors → Way → ℕ → Drive → ℕ → Reply
  turning s way zero d p = cycle d (shows p)
  turning s way (suc n) d p = turning s way n (cycle d (shows p)).drive (onward (layout s) way p)

  -- A load; a cycle that shows a pattern; and then a cycle for each sector, one way round, so that the last shows the pattern again.
  abbrev pub after_a_turn : Way → Drive → List ℕ → ℕ → Answer
  after_a_turn way d numbers p =
      let s : Sensors = named d numbers in (turning s way (length (layout s).order) (load d numbers).drive p).answer

  -- The last is accepted, six counts from the 0 of the load, at the angle of the step onto the pattern.
  pub record TurnAnswered (way : Way) (d : Drive) (numbers : List ℕ) (p : ℕ) : Type 0 where
    pub accepted : (after_a_turn way d numbers p).number ≡ 0
    pub six : (after_a_turn way d numbers p).position ≡ counted way 6 0
    pub angle :
        (after_a_turn way d numbers p).angle
        ≡ entered (layout (named d numbers)) way (to_z w16 (get_or numbers 9 0)) p
