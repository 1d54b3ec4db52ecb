-- How long a line can be, whatever it shows.
use Prim.Native.Nat.{◌≤◌}
use native.Mathlib.Omega.{arith}
use lib.ListN.{length, length-append}
use Rattle.drive.specs.declared.answer.Answer.{Answer}
use Rattle.text.proofs.Chains.{behind_front, written_front}
use Rattle.text.proofs.Decimals.{at_most_twenty, at_most_twenty_one}
use Rattle.bench.specs.Line.{motor_line, refusal_line, line_room}

pub line_fits : (answer : Answer) → length (motor_line answer) ≤ line_room
unfolding motor_line
line_fits answer =
    simp length-append
    (omega (
      arith,
      at_most_twenty answer.number,
      at_most_twenty answer.place,
      at_most_twenty answer.state,
      at_most_twenty answer.gate,
      at_most_twenty answer.live,
      at_most_twenty_one answer.reference,
      at_most_twenty answer.position,
      at_most_twenty_one answer.angle,
      at_most_twenty answer.offsets.first,
      at_most_twenty answer.offsets.second,
      at_most_twenty answer.retries,
    ))

pub refusal_fits : length refusal_line ≤ line_room
unfolding refusal_line
refusal_fits = omega arith

pub ruleset fronts = (behind_front, written_front, line_fits, refusal_fits)
