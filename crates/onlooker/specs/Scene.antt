-- What a sentence needs beside the rule: what the answers showed last, and the records at which they began to.
use Rattle.std.specs.Prelude.{ℕ, false, not, ◌&&◌, cond, eqb, ltb, leb, None, Some}
use Rattle.std.specs.Option.{option_or}
use Rattle.drive.specs.declared.answer.Answer.{Answer}
use Rattle.theorems_history.specs.History.{Seen}
use Rattle.onlooker.specs.declared.scene.Scene.{Scene}

abbrev pub dark : Scene
dark = record { gate = 0; live = 0; lit = None; dead = false; trip = None; low = None }

-- with the call of this number more, made when the last answer had shown the state `from`, with so many dead samples in a row: the live
-- word is lit by the first call that shows it, and bit 15 by dead samples or by strays; FAULT is entered by a trip; the last low is the
-- newest
unfoldable pub scene : Scene → ℕ → ℕ → Seen → ℕ → Answer → Scene
scene before from dead call heard answer =
    record {
      gate = answer.gate;
      live = answer.live;
      lit = cond call.live_shown (option_or before.lit (Some heard)) None;
      dead = cond (leb 32768 answer.live && ltb before.live 32768) (eqb dead 2) before.dead;
      trip = cond (eqb answer.state 5 && not (eqb from 5)) (Some heard) before.trip;
      low = cond call.low (Some heard) before.low;
    }
