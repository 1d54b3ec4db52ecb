-- Every answer that the run prints is accepted by the line call where room for a line is lent: its number comes from a table whose numbers
-- are small, its state and its gate from the drive.
use Rattle.std.proofs.Common.{Option, None}
use mathlib.Core.Path.{◌≡◌}
use mathlib.Core.Bool.{Bool, true, ◌&&◌}
use mathlib.Core.List.{List, [], ◌∷◌}
use Prim.Native.Nat.{ℕ, ◌≤◌}
use native.Mathlib.Omega.{arith}
use lib.Dec.{T, leb, leb→le}
use mir.Facts.{and_yes}
use Rattle.std.proofs.lemmas.Grind.{common_steps}
use Rattle.states.proofs.Every.{every}
use Rattle.states.specs.States.{number_of}
use Rattle.drive.specs.AnyCall.{Call, loads, cycles, ticks, block_loads, reply as reply_to}
use Rattle.drive.specs.Answer.{gate, live_word, answer_telling}
use Rattle.verdicts.specs.Table.{Row, verdict}
use Rattle.settings.specs.Rules.{setting_rows}
use Rattle.drive.specs.Refusals.{load_rows, cycle_rows, tick_rows}
use Rattle.drive.specs.Blocks.{block_rows, left_by_block, block_load}
use Rattle.drive.specs.Calls.{settle_telling, load, judged_by, cycle, cycled}
use Rattle.drive.specs.Ticks.{tick, ticked}
use Rattle.drive.proofs.Settles.{settles_telling}
use Rattle.drive.specs.declared.Drive.{Drive}
use Rattle.hall.specs.declared.fate.Fate.{Fate}
use Rattle.drive.specs.declared.answer.Reply.{Reply}
use Rattle.states.specs.declared.State.{State}
use Rattle.verdicts.specs.Table.{Verdict}
use Rattle.report.specs.Refusals.{line_length, accepts}
use Rattle.report.proofs.Accepted.{accepted}

state_small : (s : State) → number_of s ≤ 9
state_small s = leb→le (number_of s) 9 (every (λ s. leb (number_of s) 9) tt s)

gate_small : (s : State) (live : ℕ) → gate s live ≤ 3
gate_small s live = grind (arith, common_steps)

pub answer_printed : (judged : Option Fate) (number place : ℕ) (d : Drive) (lent : ℕ) → number ≤ 15 → line_length ≤ lent
    → accepts (answer_telling judged number place d) lent ≡ true
unfolding answer_telling
answer_printed judged number place d lent small room =
    accepted (answer_telling judged number place d) lent room small (state_small d.state) (gate_small d.state (live_word d))

-- each row's number is small
small : List Row → Bool
small [] = true
small (r ∷ rows) = leb r.number 15 && small rows

verdict_small : (rows : List Row) → T (small rows) → (verdict rows).number ≤ 15
unfolding small
verdict_small [] _ = omega arith
verdict_small (r ∷ rows) all =
    let parts = and_yes (leb r.number 15) (small rows) all in
    grind (arith, common_steps, leb→le r.number 15 parts.0, verdict_small rows parts.1)

settle_printed : (judged : Option Fate) (v : Verdict) (next d : Drive) (lent : ℕ) → v.number ≤ 15 → line_length ≤ lent
    → accepts (settle_telling judged v next d).answer lent ≡ true
settle_printed judged v next d lent number room =
    settles_telling (λ (r : Reply). accepts r.answer lent ≡ true) judged v next d
    (λ none. answer_printed judged 0 0 next lent (omega arith) room)
    (λ given. answer_printed None v.number v.place d lent number room)

pub reply_printed : (d : Drive) (r : Call) (lent : ℕ) {said : Reply} → said ≡ reply_to d r → line_length ≤ lent
    → accepts said.answer lent ≡ true
unfolding load cycle tick block_load small setting_rows
reply_printed d (loads numbers) lent same room =
    rw same (settle_printed None (verdict (load_rows d numbers)) _ d lent (verdict_small (load_rows d numbers) tt) room)
reply_printed d (cycles fields) lent same room =
    rw same
    (settle_printed (judged_by d fields) (verdict (cycle_rows d fields)) (cycled d fields) d lent
    (verdict_small (cycle_rows d fields) tt) room)
reply_printed d (ticks fields) lent same room =
    rw same (settle_printed None (verdict (tick_rows d fields)) (ticked d fields) d lent (verdict_small (tick_rows d fields) tt) room)
reply_printed d (block_loads image block) lent same room =
    rw same
    (settle_printed None (verdict (block_rows d image block)) _ (left_by_block d image block) lent
    (verdict_small (block_rows d image block) tt) room)
