-- A tick with its torque and without: it is accepted or refused alike, where the torque is one that a tick may have.
use mathlib.Core.Path.{◌≡◌}
use mathlib.Core.Bool.{false, not}
use mathlib.Core.List.{List, [], ◌∷◌, ◌++◌}
use Prim.Native.Nat.{◌≤◌}
use native.Mathlib.Omega.{arith}
use lib.Dec.{T, ltb, not_T}
use lib.IntN.{nat_abs}
use lib.ListN.{take, drop}
use mir.Facts.{ltb_yes}
use Rattle.fields.specs.declared.Tick.{Tick}
use Rattle.verdicts.specs.Table.{Row, row, verdict}
use Rattle.verdicts.specs.Table.{Verdict}
use Rattle.verdicts.proofs.Passed.{Passed, passed, none_holds}
use Rattle.drive.specs.Answer.{answer_telling, reply as replied}
use Rattle.drive.specs.Refusals.{tick_rows}
use Rattle.drive.specs.Calls.{settle}
use Rattle.drive.specs.Ticks.{ticked}
use Rattle.drive.specs.Ticks as TickCalls
use Rattle.drive.specs.AnyCall.{ticks, reply}
use Rattle.drive.specs.declared.Drive.{Drive}
use Rattle.drive.specs.declared.answer.Reply.{Reply}
use Rattle.drive.proofs.Settles.{settles}
use Rattle.theorems_demands.specs.Stalled.{slack}

-- another row that does not hold in the place of one
passed_with :
    (before : List Row) (r other : Row) (behind : List Row)
    → Passed (before ++ (r ∷ behind))
    → T (not other.holds)
    → Passed (before ++ (other ∷ behind))
passed_with [] r other behind p fails = (fails, p.1)
passed_with (q ∷ before) r other behind p fails = (p.0, passed_with before r other behind p.1 fails)

accepted_by : (v : Verdict) (next left : Drive) → (settle v next left).answer.number ≡ 0 → v.number ≡ 0
unfolding answer_telling
accepted_by v next left =
    settles (λ (r : Reply). r.answer.number ≡ 0 → v.number ≡ 0) v next left (λ none e. none) (λ given e. e)

accepts : (v : Verdict) (next left : Drive) → v.number ≡ 0 → settle v next left ≡ replied 0 0 next
accepts v next left none = rw none

module _ (d : Drive) (t : Tick) where
  -- it is accepted where no row of its table holds
  pub unrefused : (reply d (ticks t)).answer.number ≡ 0 → (verdict (tick_rows d t)).number ≡ 0
  unfolding TickCalls.tick
  unrefused = accepted_by (verdict (tick_rows d t)) (ticked d t) d

  pub accepted : (verdict (tick_rows d t)).number ≡ 0 → reply d (ticks t) ≡ replied 0 0 (ticked d t)
  unfolding TickCalls.tick
  accepted = accepts (verdict (tick_rows d t)) (ticked d t) d

  abbrev torque_row : Row
  torque_row = row 1 9 (ltb 4095 (nat_abs t.trq_ref))

  pub without : (verdict (tick_rows d t)).number ≡ 0 → (verdict (tick_rows d (slack t))).number ≡ 0
  without none =
      let rows : List Row = tick_rows d t in
      none_holds (tick_rows d (slack t))
      (passed_with (take 9 rows) torque_row (row 1 9 false) (drop 10 rows) (passed rows tt none) tt)

  pub with_torque_lem :
      nat_abs t.trq_ref ≤ 4095
      → (verdict (tick_rows d (slack t))).number ≡ 0
      → (verdict (tick_rows d t)).number ≡ 0
  with_torque_lem small none =
      let rows : List Row = tick_rows d (slack t) in
      none_holds (tick_rows d t)
      (passed_with (take 9 rows) (row 1 9 false) torque_row (drop 10 rows) (passed rows tt none)
      (not_T torque_row.holds (λ above. omega (arith, small, ltb_yes {a = 4095} {b = nat_abs t.trq_ref} above))))
