-- "with no live fault .. since it": the rule has no clause of its own for this, because it follows. A start lasts only while the gates
-- charge or drive, and after each such call the rule itself says that no live fault stands.
use mathlib.Core.Bool.{Bool, not, ◌&&◌, ◌||◌}
use mathlib.Core.List.{List, [], ◌∷◌}
use lib.Dec.{T, T_not}
use mir.Facts.{and_yes, yes_and, or_no}
use Rattle.theorems_history.specs.History.{Seen, since, fault_standing, ends_start, start_taken, permitted, before_start, gates_rule}
use Rattle.theorems_history.specs.History.{exit_rule}
use Rattle.theorems_history.specs.History.{retry_rule, holds}
use Rattle.numbers.proofs.Tests.{or_cases, fails_right, decide, joins}

-- neither a stop nor a live fault, by what came in or by what was shown
abbrev pub quiet : Seen → Bool
quiet call = not (ends_start call) && not (call.cause_stood || call.live_shown)

module _ (call : Seen) (past : List Seen) (ruled : T (gates_rule (call ∷ past))) (calm : T (not (ends_start call))) where
  turns : T call.turns
  turns =
      decide call.turns (λ on. on)
      (λ off. absurd (T_not (ends_start call) calm (let still = fails_right call.running call.turns off in search joins)))

  stands_none : T (not (fault_standing (call ∷ past)))
  unfolding gates_rule
  stands_none =
      let free : Bool = not (fault_standing (call ∷ past)) in
      let taken : Bool = start_taken (call ∷ past) in
      let allowed : Bool = permitted (before_start (call ∷ past)) in
      or_cases (not call.turns) (free && taken && allowed) ruled
      (λ still. absurd (T_not call.turns still turns))
      (λ all. (and_yes free taken (and_yes (free && taken) allowed all).0).0)

  quiet_now : T (quiet call)
  unfolding fault_standing
  quiet_now =
      let none = (or_no (call.cause_stood || call.live_shown) (not (call.loaded || call.exited) && fault_standing past) stands_none).0 in
      yes_and (not (ends_start call)) (not (call.cause_stood || call.live_shown)) calm none

pub no_fault_since :
    (history : List Seen)
    → T (holds history)
    → T (start_taken history)
    → T (since quiet (λ call. call.started && quiet call) history)
unfolding holds start_taken
no_fault_since [] held taken = taken
no_fault_since (call ∷ past) held taken =
    let calm : Bool = not (ends_start call) in
    let rest : Bool = gates_rule (call ∷ past) && exit_rule (call ∷ past) in
    let (three, before) = and_yes (rest && retry_rule (call ∷ past)) (holds past) held in
    let ruled = (and_yes (gates_rule (call ∷ past)) (exit_rule (call ∷ past)) (and_yes rest (retry_rule (call ∷ past)) three).0).0 in
    or_cases (call.started && calm) (calm && start_taken past) taken
    (λ now.
    let (started, still) = and_yes call.started calm now in
    let here = quiet_now call past ruled still in
    search joins)
    (λ earlier.
    let (still, was) = and_yes calm (start_taken past) earlier in
    let here = quiet_now call past ruled still in
    let there = no_fault_since past before was in
    search joins)
