-- A machine, and the log of what it was asked and what it answered.
--
-- Whatever is said of every sequence of calls is said of this list: it holds what a stranger can see, and nothing of what the machine
-- keeps inside. The newest call stands first, in a list of calls and in a log alike.
use Rattle.std.specs.Prelude.{List, [], ◌∷◌}

pub record Machine : Type 1 where
  pub State : Type 0
  pub Call : Type 0
  pub Answer : Type 0
  pub power_up : State
  -- the state that a call leaves
  pub step : State → Call → State
  -- what the call answers
  pub answer : State → Call → Answer

-- a call with its answer
pub record Entry (Call Answer : Type 0) : Type 0 where
  pub call : Call
  pub answer : Answer

module _ (machine : Machine) where
  -- "Its sequences hand each call the state that the call before left, the first that of power-up."
  unfoldable pub state_after : List machine.Call → machine.State
  state_after [] = machine.power_up
  state_after (call ∷ earlier) = machine.step (state_after earlier) call

  -- a call made in a state, with the answer that it gets there
  abbrev pub entry : machine.State → machine.Call → Entry machine.Call machine.Answer
  entry state call = record { call = call; answer = machine.answer state call }

  unfoldable pub log : List machine.Call → List (Entry machine.Call machine.Answer)
  log [] = []
  log (call ∷ earlier) = entry (state_after earlier) call ∷ log earlier
