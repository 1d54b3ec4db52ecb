-- To unfold `judges` is to unfold every definition from the log to the rule, so that the verdict on a run that is written out computes.
use Rattle.theorems_history.specs.Log.{state_after, log}
use Rattle.theorems_history.specs.Onlooker.{memory_of, notes}
use Rattle.theorems_history.specs.History

unfoldable pub judges : Unit {0}
unfolding state_after log memory_of notes History.low_since History.retry_since History.ever_loaded History.permitted
    History.fault_standing History.start_taken History.before_start History.gates_rule History.exit_rule History.retries History.retry_rule
    History.holds
judges = tt
