-- The ten states in groups, each law by one test at all ten.
use mathlib.Core.Bool.{◌&&◌, ◌||◌, not}
use lib.Dec.{T}
use mir.Facts.{yes_and}
use Rattle.states.specs.States.{is, turning}
use Rattle.states.specs.declared.State.{State}
use Rattle.states.proofs.Every.{at_every}

-- the six starting and running states are none of the others
pub record Turns (s : State) : Type 0 where
  pub not_idle : T (not (is 0 s))
  pub not_waiting : T (not (is 1 s || is 2 s))
  pub not_measuring : T (not (is 2 s))
  pub not_fault : T (not (is 5 s))

pub turns : (s : State) → T (turning s) → Turns s
turns s t =
    record {
      not_idle = at_every turning (λ s. not (is 0 s)) tt s t;
      not_waiting = at_every turning (λ s. not (is 1 s || is 2 s)) tt s t;
      not_measuring = at_every turning (λ s. not (is 2 s)) tt s t;
      not_fault = at_every turning (λ s. not (is 5 s)) tt s t;
    }

-- what is neither IDLE nor FAULT nor one of the six is STOP or OFFSETCAL
pub waiting : (s : State) → T (not (is 0 s)) → T (not (is 5 s)) → T (not (turning s)) → T (is 1 s || is 2 s)
waiting s awake calm stands =
    at_every (λ s. not (is 0 s) && not (is 5 s) && not (turning s)) (λ s. is 1 s || is 2 s) tt s
    (yes_and (not (is 0 s) && not (is 5 s)) (not (turning s)) (yes_and (not (is 0 s)) (not (is 5 s)) awake calm) stands)
