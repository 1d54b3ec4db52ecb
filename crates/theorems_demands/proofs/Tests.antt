-- Small laws on tests of states and commands, as the calls of the drive need them.
use mathlib.Core.Bool.{Bool, true, false, not, ◌&&◌, ◌||◌}
use Prim.Native.Nat.{ℕ}
use native.Mathlib.Omega.{arith}
use lib.Dec.{T, eqb, not_T, eqb→eq}
use mir.Facts.{and_yes}
use lib.Ieee.Bits.{is_true}
use Rattle.numbers.proofs.Tests.{or_cases, nor, fails_left, fails_right}
use Rattle.states.specs.States.{is, turning}
use Rattle.states.specs.declared.State.{State}

-- nothing is so and not so
pub never_both : (a : Bool) → T (not (a && not a))
never_both true = tt
never_both false = tt

-- only a low arms, whatever else has to hold for it
pub arming : (armed low other : Bool) → T (armed || low && other) → T (armed || low)
arming true low other t = tt
arming false true other t = tt
arming false false other t = absurd t

pub unarmed : (armed low : Bool) → T (not armed) → T (not (armed || low && false))
unarmed true low t = absurd t
unarmed false low t = fails_right low false tt

-- no number is that of two states
pub one_state : (n : ℕ) (high : Bool) → T (not (eqb n 3 && eqb n 1 && high))
one_state n high =
    fails_left (eqb n 3 && eqb n 1) high
    (not_T (eqb n 3 && eqb n 1)
    (λ t. let (three, one) = and_yes (eqb n 3) (eqb n 1) t in omega (arith, eqb→eq n 3 three, eqb→eq n 1 one)))

pub idle_or_stop : (n : ℕ) → T (eqb n 0 || eqb n 1) → T (not (eqb n 5))
idle_or_stop n t = or_cases (eqb n 0) (eqb n 1) t (λ zero. rw (eqb→eq n 0 zero) tt) (λ one. rw (eqb→eq n 1 one) tt)

-- what rules the second out is never joined to it
pub not_both : (a b : Bool) → (T a → T (not b)) → T (not (a && b))
not_both true b f = f tt
not_both false b f = tt

-- ---- what the onlooker calls begun, between two states: nothing where the drive stays, and nothing from one running state to the next

abbrev pub begins : State → State → Bool
begins state onto = turning onto && not (turning state) || is 3 onto && not (is 3 state)

pub begins_nothing : (state : State) → T (not (begins state state))
begins_nothing state =
    nor (turning state && not (turning state)) (is 3 state && not (is 3 state)) (never_both (turning state)) (never_both (is 3 state))

pub runs_on : (state onto : State) → T (turning state) → T (not (is 3 onto)) → T (not (begins state onto))
runs_on state onto runs on =
    nor (turning onto && not (turning state)) (is 3 onto && not (is 3 state))
    (fails_right (turning onto) (not (turning state)) (rw (is_true (turning state) runs) tt))
    (fails_left (is 3 onto) (not (is 3 state)) on)
