-- A move goes by the absolute speed: it is the same whichever way the shaft turns.
use mathlib.Core.Path.{◌≡◌, refl, ap}
use mathlib.Core.Bool.{◌&&◌, not, cond}
use Prim.Native.Nat.{zero, suc}
use lib.IntN.{ℤ, pos, negsuc, neg_ℤ, nat_abs}
use Rattle.states.specs.States.{is, turning}
use Rattle.states.specs.declared.State.{State}
use Rattle.states.specs.declared.State.TheVariants.{Idle, Stop, OffsetCal, BtsCharge, MotorRun, Fault, CatchSpin, Parking, OpenLoop}
use Rattle.states.specs.declared.State.TheVariants.{AngleSensing}
use Rattle.moves.specs.Moves.{from_catch_spin, from_open_loop, own, move_of}
use Rattle.moves.specs.declared.Grounds.{Grounds}
use Rattle.moves.specs.declared.Move.{Move}
use Rattle.moves.specs.declared.Move.TheVariants.{Enter}

pub same_size : (z : ℤ) → nat_abs (neg_ℤ z) ≡ nat_abs z
same_size (pos zero) = refl
same_size (pos (suc n)) = refl
same_size (negsuc n) = refl

-- the same grounds with the shaft turning the other way
abbrev pub spun : Grounds → Grounds
spun g = record g { speed = neg_ℤ g.speed }

own_same : (g : Grounds) (state : State) → own (spun g) state ≡ own g state
own_same g Idle = refl
own_same g Stop = refl
own_same g OffsetCal = refl
own_same g BtsCharge = refl
own_same g MotorRun = refl
own_same g Fault = refl
own_same g CatchSpin = ap (from_catch_spin g.settings g.nth) (same_size g.speed)
own_same g Parking = refl
own_same g OpenLoop = ap (from_open_loop g.settings) (same_size g.speed)
own_same g AngleSensing = refl

pub move_same : (g : Grounds) → move_of (spun g) ≡ move_of g
unfolding move_of
move_same g =
    ap (λ (move : Move). cond (not (is 5 g.state) && g.tripped) (Enter Fault) (cond (turning g.state && g.low) (Enter Stop) move))
    (own_same g g.state)
