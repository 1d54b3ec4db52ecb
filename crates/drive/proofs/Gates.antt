-- The gates charge or drive just where no flag is live and the state is one of the six starting and running ones.
use Rattle.std.proofs.Common.{◌≡◌, ℕ, Bool, true, false, cond, not, ◌&&◌, ◌||◌, T, eqb, refl}
use Rattle.faults.specs.Word.{bit, any}
use Rattle.faults.proofs.Bits.{from_bit}
use Rattle.states.specs.States.{turning}
use Rattle.states.specs.declared.State.{State}
use Rattle.states.proofs.Every.{same_at_every}
use Rattle.drive.specs.Answer.{gate_of, gate}

abbrev charges_or_drives : ℕ → Bool
charges_or_drives n = not (eqb n 0 || eqb n 3)

by_tests :
    (kill critical live : Bool) (state : State)
    → (T kill → T live)
    → (T critical → T live)
    → charges_or_drives (cond kill 0 (cond critical 3 (cond live 0 (gate_of state)))) ≡ (not live && turning state)
by_tests true critical true state k c = refl
by_tests true critical false state k c = absurd (k tt)
by_tests false true true state k c = refl
by_tests false true false state k c = absurd (c tt)
by_tests false false true state k c = refl
by_tests false false false state k c = same_at_every (λ s. charges_or_drives (gate_of s)) turning tt state

pub gates_by : (state : State) (live : ℕ) → charges_or_drives (gate state live) ≡ (not (any live) && turning state)
gates_by state live = by_tests (bit 0 live) (bit 1 live) (any live) state (from_bit 0 live) (from_bit 1 live)
