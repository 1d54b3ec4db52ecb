-- The sums stay within 4095 a sample and N samples, so none wraps at 32 bits, and no offset is above 4095.
use mathlib.Core.Path.{◌≡◌}
use mathlib.Core.Bool.{Bool, ◌&&◌}
use Prim.Native.Nat.{ℕ, ◌+◌, ◌*◌, ◌-◌, ◌%◌, ◌^◌, ◌≤◌, ◌<◌}
use native.Mathlib.Nat.{div-le_of_le-mul}
use native.Mathlib.Omega.{arith}
use lib.Dec.{T, ltb}
use lib.Pow.{pow_mono}
use mir.Facts.{and_yes, ltb_yes}
use Rattle.numbers.specs.Count.{up}
use Rattle.states.specs.States.{is}
use Rattle.settings.specs.Settings.{OffsetPsc, samples}
use Rattle.drive.specs.Offsets.{unmeasured, added, measured_by, cleared}
use Rattle.drive.specs.Calls.{summed}
use Rattle.drive.specs.declared.Drive.{Drive}
use Rattle.fields.specs.declared.Cycle.{Cycle}
use Rattle.drive.specs.declared.offsets.Offsets.{Offsets}
use Rattle.theorems_reached.specs.Reached.{AtMost, OffsetsWithin, OffsetsIn, Reached}

-- "In OFFSETCAL the first N": the samples of this cycle are summed
abbrev sums : Drive → Bool
sums d = is 2 d.state && ltb d.cycles (samples (OffsetPsc d.settings))

-- N is at most 8192, whatever OffsetPsc is
pub samples_small : (psc : ℕ) → samples psc ≤ 8192
samples_small psc = pow_mono {i = 13 - psc} {j = 13} (omega arith)

pub unmeasured_within : (n : ℕ) → OffsetsWithin n unmeasured
unmeasured_within n = grind arith

pub cleared_within : {n : ℕ} (o : Offsets) → OffsetsWithin n o → OffsetsWithin n (cleared o)
cleared_within o within = grind arith

-- "each offset is its sum divided by N"
pub measured_within : (n : ℕ) (o : Offsets) → OffsetsWithin n o → OffsetsWithin n (measured_by n o)
measured_within n o within = grind (arith, div-le_of_le-mul)

-- a sum of at most 8192 samples has room for one more in 32 bits
room : (psc sum sample : ℕ) → sum ≤ 4095 * samples psc → sample < 65536 → (sum + sample) % 2 ^ 32 ≡ sum + sample
room psc sum sample small fits = omega (arith, samples_small psc)

pub added_exactly :
    (psc first second : ℕ) (o : Offsets)
    → OffsetsWithin (samples psc) o
    → first < 65536
    → second < 65536
    → (added first second o).sum ≡ record { first = o.sum.first + first; second = o.sum.second + second }
added_exactly psc first second o within first_fits second_fits = grind (arith, room)

-- ---- a cycle

module _ (d : Drive) (r : Reached d) (c : Cycle) (first_small : c.first ≤ 4095) (second-small : c.second ≤ 4095) where
  -- where the samples are summed: one sample more, as there is one cycle more, and N are not reached
  one_more :
      T (sums d)
      → (d.cycles < samples (OffsetPsc d.settings))
      × AtMost (4095 * (d.cycles + 1)) (added c.first c.second d.offsets).sum
  one_more t = grind (arith, and_yes, ltb_yes, added_exactly)

  summed_within : OffsetsWithin (samples (OffsetPsc d.settings)) (summed d c)
  summed_within = grind (arith, one_more)

  summed_cycles : T (is 2 d.state) → AtMost (4095 * up 65535 d.cycles) (summed d c).sum
  summed_cycles t = grind (arith, one_more, samples_small)

  summed_measured : (summed d c).measured ≡ d.offsets.measured
  summed_measured = grind arith

  -- and so a cycle keeps what holds of the offsets
  pub summed_in : OffsetsIn d.state (samples (OffsetPsc d.settings)) (up 65535 d.cycles) (summed d c)
  summed_in = grind (arith, summed_within, summed_cycles, summed_measured)
