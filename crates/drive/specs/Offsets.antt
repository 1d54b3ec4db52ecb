-- Document 01, "Cycle" and "Move": the two offsets and the sums that they are made of.
use Rattle.std.specs.Prelude.{ℕ, ◌+◌, ◌/◌, ◌%◌, ◌^◌, true, false}
use Rattle.drive.specs.declared.offsets.Pair.{Pair}
use Rattle.drive.specs.declared.offsets.Offsets.{Offsets}

abbrev pub zero : Pair
zero = record { first = 0; second = 0 }

abbrev pub unmeasured : Offsets
unmeasured = record { measured = false; value = zero; sum = zero }

-- two samples more in the sums; at 32 bits, which no run fills
abbrev pub added : ℕ → ℕ → Offsets → Offsets
added first second o =
    record {
      measured = o.measured;
      value = o.value;
      sum = record { first = (o.sum.first + first) % 2 ^ 32; second = (o.sum.second + second) % 2 ^ 32 };
    }

-- "each offset is its sum divided by N, rounded down"
abbrev pub measured_by : ℕ → Offsets → Offsets
measured_by n o =
    record { measured = true; value = record { first = o.sum.first / n; second = o.sum.second / n }; sum = o.sum }

-- "Entering a state zeroes .. in OFFSETCAL its sums"
abbrev pub cleared : Offsets → Offsets
cleared o = record { measured = o.measured; value = o.value; sum = zero }
