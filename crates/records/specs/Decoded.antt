-- Document 01, "Report line and program": the numbers and fields in the bytes of a record.
use Rattle.std.specs.Prelude.{ℕ, ◌+◌, ◌*◌, Bool, ◌&&◌, ◌||◌, cond, List, ℤ, eqb, leb, length, replicate}
use Rattle.std.specs.Int.{w16}
use Rattle.std.proofs.Common.{to_z}
use Rattle.numbers.specs.Bytes.{byte, number, numbers}
use Rattle.settings.specs.Settings.{setting_count, all_settings, meant}
use Rattle.fields.specs.declared.Cycle.{Cycle}
use Rattle.fields.specs.declared.Tick.{Tick}

-- "signed ones in two's complement"
abbrev pub signed_number : ℕ → List ℕ → ℤ
signed_number at bytes = to_z w16 (number at bytes)

-- "L and 24 numbers"; 02, M-101: "A program record M carries 25."
abbrev pub load_size : ℕ → ℕ
load_size count = 1 + 2 * count

unfoldable pub settings_of : ℕ → List ℕ → List ℕ
settings_of count bytes = numbers count 1 bytes

-- there is a record of so many numbers
abbrev pub counts : ℕ → Bool
counts count = eqb count setting_count || eqb count all_settings

-- the settings that a load of so many numbers means, of any bytes: zeros where they are fewer, or where there is no such record
abbrev pub settings_in : ℕ → List ℕ → List ℕ
settings_in count bytes =
    cond (counts count && leb (load_size count) (length bytes)) (meant (settings_of count bytes)) (replicate all_settings 0)

-- "C, pattern byte and two numbers"
abbrev pub cycle_size : ℕ
cycle_size = 1 + 1 + 2 * 2

unfoldable pub cycle_of : List ℕ → Cycle
cycle_of bytes = record { pattern = byte 1 bytes; first = number 2 bytes; second = number 4 bytes }

-- "T, three bytes and eight numbers, in field order"
abbrev pub tick_size : ℕ
tick_size = 1 + 3 + 2 * 8

unfoldable pub tick_of : List ℕ → Tick
tick_of bytes =
    record {
      gate_kill = byte 1 bytes;
      clear = byte 2 bytes;
      command = byte 3 bytes;
      control = number 4 bytes;
      vdc_raw = number 6 bytes;
      vdc_filt = number 8 bytes;
      temperature = number 10 bytes;
      flx_m = number 12 bytes;
      trq_ref = signed_number 14 bytes;
      speed = signed_number 16 bytes;
      target = signed_number 18 bytes;
    }
