-- Document 01, "Report line and program": what stands at the front of a list of bytes.
use Rattle.std.specs.Prelude.{cond, ℕ, List, eqb, ltb, length, Result, Ok, Err}
use Prim.Native.Char.{code}
use Rattle.settings.specs.Settings.{setting_count, all_settings, meant}
use Rattle.drive.specs.AnyCall.{Call, loads, cycles, ticks, block_loads}
use Rattle.streams.specs.Run.{Front, end, unknown, short, whole}
use Rattle.numbers.specs.Bytes.{byte}
use Rattle.records.specs.Decoded.{load_size, settings_of, cycle_size, cycle_of, tick_size, tick_of}
use Rattle.drive.specs.declared.call.Call.TheVariants.{Load, Cycle, Tick}
use Rattle.records.specs.declared.Record.{Record}
use Rattle.streams.specs.declared.Missing.{Missing}
use Rattle.streams.specs.declared.Missing.TheVariants.{End, Unknown, Short}

-- a load of 25 numbers stands in a record M, any other in a record L
abbrev pub size_of : Call → ℕ
size_of (loads numbers) = cond (eqb (length numbers) all_settings) (load_size all_settings) (load_size setting_count)
size_of (cycles fields) = cycle_size
size_of (ticks fields) = tick_size
-- no record of `shiftline` asks for a block load, and `front` gives none
size_of (block_loads image block) = cycle_size

-- the record, where so many bytes hold all of it
abbrev pub held : (size left : ℕ) → Call → Front Call
held size left r = cond (ltb left size) short (whole r)

-- "Program shiftline reads records: L ..; C ..; T .."; 02, M-101: "A program record M"
abbrev pub begun : ℕ → ℕ → List ℕ → Front Call
begun letter left bytes =
    cond (eqb letter (code "L")) (held (load_size setting_count) left (loads (settings_of setting_count bytes)))
    (cond (eqb letter (code "M")) (held (load_size all_settings) left (loads (settings_of all_settings bytes)))
    (cond (eqb letter (code "C")) (held cycle_size left (cycles (cycle_of bytes)))
    (cond (eqb letter (code "T")) (held tick_size left (ticks (tick_of bytes))) unknown)))

unfoldable pub front : List ℕ → Front Call
front bytes = cond (eqb (length bytes) 0) end (begun (byte 0 bytes) (length bytes) bytes)

-- what the reader hands on: a whole record, a load with the 25 settings that it means; or why there is none
abbrev pub found : Front Call → Result Record Missing
found end = Err End
found unknown = Err Unknown
found short = Err Short
found (whole (loads numbers)) = Ok (record { call = Load (meant numbers); size = size_of (loads numbers) })
found (whole (cycles fields)) = Ok (record { call = Cycle fields; size = cycle_size })
found (whole (ticks fields)) = Ok (record { call = Tick fields; size = tick_size })
found (whole (block_loads image block)) = Err Unknown

-- the shortest record and the longest
abbrev pub shortest : ℕ
shortest = cycle_size

abbrev pub longest : ℕ
longest = load_size all_settings
