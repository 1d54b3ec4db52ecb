-- Document 02, M-102, of calls and answers: "A body that it finds and load's own rules refuse in IDLE also sets flag 12, always live,
-- until a load of either kind is accepted .. The plain load, refused, sets no flag." Whoever reads a log can tell from it when flag 12
-- stands; the live word of each answer says the same.
use Rattle.std.specs.Prelude.{◌*◌, Bool, true, false, not, ◌&&◌, ◌||◌, ◌≡◌, List, [], ◌∷◌, eqb, ltb}
use Rattle.numbers.specs.Bytes.{byte}
use Rattle.faults.specs.Word.{bit}
use Rattle.images.specs.Image.{fifteen}
use Rattle.images.specs.Table.{well_formed}
use Rattle.theorems_history.specs.Log.{Entry, state_after, log}
use Rattle.drive.specs.AnyCall.{Call, loads, cycles, ticks, block_loads}
use Rattle.drive.specs.declared.answer.Answer.{Answer}
use Rattle.theorems_reached.specs.Machine.{machine}

-- "a load of either kind"
abbrev pub is_load : Call → Bool
is_load (loads numbers) = true
is_load (cycles fields) = false
is_load (ticks fields) = false
is_load (block_loads image block) = true

-- ".. is accepted"
abbrev pub loads_now : Entry Call Answer → Bool
loads_now e = is_load e.call && eqb e.answer.number 0

-- IDLE is left by the first of them
unfoldable pub loaded_yet : List (Entry Call Answer) → Bool
loaded_yet [] = false
loaded_yet (e ∷ earlier) = loads_now e || loaded_yet earlier

-- "A body that it finds": by the call alone. The image is well-formed, the block is one of the fifteen, and its entry is of kind 1
abbrev pub finds : Call → Bool
finds (loads numbers) = false
finds (cycles fields) = false
finds (ticks fields) = false
finds (block_loads image block) = well_formed fifteen image && ltb block 15 && eqb (byte (5 * block) image) 1

-- ".. and load's own rules refuse in IDLE"
abbrev pub refused_now : Entry Call Answer → List (Entry Call Answer) → Bool
refused_now e earlier = finds e.call && not (eqb e.answer.number 0) && not (loaded_yet earlier)

-- flag 12 stands
unfoldable pub lit : List (Entry Call Answer) → Bool
lit [] = false
lit (e ∷ earlier) = not (loads_now e) && (refused_now e earlier || lit earlier)

-- after any sequence of calls from power-up and one more
abbrev pub FlagTwelve : Type 0
FlagTwelve =
    (call : Call) (earlier : List Call)
    → bit 12 (machine.answer (state_after machine earlier) call).live ≡ lit (log machine (call ∷ earlier))
