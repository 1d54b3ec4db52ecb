-- The page of the bench programs, "benchline: any call of the supervisors, whole answers": its table of records.
use Rattle.std.specs.Prelude.{cond, ℕ, ◌+◌, ◌*◌, List, Result, Ok, Err, eqb, ltb, length, take, drop}
use Prim.Native.Char.{code}
use Rattle.drive.specs.AnyCall.{Call, loads, block_loads}
use Rattle.numbers.specs.Bytes.{byte, number, numbers}
use Rattle.records.specs.Front as shiftline
use Rattle.streams.specs.declared.Missing.{Missing}
use Rattle.streams.specs.declared.Missing.TheVariants.{End, Unknown, Short}
use Rattle.records.specs.declared.Record.{Record as Read}
use Rattle.streams.specs.Run.{Front, end, unknown, short, whole}
use Rattle.bench.specs.declared.find.Found.{Found}
use Rattle.bench.specs.declared.find.Found.TheVariants.{Shiftline, Numbered, Imaged}

-- the rows of the table: "L, C, T | as in `shiftline`"; "M | as in `shiftline`"; "N | count (1 byte), then so many numbers"; "B | block (1
-- byte), length (at most 2048, more is bad), so many bytes"
pub data Record : Type 0 where
  as_in_shiftline : Call → Record
  numbered : List ℕ → Record
  imaged : (block : ℕ) (image : List ℕ) → Record

-- "load, cycle, tick"; "load of any length"; "block load from this image"
abbrev pub call_of : Record → Call
call_of (as_in_shiftline call) = call
call_of (numbered given) = loads given
call_of (imaged block image) = block_loads image block

-- letter, count byte, and two bytes for each number
abbrev pub numbered_size : ℕ → ℕ
numbered_size count = 2 + 2 * count

-- letter, block, the two bytes of the length, and so many
abbrev pub imaged_size : ℕ → ℕ
imaged_size length = 4 + length

-- "at most 2048, more is bad"
abbrev pub longest_image : ℕ
longest_image = 2048

abbrev pub size_of : Record → ℕ
size_of (as_in_shiftline call) = shiftline.size_of call
size_of (numbered given) = numbered_size (length given)
size_of (imaged block image) = imaged_size (length image)

-- what stands at the front as `shiftline` reads it
abbrev pub as_shiftline : Front Call → Front Record
as_shiftline end = end
as_shiftline unknown = unknown
as_shiftline short = short
as_shiftline (whole call) = whole (as_in_shiftline call)

-- a load of so many numbers; a count that is not there yet counts as 0, and the record is short all the same
abbrev pub numbered_front : List ℕ → Front Record
numbered_front bytes =
    cond (ltb (length bytes) (numbered_size (byte 1 bytes))) short (whole (numbered (numbers (byte 1 bytes) 2 bytes)))

-- a block load: until the length is there it is a part of one; a length that is too great makes it none
abbrev pub imaged_front : List ℕ → Front Record
imaged_front bytes =
    cond (ltb (length bytes) 4) short
    (cond (ltb longest_image (number 2 bytes)) unknown
    (cond (ltb (length bytes) (imaged_size (number 2 bytes))) short
    (whole (imaged (byte 1 bytes) (take (number 2 bytes) (drop 4 bytes))))))

-- a later request adds its letter here
unfoldable pub front : List ℕ → Front Record
front bytes =
    cond (eqb (byte 0 bytes) (code "N")) (numbered_front bytes)
    (cond (eqb (byte 0 bytes) (code "B")) (imaged_front bytes) (as_shiftline (shiftline.front bytes)))

-- what the reader of `shiftline` hands on, handed on
abbrev pub again : Result Read Missing → Result Found Missing
again (Ok record_) = Ok (Shiftline record_)
again (Err missing) = Err missing

-- what the reader hands on: a whole record of `shiftline`, how many its numbers are, or which block and how many bytes its image has; or
-- why there is none
abbrev pub found : Front Record → Result Found Missing
found end = Err End
found unknown = Err Unknown
found short = Err Short
found (whole (as_in_shiftline call)) = again (shiftline.found (whole call))
found (whole (numbered given)) = Ok (Numbered (length given))
found (whole (imaged block image)) = Ok (Imaged block (length image))
