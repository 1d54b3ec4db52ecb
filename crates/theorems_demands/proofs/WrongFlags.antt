-- Wrong drives about flag 12: each is this drive but for one thing, in its state and its account of itself alike. `lit`, which sees calls
-- and answers alone, tells each at the last call of a run that is written out. antt computes each verdict. (This drive passes:
-- FlagTwelve.antt.)
use mathlib.Core.Path.{◌≡◌, refl}
use mathlib.Core.Bool.{Bool, true, not, ◌&&◌, cond, beq}
use mathlib.Core.List.{List, [], ◌∷◌, reverse}
use Prim.Native.Nat.{ℕ}
use lib.Dec.{eqb}
use Rattle.faults.specs.Word.{bit}
use Rattle.theorems_history.specs.Log.{Entry, log}
use Rattle.theorems_history.proofs.Judges.{judges}
use Rattle.states.specs.States.{is}
use Rattle.images.specs.Image.{fifteen, Stored, empty, filled, image_of}
use Rattle.drive.specs.Answer.{reply as replied}
use Rattle.drive.specs.Calls.{becomes}
use Rattle.drive.specs.Blocks.{marked}
use Rattle.drive.specs.AnyCall.{Call, loads, block_loads, reply}
use Rattle.drive.specs.declared.Drive.{Drive}
use Rattle.drive.specs.declared.answer.Answer.{Answer}
use Rattle.drive.specs.declared.answer.Reply.{Reply}
use Rattle.theorems_reached.specs.Machine.{machine_of}
use Rattle.theorems_demands.specs.NamedCalls.{settings_with, loaded}
use Rattle.theorems_demands.specs.Amended.{is_block_load}
use Rattle.theorems_demands.specs.FlagTwelve.{is_load, loaded_yet, lit}
use Rattle.theorems_demands.proofs.Computes.{computes, each}

abbrev Replies : Type 0
Replies = Drive → Call → Reply

-- the same refusal, with flag 12 or with no flag
abbrev with_flag : Reply → Reply
with_flag r = replied r.answer.number r.answer.place (marked r.drive)

abbrev without_flags : Reply → Reply
without_flags r =
    let d : Drive = r.drive in
    replied r.answer.number r.answer.place
    (becomes d d.state d.hall 0 d.cycles d.ticks d.offsets d.run d.armed d.retries)

-- this drive, but that where the test holds of a call and its reply, that is changed
abbrev changed : (Drive → Call → Reply → Bool) → (Reply → Reply) → Replies
changed test change d call = let r : Reply = reply d call in cond (test d call r) (change r) r

-- ---- images with a body that load's rules refuse in block 0, a good one in block 1, and no other

abbrev in_blocks : ℕ → Stored
in_blocks k = cond (eqb k 0) (filled (settings_with 2 0)) (cond (eqb k 1) (filled (settings_with 0 0)) empty)

abbrev block : ℕ → Call
block k = block_loads (image_of fifteen in_blocks) k

abbrev malformed : Call
malformed = block_loads [] 0

-- a plain load of what block 0 holds
abbrev mistyped : Call
mistyped = loads (settings_with 2 0)

-- a wrong drive, and the calls at whose last it is told
abbrev Row : Type 0
Row = Replies × List Call

abbrev rows : List Row
rows =
    -- flag 12 never set
    (changed (λ d call r. is_block_load call) without_flags, block 0 ∷ []) ∷
    -- "The plain load, refused, sets no flag"
    (changed (λ d call r. not (is_block_load call) && is_load call && eqb r.answer.number 2) with_flag, mistyped ∷ []) ∷
    -- set in STOP
    (changed (λ d call r. is_block_load call && eqb r.answer.number 2) with_flag, block 1 ∷ block 0 ∷ []) ∷
    -- set where no body was found: malformed, above 14, empty
    (changed (λ d call r. is_block_load call && is 0 d.state && eqb r.answer.number 7) with_flag, malformed ∷ []) ∷
    (changed (λ d call r. is_block_load call && is 0 d.state && eqb r.answer.number 8) with_flag, block 15 ∷ []) ∷
    (changed (λ d call r. is_block_load call && is 0 d.state && eqb r.answer.number 9) with_flag, block 2 ∷ []) ∷
    -- a number that lies: an empty block answered with 2 and flag 12, a bad body answered with 9 and no flag
    (changed (λ d call r. is 0 d.state && eqb r.answer.number 9) (λ r. with_flag (replied 2 0 r.drive)), block 2 ∷ []) ∷
    (changed (λ d call r. is_block_load call && eqb r.answer.number 2) (λ r. without_flags (replied 9 0 r.drive)), block 0 ∷ []) ∷
    -- taken away by a refused load of either kind
    (changed (λ d call r. not (is_block_load call) && eqb r.answer.number 2) without_flags, block 0 ∷ mistyped ∷ []) ∷
    (changed (λ d call r. eqb r.answer.number 9) without_flags, block 0 ∷ block 2 ∷ []) ∷
    -- "until a load of either kind is accepted": left by one
    (changed (λ d call r. is_load call && not (is_block_load call) && bit 12 d.flags) with_flag, block 0 ∷ loaded ∷ []) ∷
    (changed (λ d call r. is_block_load call && bit 12 d.flags) with_flag, block 0 ∷ block 1 ∷ []) ∷
    []

-- the newest answer shows flag 12 just where the log says that it stands
abbrev agrees : List (Entry Call Answer) → Bool
agrees [] = true
agrees (e ∷ earlier) = beq (bit 12 e.answer.live) (lit (e ∷ earlier))

abbrev told_now : Row → Bool
told_now row = not (agrees (log (machine_of row.0) (reverse row.1)))

pub each_is_told : each told_now rows ≡ true
unfolding judges computes loaded_yet lit
each_is_told = refl
