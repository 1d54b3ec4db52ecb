-- `put` copies the bytes to their place, and the byte that ends them stands behind the last.
use Rattle.std.proofs.Common.{◌≡◌, ℕ, ◌+◌, ◌-◌, ◌≤◌, List, length, refl, ◌∙◌, arith}
use Rattle.std.proofs.lemmas.Slice.{put_mid-paste}
use Rattle.std.proofs.lemmas.List.Edits.{sets, sets-eq}
use lib.Seq.{take_all}
use borrow.Rule.Slice.PartMut.{put_mid}
use Rattle.report.proofs.Runs.{sets_append}
use Rattle.report.proofs.put.put.Goals as goal

copied : (l bytes after : List ℕ) (at : ℕ) → after ≡ bytes → at + length bytes ≤ length l
    → put_mid at (at + length bytes - at) l after ≡ sets l at bytes
copied l bytes after at same fits =
    put_mid-paste at (at + length bytes - at) l after bytes (length bytes) same (omega arith) refl
    ∙ rw (take_all (length bytes) bytes (omega arith), sets-eq bytes l at fits)

pub returns-clause-lent : goal.returns-clause-lent
returns-clause-lent c =
    let bytes = c.args.bytes.now in
    rw (copied c.args.lent.now bytes c.copy_from_slice.new.self c.args.at c.copy_from_slice.ensures.after (omega arith), sets_append)
