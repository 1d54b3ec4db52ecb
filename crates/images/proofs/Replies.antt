-- What `write` tells and leaves, by what its steps promise.
use Prim.Native.Nat.{ℕ}
use mathlib.Core.Path.{◌≡◌, sym, ap}
use mathlib.Core.List.{List, [], ◌∷◌, ◌++◌}
use lib.Dec.{ltb}
use lib.ListN.{length}
use Rattle.std.specs.Prelude.{Ok, Err}
use Rattle.text.specs.Put.{written as put_into}
use Rattle.text.proofs.Chains.{chained, written_front}
use Rattle.verdicts.specs.declared.Refusal.{Refusal}
use Rattle.verdicts.specs.Table.{Verdict, accepted, row, verdict, verdict_of}
use Rattle.images.specs.Image.{fifteen, entries, bodies, image_of}
use Rattle.images.specs.Writes.{Block, stored_in, length_rows, image_in, write_rows, written, written_of, lent_after}
use Rattle.images.proofs.Puts.{within}
use Rattle.images.proofs.Told.{refused}
use Rattle.images.proofs.Rows.{image_fits}

-- the verdict of blocks, with so many lent bytes
abbrev pub said : List Block → ℕ → Verdict
said blocks lent = verdict (length_rows 1 blocks (row 5 0 (ltb lent (length (image_in blocks))) ∷ []))

module _ (blocks : List Block) (lent : List ℕ) where
  pub tells_refusal : (refusal : Refusal) → verdict_of (Err refusal) ≡ said blocks (length lent)
      → written_of (Err refusal) ≡ written blocks (length lent)
  unfolding written write_rows
  tells_refusal refusal rows = rw (← rows, refused)

  pub leaves_all : (refusal : Refusal) → verdict_of (Err refusal) ≡ said blocks (length lent) → lent_after blocks lent ≡ lent
  unfolding lent_after write_rows
  leaves_all refusal rows = rw (← rows, refused)

  pub tells_size : accepted ≡ said blocks (length lent) → written_of (Ok (length (image_in blocks))) ≡ written blocks (length lent)
  unfolding written write_rows
  tells_size rows = rw (← rows)

  pub leaves_image : accepted ≡ said blocks (length lent)
      → lent_after blocks lent ≡ put_into 0 (entries fifteen (stored_in blocks) 15 ++ bodies (stored_in blocks) 15) lent
  unfolding lent_after write_rows image_in image_of
  leaves_image rows =
      let fits = image_fits blocks (length lent) (ap (λ (v : Verdict). v.number) (sym rows)) in
      rw (← rows) (sym (written_front (image_in blocks) lent fits))

pub ruleset writing = (chained, within, tells_refusal, leaves_all, tells_size, leaves_image)
