-- "A block load call reads a block and loads its body": what it replies is told by the blocks of the image and by the plain load alone.
-- Every image is either the one that some blocks have, or malformed (`images` Inverse.antt), so this is all that it ever replies.
use Prim.Native.Nat.{ℕ, ◌≤◌, ◌<◌}
use native.Mathlib.Omega.{arith}
use mathlib.Core.Bool.{Bool, true, false, ◌&&◌, not, cond}
use mathlib.Core.Path.{◌≡◌, refl, sym, ap, ◌∙◌}
use mathlib.Core.List.{List}
use lib.Dec.{eqb}
use borrow.Author.Tests.{ne_eqb, le-leb, lt-leb}
use Rattle.numbers.proofs.Bytes.{Bytes}
use Rattle.verdicts.specs.Table.{verdict}
use Rattle.verdicts.specs.Table.{Verdict}
use Rattle.states.specs.States.{is}
use Rattle.settings.specs.Settings.{meant}
use Rattle.images.specs.Image.{fifteen, empty, filled, Blocks, Allowed, body_of, image_of}
use Rattle.images.specs.Table.{well_formed, numbers_in}
use Rattle.images.specs.Reads.{number_of, read_rows, found_of}
use Rattle.images.proofs.Inverse.{reader_returns, taken_is_made}
use Rattle.images.proofs.Written as Written
use Rattle.drive.specs.Answer.{answer_telling, reply as shown}
use Rattle.drive.specs.Refusals.{load_rows}
use Rattle.drive.specs.Calls.{settle, loaded, load}
use Rattle.drive.specs.Blocks.{block_numbers, block_rows, marked, left_by_block, block_load}
use Rattle.drive.specs.declared.Drive.{Drive}
use Rattle.drive.specs.declared.answer.Reply.{Reply}
use Rattle.drive.proofs.BlockLoads.{found_loads, not_found}

-- "loads its body": the plain load of these numbers; "A body that it finds and load's own rules refuse in IDLE also sets flag 12"
abbrev pub as_the_load : Drive → List ℕ → Reply
as_the_load d numbers =
    let r : Reply = load d numbers in
    cond (is 0 d.state && not (eqb r.answer.number 0)) (shown r.answer.number r.answer.place (marked d)) r

-- a load that settles by its verdict, with either of the two states that a refusal leaves
either_left : (idle : Bool) (v : Verdict) (next d : Drive)
    → settle v next (cond idle (marked d) d)
    ≡ (let r : Reply = settle v next d in
    cond (idle && not (eqb r.answer.number 0)) (shown r.answer.number r.answer.place (marked d)) r)
unfolding answer_telling
either_left idle v next d = by idle (eqb v.number 0) refl
  where
    by : (idle t : Bool) → eqb v.number 0 ≡ t
        → settle v next (cond idle (marked d) d)
        ≡ (let r : Reply = settle v next d in
        cond (idle && not (eqb r.answer.number 0)) (shown r.answer.number r.answer.place (marked d)) r)
    by true true e = rw e
    by true false e = rw (e, e)
    by false true e = rw e
    by false false e = rw e

-- a refusal of the reader's
refused_by : (d : Drive) (image : List ℕ) (k number : ℕ) → 0 < number
    → verdict (read_rows fifteen image k) ≡ record { number = number; place = 0 }
    → block_load d image k ≡ shown number 0 d
refused_by d image k number some is =
    sym (not_found d image k (λ zero. let z : number ≡ 0 = rw is at zero in omega arith))
    ∙ rw (is, ne_eqb number 0 (λ zero. omega arith))

module _ (d : Drive) (blocks : Blocks) (right : Allowed fifteen blocks) (k : ℕ) where
  abbrev image : List ℕ
  image = image_of fifteen blocks

  -- "then 8 block above 14"
  pub above : 15 ≤ k → block_load d image k ≡ shown 8 0 d
  above high = refused_by d image k 8 (omega arith) (rw (Written.well_formed_lem fifteen blocks right, le-leb 15 k high))

  -- "then 9 block empty"
  pub vacant : k < 15 → blocks k ≡ empty → block_load d image k ≡ shown 9 0 d
  vacant below none =
      refused_by d image k 9 (omega arith)
      (rw (Written.well_formed_lem fifteen blocks right, lt-leb 15 k below, Written.empty_is fifteen blocks k below none))

  returned : (numbers : List ℕ) → k < 15 → blocks k ≡ filled numbers
      → ((verdict (read_rows fifteen image k)).number ≡ 0) × (block_numbers image k ≡ numbers)
  unfolding found_of
  returned numbers below full =
      let back = reader_returns fifteen blocks right k below in
      (back.0 ∙ ap number_of full, ap numbers_in (back.1 ∙ ap body_of full) ∙ Written.numbers_back numbers)

  -- "then load's own"
  pub there : (numbers : List ℕ) → k < 15 → blocks k ≡ filled numbers → block_load d image k ≡ as_the_load d numbers
  unfolding load
  there numbers below full =
      let back = returned numbers below full in
      sym (found_loads d image k back.0)
      ∙ rw back.1 (either_left (is 0 d.state) (verdict (load_rows d numbers)) (loaded (meant numbers)) d)

-- "7 image malformed": bytes that no blocks have
pub malformed :
    (d : Drive) (image : List ℕ) (k : ℕ)
    → Bytes image
    → ((blocks : Blocks) → Allowed fifteen blocks → image ≡ image_of fifteen blocks → ⊥)
    → block_load d image k ≡ shown 7 0 d
malformed d image k small none = by (well_formed fifteen image) refl
  where
    by : (t : Bool) → well_formed fifteen image ≡ t → block_load d image k ≡ shown 7 0 d
    by true formed = let made = (taken_is_made fifteen image small).0 formed in absurd (none made.0 made.1 made.2)
    by false formed = refused_by d image k 7 (omega arith) (rw formed)

-- ---- flag 12 is no latch: a load of either kind that is accepted without it is accepted with it, and comes to the same
latched : (v : Verdict) (next d e : Drive) → (settle v next d).answer.number ≡ 0 → settle v next e ≡ settle v next d
unfolding answer_telling
latched v next d e accepted = by (eqb v.number 0) refl accepted
  where
    differs : false ≡ true → ⊥
    differs same = let z : ◌≡◌ {A = ℕ} 0 1 = cc in omega arith

    by : (t : Bool) → eqb v.number 0 ≡ t → (settle v next d).answer.number ≡ 0 → settle v next e ≡ settle v next d
    by true zero given = rw zero
    by false other given = let z : v.number ≡ 0 = rw other at given in absurd (differs (sym (rw z at other)))

pub no_latch : (d : Drive) (numbers : List ℕ) → (load d numbers).answer.number ≡ 0 → load (marked d) numbers ≡ load d numbers
unfolding load
no_latch d numbers accepted = latched (verdict (load_rows d numbers)) (loaded (meant numbers)) d (marked d) accepted

pub no_latch_for_blocks : (d : Drive) (image : List ℕ) (k : ℕ) → (block_load d image k).answer.number ≡ 0
    → block_load (marked d) image k ≡ block_load d image k
unfolding block_load
no_latch_for_blocks d image k accepted =
    latched (verdict (block_rows d image k)) (loaded (meant (block_numbers image k)))
    (left_by_block d image k) (left_by_block (marked d) image k) accepted
