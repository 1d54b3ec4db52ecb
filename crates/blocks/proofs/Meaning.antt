-- What the reader's answer says of the bytes that it read: by what stands at their front.
use mathlib.Core.Path.{◌≡◌, refl, sym, ap, ◌∙◌}
use mathlib.Core.List.{List, []}
use Prim.Native.Nat.{ℕ, ◌+◌, ◌-◌, ◌≤◌}
use native.Mathlib.Omega.{arith}
use lib.ListN.{length, take, drop}
use Rattle.std.specs.Prelude.{Result, Ok, Err}
use Rattle.images.specs.Writes.{Block}
use Rattle.streams.specs.Run.{Front, end, unknown, short, whole}
use Rattle.streams.proofs.Grown.{no_byte, no_record, a_part, a_record}
use Rattle.blocks.specs.Table.{Record, reads, chooses, writes, most_bytes, head_size, size_of, blocks_of, front, asked, found}
use Rattle.blocks.specs.declared.find.Record.{Record as Read}
use Rattle.blocks.specs.declared.find.Call.{Call}
use Rattle.blocks.specs.declared.find.Call.TheVariants.{Reads, Chooses, Writes}
use Rattle.streams.specs.declared.Missing.{Missing}
use Rattle.streams.specs.declared.Missing.TheVariants.{End, Unknown, Short}
use Rattle.blocks.proofs.Grown.{Grown, grown}

-- what was read is the record that stands there
pub record Whole (bytes : List ℕ) (read : Read) : Type 0 where
  pub stands : Record
  pub is : front bytes ≡ whole stands
  pub long : read.size ≡ size_of stands

pub wholly : (bytes : List ℕ) (read : Read) → Ok read ≡ found (front bytes) → Whole bytes read
wholly bytes read e = by (front bytes) refl e
  where
    by : (f : Front Record) → front bytes ≡ f → Ok read ≡ found f → Whole bytes read
    by end is said = let never : ◌≡◌ {A = Result Read Missing} (Ok read) (Err End) = said in cc
    by unknown is said = let never : ◌≡◌ {A = Result Read Missing} (Ok read) (Err Unknown) = said in cc
    by short is said = let never : ◌≡◌ {A = Result Read Missing} (Ok read) (Err Short) = said in cc
    by (whole r) is said =
        let same : read ≡ record { call = asked r; size = size_of r } = cc in
        record { stands = r; is = is; long = ap (λ (x : Read). x.size) same }

-- and why there is none
abbrev pub front_of : Missing → Front Record
front_of End = end
front_of Unknown = unknown
front_of Short = short

pub missing : (bytes : List ℕ) (why : Missing) → Err why ≡ found (front bytes) → front bytes ≡ front_of why
missing bytes why e = by (front bytes) refl e
  where
    by : (f : Front Record) → front bytes ≡ f → Err why ≡ found f → front bytes ≡ front_of why
    by end is said = let same : why ≡ End = cc in is ∙ ap front_of (sym same)
    by unknown is said = let same : why ≡ Unknown = cc in is ∙ ap front_of (sym same)
    by short is said = let same : why ≡ Short = cc in is ∙ ap front_of (sym same)
    by (whole r) is said =
        let never : ◌≡◌ {A = Result Read Missing} (Err why) (Ok (record { call = asked r; size = size_of r })) = said in cc

-- of R: an image behind the head
pub record Imaged (bytes : List ℕ) (block size : ℕ) : Type 0 where
  pub is : front bytes ≡ whole (reads block (take (size - head_size) (drop head_size bytes)))
  pub long : size_of (reads block (take (size - head_size) (drop head_size bytes))) ≡ size
  pub few : size - head_size ≤ most_bytes
  pub some : head_size ≤ size
  pub inside : size ≤ length bytes

-- of W: fifteen blocks, in a record of so many bytes, and not too many bytes are lent
pub record Handed (bytes : List ℕ) (lent holds size : ℕ) : Type 0 where
  pub is : front bytes ≡ whole (writes lent holds (blocks_of bytes 15))
  pub long : size_of (writes lent holds (blocks_of bytes 15)) ≡ size
  pub few : lent ≤ most_bytes

abbrev pub Meaning : List ℕ → Call → ℕ → Type 0
Meaning bytes (Reads block) size = Imaged bytes block size
Meaning bytes (Chooses count) size = front bytes ≡ whole (chooses count)
Meaning bytes (Writes lent holds blocks) size = Handed bytes lent holds size

pub meaning : (bytes : List ℕ) (read : Read) → Ok read ≡ found (front bytes) → Meaning bytes read.call read.size
meaning bytes read e = by (front bytes) (grown bytes []) refl e
  where
    by : (f : Front Record) {g : Front Record} → Grown bytes f g → front bytes ≡ f → Ok read ≡ found f
        → Meaning bytes read.call read.size
    by end (no_byte _) is said = let never : ◌≡◌ {A = Result Read Missing} (Ok read) (Err End) = said in cc
    by unknown no_record is said = let never : ◌≡◌ {A = Result Read Missing} (Ok read) (Err Unknown) = said in cc
    by short (a_part _) is said = let never : ◌≡◌ {A = Result Read Missing} (Ok read) (Err Short) = said in cc
    by (whole _) (a_record (reads block image) (off, few) all) is said =
        let same : read ≡ record { call = Reads block; size = head_size + length image } = cc in
        let part : head_size + length image - head_size ≡ length image = omega arith in
        rw same
        (record {
          is = rw part (is ∙ ap (λ (l : List ℕ). whole (reads block l)) off);
          long = rw part (ap (λ (l : List ℕ). head_size + length l) (sym off));
          few = rw part few;
          some = omega arith;
          inside = all;
        })
    by (whole _) (a_record (chooses count) _ _) is said =
        let same : read ≡ record { call = Chooses count; size = size_of (chooses count) } = cc in rw same is
    by (whole _) (a_record (writes lent holds blocks) (off, few) _) is said =
        let same : read ≡ record { call = asked (writes lent holds blocks); size = size_of (writes lent holds blocks) } = cc in
        rw same
        (record {
          is = is ∙ ap (λ (l : _). whole (writes lent holds l)) off;
          long = ap (λ (l : _). size_of (writes lent holds l)) (sym off);
          few = few;
        })

module _ (bytes : List ℕ) (read : Read) (known : Ok read ≡ found (front bytes)) where
  imaged : {block : ℕ} → read.call ≡ Reads block → Imaged bytes block read.size
  imaged is = rw is at (meaning bytes read known)

  handed : {lent holds : ℕ} {blocks : List Block} → read.call ≡ Writes lent holds blocks → Handed bytes lent holds read.size
  handed is = rw is at (meaning bytes read known)

  pub has_head : (block : ℕ) → read.call ≡ Reads block → head_size ≤ read.size
  has_head block is = (imaged is).some

  pub image_inside : (block : ℕ) → read.call ≡ Reads block → read.size ≤ length bytes
  image_inside block is = (imaged is).inside

  pub image_read : (block : ℕ) → read.call ≡ Reads block
      → front bytes ≡ whole (reads block (take (read.size - head_size) (drop head_size bytes)))
  image_read block is = (imaged is).is

  pub few_lent : (lent holds : ℕ) (blocks : List Block) → read.call ≡ Writes lent holds blocks → lent ≤ most_bytes
  few_lent lent holds blocks is = (handed is).few

pub ruleset meant = (has_head, image_inside, image_read, few_lent)
