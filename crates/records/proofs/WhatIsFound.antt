-- What the reader's answer says of the bytes that it read: by what stands at their front.
use Rattle.std.specs.Prelude.{Result, Ok, Err}
use mathlib.Core.Path.{◌≡◌, refl, sym, subst}
use mathlib.Core.List.{List, []}
use mathlib.Core.Bool.{true, ◌||◌}
use Prim.Native.Nat.{ℕ, ◌≤◌}
use lib.Dec.{eqb}
use lib.ListN.{length}
use Rattle.settings.specs.Settings.{setting_count, all_settings, meant}
use Rattle.drive.specs.AnyCall.{Call, loads, cycles, ticks, block_loads, asked, reply}
use Rattle.drive.specs.declared.Drive.{Drive}
use Rattle.drive.proofs.Loads.{same_load}
use Rattle.streams.specs.Run.{Front, end, unknown, short, whole}
use Rattle.streams.proofs.Grown.{no_byte, no_record, a_part, a_record}
use Rattle.records.specs.Front.{size_of, front, found}
use Rattle.records.specs.declared.Record.{Record}
use Rattle.streams.specs.declared.Missing.{Missing}
use Rattle.streams.specs.declared.Missing.TheVariants.{End, Unknown, Short}
use Rattle.records.proofs.MoreBytes.{ReadOff, Grown, grown}

-- a call, and the one that it means: a load's 24 numbers mean 25
pub data Means : Call → Call → Type 0 where
  all_25 : (numbers : List ℕ) → (eqb (length numbers) setting_count || eqb (length numbers) all_settings) ≡ true
      → Means (loads numbers) (loads (meant numbers))
  itself : (r : Call) → Means r r

-- the supervisor replies to either alike
pub replied_alike : (d : Drive) {r s : Call} → Means r s → reply d s ≡ reply d r
replied_alike d (all_25 numbers either) = same_load d numbers either
replied_alike d (itself r) = refl

-- a whole record, read off the bytes, which has them all: a load's numbers are those of the bytes, and their count is known
pub record Whole (bytes : List ℕ) (found : Record) : Type 0 where
  pub call : Call
  pub stands : front bytes ≡ whole call
  pub means : Means call (asked found.call)
  pub size : found.size ≡ size_of call
  pub off : ReadOff bytes call
  pub inside : found.size ≤ length bytes

abbrev pub Meaning : List ℕ → Result Record Missing → Type 0
Meaning bytes (Err End) = front bytes ≡ end
Meaning bytes (Err Unknown) = front bytes ≡ unknown
Meaning bytes (Err Short) = front bytes ≡ short
Meaning bytes (Ok record_) = Whole bytes record_

pub meaning : (bytes : List ℕ) (said : Result Record Missing) → said ≡ found (front bytes) → Meaning bytes said
meaning bytes said e = subst (Meaning bytes) (sym e) (go (front bytes) (grown bytes []) refl)
  where
    go : (f : Front Call) {g : Front Call} → Grown bytes f g → front bytes ≡ f → Meaning bytes (found f)
    go end (no_byte _) is = is
    go unknown no_record is = is
    go short (a_part _) is = is
    go (whole _) (a_record (loads numbers) (known, off) all) is =
        record { call = loads numbers; stands = is; means = all_25 numbers known; size = refl; off = (known, off); inside = all }
    go (whole _) (a_record (cycles fields) off all) is =
        record { call = cycles fields; stands = is; means = itself (cycles fields); size = refl; off = off; inside = all }
    go (whole _) (a_record (ticks fields) off all) is =
        record { call = ticks fields; stands = is; means = itself (ticks fields); size = refl; off = off; inside = all }
    go (whole _) (a_record (block_loads image block) none _) is = absurd none
