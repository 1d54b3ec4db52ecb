-- What stands at the front of bytes stands there, too, when more have come behind them, unless it was no byte or a part of a record. From
-- this one fact about its reader a program has the laws of a program of records.
use mathlib.Core.Path.{◌≡◌, refl}
use mathlib.Core.List.{List, [], ◌++◌}
use Prim.Native.Nat.{ℕ, ◌≤◌}
use lib.ListN.{length}
use Rattle.streams.specs.Run.{Front, end, unknown, short, whole, Program}

-- what stands at the front of the bytes `a`, and what stands there when more have come: a part of a record has so many bytes at most, and a
-- whole one is read off these bytes and lies within them
pub data Grown
    {R : Type 0} (size_of : R → ℕ) (ReadOff : List ℕ → R → Type 0) (most : ℕ) (a : List ℕ)
    : Front R → Front R → Type 0
  where
    no_byte : {g : Front R} → length a ≡ 0 → Grown size_of ReadOff most a end g
    no_record : Grown size_of ReadOff most a unknown unknown
    a_part : {g : Front R} → length a ≤ most → Grown size_of ReadOff most a short g
    a_record : (r : R) → ReadOff a r → size_of r ≤ length a → Grown size_of ReadOff most a (whole r) (whole r)

module _
    {S R : Type 0} (p : Program S R) (ReadOff : List ℕ → R → Type 0) (most_of : List ℕ → ℕ)
    (grown : (a b : List ℕ) → Grown p.size_of ReadOff (most_of a) a (p.front a) (p.front (a ++ b)))
  where
    pub none : (bytes : List ℕ) → p.front bytes ≡ end → length bytes ≡ 0
    none bytes is = go (p.front bytes) (grown bytes []) is
      where
        go : (f : Front R) {g : Front R} → Grown p.size_of ReadOff (most_of bytes) bytes f g → f ≡ end → length bytes ≡ 0
        go end (no_byte nothing) e = nothing
        go unknown no_record e = cc
        go short (a_part _) e = cc
        go (whole _) (a_record _ _ _) e = cc

    pub few : (bytes : List ℕ) → p.front bytes ≡ short → length bytes ≤ most_of bytes
    few bytes is = go (p.front bytes) (grown bytes []) is
      where
        go : (f : Front R) {g : Front R} → Grown p.size_of ReadOff (most_of bytes) bytes f g → f ≡ short
            → length bytes ≤ most_of bytes
        go end (no_byte _) e = cc
        go unknown no_record e = cc
        go short (a_part most) e = most
        go (whole _) (a_record _ _ _) e = cc

    pub within : (bytes : List ℕ) (r : R) → p.front bytes ≡ whole r → p.size_of r ≤ length bytes
    within bytes r is = go (p.front bytes) (grown bytes []) is
      where
        go : (f : Front R) {g : Front R} → Grown p.size_of ReadOff (most_of bytes) bytes f g → f ≡ whole r
            → p.size_of r ≤ length bytes
        go end (no_byte _) e = cc
        go unknown no_record e = cc
        go short (a_part _) e = cc
        go (whole s) (a_record _ _ all) e = let same : s ≡ r = cc in rw same at all

    pub read_off : (bytes : List ℕ) (r : R) → p.front bytes ≡ whole r → ReadOff bytes r
    read_off bytes r is = go (p.front bytes) (grown bytes []) is
      where
        go : (f : Front R) {g : Front R} → Grown p.size_of ReadOff (most_of bytes) bytes f g → f ≡ whole r → ReadOff bytes r
        go end (no_byte _) e = cc
        go unknown no_record e = cc
        go short (a_part _) e = cc
        go (whole s) (a_record _ off _) e = let same : s ≡ r = cc in rw same at off

    pub still_unknown : (a b : List ℕ) → p.front a ≡ unknown → p.front (a ++ b) ≡ unknown
    still_unknown a b is = go (p.front a) (p.front (a ++ b)) (grown a b) is
      where
        go : (f g : Front R) → Grown p.size_of ReadOff (most_of a) a f g → f ≡ unknown → g ≡ unknown
        go end g (no_byte _) e = cc
        go unknown unknown no_record e = refl
        go unknown end x3 e = elim x3 [ ]
        go unknown short x4 e = elim x4 [ ]
        go unknown (whole _) x6 e = elim x6 [ ]
        go short g (a_part _) e = cc
        go (whole _) (whole _) (a_record _ _ _) e = cc
        go (whole _) end x5 e = elim x5 [ ]
        go (whole _) unknown x6 e = elim x6 [ ]
        go (whole _) short x7 e = elim x7 [ ]

    pub still_whole : (a b : List ℕ) (r : R) → p.front a ≡ whole r → p.front (a ++ b) ≡ whole r
    still_whole a b r is = go (p.front a) (p.front (a ++ b)) (grown a b) is
      where
        go : (f g : Front R) → Grown p.size_of ReadOff (most_of a) a f g → f ≡ whole r → g ≡ whole r
        go end g (no_byte _) e = cc
        go unknown unknown no_record e = cc
        go unknown end x3 e = elim x3 [ ]
        go unknown short x4 e = elim x4 [ ]
        go unknown (whole _) x6 e = elim x6 [ ]
        go short g (a_part _) e = cc
        go (whole _) (whole _) (a_record _ _ _) e = e
        go (whole _) end x5 e = elim x5 [ ]
        go (whole _) unknown x6 e = elim x6 [ ]
        go (whole _) short x7 e = elim x7 [ ]
