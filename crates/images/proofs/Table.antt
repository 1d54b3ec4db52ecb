-- What a table of entries that is kept tells of each entry and of where its body lies.
use Prim.Native.Nat.{ℕ, zero, suc, ◌+◌, ◌≤◌, ◌<◌}
use native.Mathlib.Nat.{eq-or-lt_of_le}
use native.Mathlib.Omega.{arith}
use mathlib.Core.Logic.{⊎_elim}
use mathlib.Core.Path.{◌≡◌, refl, sym, ◌∙◌}
use mathlib.Core.Bool.{Bool, true, false, ◌&&◌, ◌||◌}
use mathlib.Core.List.{List}
use lib.Dec.{eqb, leb}
use lib.ListN.{length}
use borrow.Author.Tests.{eqb-true, leb-true, lt-leb, le-leb}
use Rattle.images.specs.Image.{entry_at}
use Rattle.images.specs.Table.{kind_at, offset_at, length_at, keeps, ends, kept, tabled}

pub both : (a b : Bool) → (a && b) ≡ true → (a ≡ true) × (b ≡ true)
both true b h = (refl, h)
both false b h = let z : ◌≡◌ {A = ℕ} 0 1 = cc in absurd (omega arith)

-- the two ways of an entry that keeps its rule
pub data Entry (image : List ℕ) (at end : ℕ) : Type 0 where
  zeros : kind_at image at ≡ 0 → offset_at image at ≡ 0 → length_at image at ≡ 0 → Entry image at end
  body : kind_at image at ≡ 1 → offset_at image at ≡ end → (eqb (length_at image at) 48 || eqb (length_at image at) 50) ≡ true
      → Entry image at end

pub entry : (image : List ℕ) (at end : ℕ) → keeps image at end ≡ true → Entry image at end
unfolding keeps
entry image at end h = by (eqb (kind_at image at) 0) refl
  where
    by : (t : Bool) → eqb (kind_at image at) 0 ≡ t → Entry image at end
    by true e =
        let two = both (eqb (offset_at image at) 0) _ (rw e at h) in
        zeros (eqb-true _ _ e) (eqb-true _ _ two.0) (eqb-true _ _ two.1)
    by false e =
        let one = both (eqb (kind_at image at) 1) _ (rw e at h) in
        let two = both (eqb (offset_at image at) end) _ one.1 in
        body (eqb-true _ _ one.0) (eqb-true _ _ two.0) two.1

module _ (before blocks : ℕ) (image : List ℕ) where
  kept_at : (m k : ℕ) → kept before blocks image m ≡ true → k < m
      → keeps image (entry_at before k) (ends before blocks image k) ≡ true
  unfolding kept
  kept_at zero k h below = absurd (omega arith)
  kept_at (suc m) k h below =
      let two = both (kept before blocks image m) _ h in
      let upto : k ≤ m = omega arith in
      ⊎_elim (λ same. rw same two.1) (λ less. kept_at m k two.0 less) (eq-or-lt_of_le upto)

  -- what the code's walk over the entries comes to: too few bytes, an entry that breaks its rule, and where the last body ends
  pub too_short : length image < entry_at before blocks → tabled before blocks image ≡ false
  unfolding tabled
  too_short few = rw (lt-leb _ _ few)

  pub broken : (k : ℕ) → k < blocks → keeps image (entry_at before k) (ends before blocks image k) ≡ false
      → tabled before blocks image ≡ false
  unfolding tabled
  broken k below bad = by (kept before blocks image blocks) refl
    where
      by : (t : Bool) → kept before blocks image blocks ≡ t
          → (leb (entry_at before blocks) (length image) && (t && eqb (ends before blocks image blocks) (length image))) ≡ false
      by true all = let z : true ≡ false = sym (kept_at blocks k all below) ∙ bad in cc
      by false some = by_room (leb (entry_at before blocks) (length image))
        where
          by_room : (room : Bool) → (room && false) ≡ false
          by_room true = refl
          by_room false = refl

  pub walked : entry_at before blocks ≤ length image → kept before blocks image blocks ≡ true
      → tabled before blocks image ≡ eqb (ends before blocks image blocks) (length image)
  unfolding tabled
  walked room all = rw (le-leb _ _ room, all)

  pub ends_rise : (m k : ℕ) → k ≤ m → ends before blocks image k ≤ ends before blocks image m
  unfolding ends
  ends_rise zero k h = let none : k ≡ 0 = omega arith in rw none (omega arith)
  ends_rise (suc m) k h =
      ⊎_elim (λ same. rw same (omega arith))
      (λ less. let upto : k ≤ m = omega arith in omega (arith, ends_rise m k upto))
      (eq-or-lt_of_le h)

  -- what is known of an image whose table is kept
  pub record Tabled : Type 0 where
    pub room : entry_at before blocks ≤ length image
    pub entries : (k : ℕ) → k < blocks → Entry image (entry_at before k) (ends before blocks image k)
    pub whole : ends before blocks image blocks ≡ length image

  pub tabled_gives : tabled before blocks image ≡ true → Tabled
  unfolding tabled
  tabled_gives h =
      let one = both (leb (entry_at before blocks) (length image)) _ h in
      let two = both (kept before blocks image blocks) _ one.1 in
      record {
        room = leb-true _ _ one.0;
        entries = λ k below. entry image (entry_at before k) (ends before blocks image k) (kept_at blocks k two.0 below);
        whole = eqb-true _ _ two.1;
      }

  -- the body of a filled entry lies inside the image
  pub inside : Tabled → (k : ℕ) → k < blocks → kind_at image (entry_at before k) ≡ 1
      → offset_at image (entry_at before k) + length_at image (entry_at before k) ≤ length image
  unfolding ends
  inside t k below full = by (t.entries k below)
    where
      by : Entry image (entry_at before k) (ends before blocks image k)
          → offset_at image (entry_at before k) + length_at image (entry_at before k) ≤ length image
      by (zeros kind offset size) = absurd (omega (arith, kind, full))
      by (body kind offset size) =
          let upto : suc k ≤ blocks = below in omega (arith, ends_rise blocks (suc k) upto, t.whole, offset)

pub ruleset walk = (too_short, broken, walked)
