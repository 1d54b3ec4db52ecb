-- A table's rule, proved at all of its entries by one test that antt computes, one entry after the other.
use mathlib.Core.Path.{◌∙◌, subst, sym}
use mathlib.Core.Bool.{Bool, true, ◌&&◌}
use mathlib.Core.List.{List, [], ◌∷◌}
use Prim.Native.Nat.{ℕ, zero, suc, ◌+◌, ◌<◌}
use native.Mathlib.Nat.{add-zero, zero-add, add-suc, suc-add, le_of_suc-le-suc, not-suc-le-zero}
use lib.Dec.{T}
use lib.ListN.{length, get_or}
use mir.Facts.{and_yes}

module _ {A : Type 0} (right : ℕ → A → Bool) where
  -- the test passes at each entry of the list and its place, counted from i
  abbrev pub every : ℕ → List A → Bool
  every i [] = true
  every i (x ∷ xs) = right i x && every (suc i) xs

  from : (xs : List A) (d : A) (i : ℕ) → T (every i xs) → (k : ℕ) → k < length xs → T (right (i + k) (get_or xs k d))
  from [] d i t k h = absurd (not-suc-le-zero h)
  from (x ∷ xs) d i t zero h = subst (λ (m : ℕ). T (right m x)) (sym (add-zero i)) (and_yes (right i x) (every (suc i) xs) t).0
  from (x ∷ xs) d i t (suc k) h =
      subst (λ (m : ℕ). T (right m (get_or xs k d))) (suc-add i k ∙ sym (add-suc i k))
      (from xs d (suc i) (and_yes (right i x) (every (suc i) xs) t).1 k (le_of_suc-le-suc h))

  pub at : (xs : List A) (d : A) → T (every 0 xs) → (k : ℕ) → k < length xs → T (right k (get_or xs k d))
  at xs d t k h = subst (λ (m : ℕ). T (right m (get_or xs k d))) (zero-add k) (from xs d 0 t k h)
