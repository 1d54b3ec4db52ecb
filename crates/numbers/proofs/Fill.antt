-- A loop that fills a list from its front: what is stored so far stands before the list as it was, and a turn stores one more.
use Prim.Native.Nat.{ℕ, ◌+◌, ◌<◌}
use native.Mathlib.Nat.{zero-add}
use native.Mathlib.Numerals.{add-one}
use native.Mathlib.Omega.{arith}
use mathlib.Core.Path.{◌≡◌, sym, ap, ◌∙◌}
use mathlib.Core.List.{List, ◌++◌}
use lib.ListN.{length, get_or, take, drop, set, length-take, take-append-drop, get_or-append}
use lib.Seq.{paste-suc}

-- the first i elements are those of the new list
abbrev pub filled : List ℕ → List ℕ → ℕ → List ℕ
filled old new i = take i new ++ drop i old

pub filled_more :
    (old new : List ℕ) (i : ℕ) {v : ℕ}
    → i < length old
    → i < length new
    → v ≡ get_or new i 0
    → set (filled old new i) i v ≡ filled old new (i + 1)
filled_more old new i room some is =
    let inside : 0 + i < length old = omega arith in
    rw (is, add-one) (simp zero-add at (paste-suc old 0 new i 0 inside some))

-- the first n elements are those of the list
pub first_at : (n : ℕ) (list : List ℕ) (i : ℕ) → i < n → i < length list → get_or (take n list) i 0 ≡ get_or list i 0
first_at n list i below inside =
    sym (get_or-append (take n list) (drop n list) 0 i (omega (arith, length-take n list)))
    ∙ ap (λ (l : List ℕ). get_or l i 0) (take-append-drop n list)
