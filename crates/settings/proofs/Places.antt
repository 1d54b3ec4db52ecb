-- The rows of the settings stand at the places 0, 1, 2 and so on: one test, computed over the list.
use Rattle.std.proofs.Common.{◌≡◌, sym, ap, ◌∙◌, ℕ, suc, ◌+◌, ◌<◌, ◌≤◌, not, cond, List, ◌∷◌, map}
use Rattle.std.proofs.Common.{eqb, eqb→eq, get_or, drop}
use lib.ListN.{drop_of_length-le}
use lib.Seq.{drop-cons}
use native.Mathlib.Numerals.{add-one}
use Rattle.numbers.proofs.Table.{at}
use Rattle.settings.specs.Settings.{all_settings}
use Rattle.settings.specs.Rules.{indices, rule, setting_row}
use Rattle.verdicts.specs.Table.{Verdict, verdict, accepted}

pub place_at : (i : ℕ) → i < all_settings → get_or indices i 0 ≡ i
place_at i small = eqb→eq (get_or indices i 0) i (at (λ (k x : ℕ). eqb x k) indices 0 tt i small)

-- what the rows from the i-th on say
abbrev pub from : List ℕ → ℕ → Verdict
from s i = verdict (map (setting_row s) (drop i indices))

pub next_row :
    (s : List ℕ) (i : ℕ)
    → i < all_settings
    → from s i ≡ cond (not (rule s i)) (record { number = 2; place = i + 1 }) (from s (i + 1))
next_row s i small =
    ap (λ (l : List ℕ). verdict (map (setting_row s) l))
    (drop-cons indices i 0 small ∙ ap (λ (x : ℕ). x ∷ drop (suc i) indices) (place_at i small))
    ∙ ap (λ (j : ℕ). cond (not (rule s i)) (record { number = 2; place = i + 1 }) (from s j)) (sym (add-one i))

pub none_left : (s : List ℕ) (i : ℕ) → all_settings ≤ i → from s i ≡ accepted
none_left s i past = rw (drop_of_length-le indices past)
