-- "a load of 24 numbers means 3": it is the load of the 25 settings that it means.
use Rattle.std.proofs.Common.{◌≡◌, ℕ, Bool, true, false, cond, not, ◌||◌, T, eqb, List, length, refl}
use mir.Facts.{eqb_yes}
use Rattle.settings.specs.Settings.{setting_count, all_settings, meant}
use Rattle.settings.specs.Rules.{setting_rows}
use Rattle.settings.proofs.Meant.{length-meant, meant_again}
use Rattle.verdicts.specs.Table.{Verdict, verdict}
use Rattle.verdicts.proofs.Passed.{passed}
use Rattle.drive.specs.Refusals.{load_rows}
use Rattle.drive.specs.Answer.{reply}
use Rattle.drive.specs.Calls.{settle, loaded, load}
use Rattle.drive.specs.declared.Drive.{Drive}

module _ (d : Drive) (numbers : List ℕ) (either : (eqb (length numbers) setting_count || eqb (length numbers) all_settings) ≡ true) where
  -- whatever state a refusal leaves
  pub same_load_or : (left : Drive)
      → settle (verdict (load_rows d (meant numbers))) (loaded (meant (meant numbers))) left
      ≡ settle (verdict (load_rows d numbers)) (loaded (meant numbers)) left
  same_load_or left = rw (meant_again numbers either, length-meant numbers either, either)

  pub same_load : load d (meant numbers) ≡ load d numbers
  unfolding load
  same_load = same_load_or d

-- a load that nothing refuses has 24 or 25 numbers
pub counted : (d : Drive) (numbers : List ℕ) → (verdict (load_rows d numbers)).number ≡ 0
    → (eqb (length numbers) setting_count || eqb (length numbers) all_settings) ≡ true
unfolding setting_rows
counted d numbers none = twice _ (passed (load_rows d numbers) tt none).1.0
  where
    twice : (b : Bool) → T (not (not b)) → b ≡ true
    twice true t = refl
    twice false t = absurd t

-- what would come next matters only where nothing refuses it
pub same_next : (v : Verdict) (next other left : Drive) → (v.number ≡ 0 → next ≡ other) → settle v next left ≡ settle v other left
same_next v next other left same = go (eqb v.number 0) refl
  where
    go : (none : Bool) → eqb v.number 0 ≡ none
        → cond none (reply 0 0 next) (reply v.number v.place left) ≡ cond none (reply 0 0 other) (reply v.number v.place left)
    go true e = rw (same (eqb_yes (rw e tt)))
    go false e = refl
