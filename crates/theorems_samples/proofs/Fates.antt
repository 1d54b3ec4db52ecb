-- One sample: the reader of a log judges a pattern as the drive does, though he asks other questions, and counts the same.
use Prim.Native.Nat.{ℕ, ◌+◌, ◌-◌, ◌%◌, ◌^◌, ◌≤◌, ◌<◌}
use Prim.Native.Char.{code}
use native.Mathlib.Omega.{arith}
use mathlib.Core.Path.{◌≡◌, refl, ap, ◌∙◌}
use mathlib.Core.Bool.{Bool, true, false, not, ◌||◌, cond}
use lib.Dec.{T, eqb, eqb→eq, eqb_refl}
use lib.IntN.{ℤ}
use borrow.Author.Tests.{eq-eqb, ne_eqb}
use Rattle.std.specs.Prelude.{Option, Some, None}
use Rattle.numbers.specs.Count.{up}
use Rattle.hall.specs.Layout.{Layout, three, two, layout, among, next, previous, sector_of}
use Rattle.hall.specs.Fate.{fate, beside}
use Rattle.hall.specs.Sample.{sampled, after, dead_sample, stray_sample, plus, number}
use Rattle.hall.specs.Turns.{clockwise, counterclockwise}
use Rattle.hall.specs.declared.Hall.{Hall}
use Rattle.hall.specs.declared.fate.Fate.{Fate}
use Rattle.hall.specs.declared.fate.Fate.TheVariants.{Dead, First, Same, Forward, Back, Stray}
use Rattle.hall.specs.declared.layout.Sensors.{Sensors}
use Rattle.hall.specs.declared.layout.Sensors.TheVariants.{Three, Two}
use Rattle.hall.proofs.Layouts.{one_of}
use Rattle.hall.proofs.Laws.{round}
use Rattle.drive.specs.Answer.{letter_of}
use Rattle.theorems_reached.specs.Reached.{Known, HallWithin}
use Rattle.theorems_samples.specs.Letters.{letter_against, Samples, with_letter, width_of, width_left, moved_by}

-- the letter by the order alone: dead is what it does not have
abbrev pub letter_in : Layout → Option ℕ → ℕ → ℕ
letter_in l kept p = cond (among l.order p) (letter_against l kept p) (code "D")

-- two tests that pass where the other does are the same
alike : (a b : Bool) → (T a → T b) → (T b → T a) → a ≡ b
alike true true forth back = refl
alike true false forth back = absurd (forth tt)
alike false true forth back = absurd (back tt)
alike false false forth back = refl

same_either_way : (a b : ℕ) → eqb a b ≡ eqb b a
same_either_way a b =
    alike (eqb a b) (eqb b a) (λ t. rw (eqb→eq a b t) (eqb_refl b)) (λ t. rw (eqb→eq b a t) (eqb_refl a))

-- the letters stand in the order of the names
named : (same forward back : Bool)
    → cond same (code "S") (cond forward (code "W") (cond back (code "B") (code "X")))
    ≡ letter_of (cond same Same (cond forward Forward (cond back Back Stray)))
named true forward back = refl
named false true back = refl
named false false true = refl
named false false false = refl

-- every width is 1 or 2
wide : (s : Sensors) (p : ℕ) → T (among (layout s).order p) → (1 ≤ width_of (layout s) p) × (width_of (layout s) p ≤ 2)
wide Three =
    let one : (1 ≤ 1) × (1 ≤ 2) = (omega arith, omega arith) in
    one_of (λ p. (1 ≤ width_of three p) × (width_of three p ≤ 2)) three.order (one, (one, (one, (one, (one, (one, tt))))))
wide Two =
    let one : (1 ≤ 1) × (1 ≤ 2) = (omega arith, omega arith) in
    let double : (1 ≤ 2) × (2 ≤ 2) = (omega arith, omega arith) in
    one_of (λ p. (1 ≤ width_of two p) × (width_of two p ≤ 2)) two.order (double, (one, (double, (one, tt))))

module _ (s : Sensors) where
  abbrev l : Layout
  l = layout s

  -- he asks whether the pattern is the next of the kept one, the drive whether the kept one is the previous of the pattern
  next_or_previous : (k p : ℕ) → T (among l.order k) → T (among l.order p) → eqb p (next l k) ≡ eqb k (previous l p)
  next_or_previous k p k-stands p-stands =
      alike (eqb p (next l k)) (eqb k (previous l p))
      (λ t. rw (eqb→eq p (next l k) t, (round s clockwise k k-stands).back_here) (eqb_refl k))
      (λ t. rw (eqb→eq k (previous l p) t, (round s counterclockwise p p-stands).back_here) (eqb_refl p))

  pub letter_is : (kept : Option ℕ) (p : ℕ) → Known l kept → letter_in l kept p ≡ letter_of (fate l p kept)
  unfolding fate beside
  letter_is kept p known = go (among l.order p) refl
    where
      against : (kept : Option ℕ) → Known l kept → T (among l.order p)
          → letter_against l kept p ≡ letter_of (beside (previous l p) p (next l p) kept)
      against None known stands = refl
      against (Some k) known stands =
          rw (same_either_way p k, next_or_previous k p known stands)
          (named (eqb k p) (eqb k (previous l p)) (eqb k (next l p)))

      go : (stands : Bool) → among l.order p ≡ stands
          → cond stands (letter_against l kept p) (code "D") ≡ letter_of (cond stands (beside (previous l p) p (next l p) kept) Dead)
      go true e = against kept known (rw e tt)
      go false e = refl

  -- a step forward comes from a pattern of the order, and a step back leads to one
  abbrev Stands : Option ℕ → ℕ → Fate → Type 0
  Stands kept p Dead = Unit {0}
  Stands kept p First = Unit {0}
  Stands kept p Same = Unit {0}
  Stands None p Forward = ⊥
  Stands (Some k) p Forward = T (among l.order k)
  Stands kept p Back = T (among l.order p)
  Stands kept p Stray = Unit {0}

  stands_by : (kept : Option ℕ) (p : ℕ) → Known l kept → Stands kept p (fate l p kept)
  unfolding fate beside
  stands_by kept p known = go (among l.order p) refl
    where
      steps : (k : ℕ) → T (among l.order k) → T (among l.order p) → (same forward back : Bool)
          → Stands (Some k) p (cond same Same (cond forward Forward (cond back Back Stray)))
      steps k from to true forward back = tt
      steps k from to false true back = from
      steps k from to false false true = to
      steps k from to false false false = tt

      within : (kept : Option ℕ) → Known l kept → T (among l.order p) → Stands kept p (beside (previous l p) p (next l p) kept)
      within None known to = tt
      within (Some k) known to = steps k known to (eqb k p) (eqb k (previous l p)) (eqb k (next l p))

      go : (to : Bool) → among l.order p ≡ to → Stands kept p (cond to (beside (previous l p) p (next l p) kept) Dead)
      go true e = within kept known (rw e tt)
      go false e = tt

-- ---- what he keeps is what the drive keeps

pub record Follows (hall : Hall) (m : Samples) : Type 0 where
  pub kept : m.kept ≡ hall.kept
  pub dead : m.dead ≡ hall.dead_streak
  pub stray : m.stray ≡ hall.stray_streak

follows_by : (l : Layout) (hall : Hall) (m : Samples) (p : ℕ) (offset : ℤ) → Follows hall m → (f : Fate)
    → Follows (after l hall p offset f).hall (with_letter (letter_of f) p m)
unfolding dead_sample stray_sample
follows_by l hall m p offset f Dead =
    record {
      kept =
          ap (λ (n : ℕ). cond (eqb (up 2 n) 2) None m.kept) f.dead
          ∙ ap (cond (eqb (up 2 hall.dead_streak) 2) None) f.kept;
      dead = rw f.dead;
      stray = refl;
    }
follows_by l hall m p offset f First = record { kept = refl; dead = refl; stray = refl }
follows_by l hall m p offset f Same = record { kept = f.kept; dead = refl; stray = refl }
follows_by l hall m p offset f Forward = record { kept = refl; dead = refl; stray = refl }
follows_by l hall m p offset f Back = record { kept = refl; dead = refl; stray = refl }
follows_by l hall m p offset f Stray =
    record {
      kept =
          ap (λ (n : ℕ). cond (eqb (up 3 n) 3) None m.kept) f.stray
          ∙ ap (cond (eqb (up 3 hall.stray_streak) 3) None) f.kept;
      dead = refl;
      stray = rw f.stray;
    }

-- ---- he counts what the drive counts

-- a position that is shown, and the one after a sample of this fate
module _ (s : Sensors) (hall : Hall) (p : ℕ) (offset : ℤ) (small : hall.position < 2 ^ 32) where
  abbrev after_it : Fate → ℕ
  after_it f = (after (layout s) hall p offset f).hall.position

  -- forward from a kept pattern, with its width
  forward_moves : (width : ℕ) → (1 ≤ width) × (width ≤ 2) → eqb ((hall.position + width) % 2 ^ 32) hall.position ≡ false
  forward_moves width (some, few) = ne_eqb _ hall.position (λ e. omega (arith, e))

  back_moves : (width : ℕ) → (1 ≤ width) × (width ≤ 2)
      → eqb ((hall.position + (2 ^ 32 - width % 2 ^ 32)) % 2 ^ 32) hall.position ≡ false
  back_moves width (some, few) = ne_eqb _ hall.position (λ e. omega (arith, e))

  moved_by_lem : (f : Fate) → Stands s hall.kept p f → after_it f ≡ moved_by (letter_of f) (layout s) hall.kept p hall.position
  unfolding dead_sample stray_sample
  moved_by_lem Dead stands = refl
  moved_by_lem First stands = refl
  moved_by_lem Same stands = refl
  moved_by_lem Forward stands = go hall.kept stands
    where
      go : (kept : Option ℕ) → Stands s kept p Forward
          → plus (sector_of (layout s) (number kept)).width hall.position ≡ (hall.position + width_left (layout s) kept) % 2 ^ 32
      go None stands = absurd stands
      go (Some k) stands = refl
  moved_by_lem Back stands = let (some, few) = wide s p stands in omega arith
  moved_by_lem Stray stands = refl

  -- and only steps move
  only_steps : (f : Fate) → Stands s hall.kept p f
      → not (eqb (after_it f) hall.position) ≡ (eqb (letter_of f) (code "W") || eqb (letter_of f) (code "B"))
  unfolding dead_sample stray_sample
  only_steps Dead stands = rw (eq-eqb hall.position hall.position refl)
  only_steps First stands = rw (eq-eqb hall.position hall.position refl)
  only_steps Same stands = rw (eq-eqb hall.position hall.position refl)
  only_steps Forward stands = go hall.kept stands
    where
      go : (kept : Option ℕ) → Stands s kept p Forward
          → not (eqb (plus (sector_of (layout s) (number kept)).width hall.position) hall.position) ≡ true
      go None stands = absurd stands
      go (Some k) stands = rw (forward_moves (width_of (layout s) k) (wide s k stands))
  only_steps Back stands = rw (back_moves (width_of (layout s) p) (wide s p stands))
  only_steps Stray stands = rw (eq-eqb hall.position hall.position refl)

-- ---- one sample, whatever its fate

module _ (s : Sensors) (hall : Hall) (within : HallWithin s hall) (m : Samples) (follows : Follows hall m) (p : ℕ) (offset : ℤ) where
  abbrev next_hall : Hall
  next_hall = (sampled s hall p offset).hall

  abbrev his_letter : ℕ
  his_letter = letter_in (layout s) m.kept p

  abbrev its_fate : Fate
  its_fate = fate (layout s) p hall.kept

  stands : Stands s hall.kept p its_fate
  stands = stands_by s hall.kept p within.kept

  pub letter_told : his_letter ≡ letter_of its_fate
  letter_told = rw follows.kept (letter_is s hall.kept p within.kept)

  pub samples_follow : Follows next_hall (with_letter his_letter p m)
  unfolding sampled
  samples_follow = rw letter_told (follows_by (layout s) hall m p offset follows its_fate)

  pub position_told : next_hall.position ≡ moved_by his_letter (layout s) m.kept p hall.position
  unfolding sampled
  position_told = rw (letter_told, follows.kept) (moved_by_lem s hall p offset within.position its_fate stands)

  pub steps_told : not (eqb next_hall.position hall.position) ≡ (eqb his_letter (code "W") || eqb his_letter (code "B"))
  unfolding sampled
  steps_told = rw letter_told (only_steps s hall p offset within.position its_fate stands)
