-- Tests joined by "and", "or" and "not", taken apart and put together, where the kit has no law of its own (mir.Facts).
use mathlib.Core.Path.{◌≡◌, refl}
use mathlib.Core.Bool.{Bool, true, false, not, ◌&&◌, ◌||◌, cond, beq}
use lib.Dec.{T, T_not}
use mir.Facts.{and_yes, yes_and}

pub or_left : (a b : Bool) → T a → T (a || b)
or_left true b p = tt
or_left false b p = absurd p

pub or_right : (a b : Bool) → T b → T (a || b)
or_right true b p = tt
or_right false b p = p

pub or_cases : {C : Type 0} (a b : Bool) → T (a || b) → (T a → C) → (T b → C) → C
or_cases true b p f g = f tt
or_cases false b p f g = g p

-- the second fails, so it was the first
pub or_not : (a b : Bool) → T (a || b) → T (not b) → T a
or_not true b p q = tt
or_not false b p q = T_not b q p

pub nor : (a b : Bool) → T (not a) → T (not b) → T (not (a || b))
nor true b p q = p
nor false b p q = q

pub not_not : (a : Bool) → T a → T (not (not a))
not_not true p = tt
not_not false p = p

pub fails_left : (a b : Bool) → T (not a) → T (not (a && b))
fails_left true b p = absurd p
fails_left false b p = tt

pub fails_right : (a b : Bool) → T (not b) → T (not (a && b))
fails_right true b p = p
fails_right false b p = tt

-- what would make another pass fails where that one fails
pub contrary : (a b : Bool) → (T a → T b) → T (not b) → T (not a)
contrary true b f q = T_not b q (f tt)
contrary false b f q = tt

-- a test that fails passes nothing
pub never : {C : Type 0} (a : Bool) → T (not a) → T a → C
never a fails passes = absurd (T_not a fails passes)

-- a test passes or fails: what follows either way holds
pub decide : {C : Type 0} (test : Bool) → (T test → C) → (T (not test) → C) → C
decide true passed failed = passed tt
decide false passed failed = failed tt

-- what holds of either branch of a choice, where it is taken, holds of the choice
pub by_test :
    {A : Type 0} (P : A → Type 0) (test : Bool) {a b : A}
    → (T test → P a)
    → (T (not test) → P b)
    → P (cond test a b)
by_test P true passed failed = passed tt
by_test P false passed failed = failed tt

-- where the first passes, the second does
pub follows : (a b : Bool) → T (not a || b) → T a → T b
follows true b t passes = t
follows false b t passes = absurd passes

pub all_three : (a b c : Bool) → T (a && b && c) → T a × T b × T c
all_three true b c t = let (second, third) = and_yes b c t in (tt, second, third)
all_three false b c t = absurd t

-- two tests that agree are equal
pub agreed : (a b : Bool) → T (beq a b) → a ≡ b
agreed true true t = refl
agreed true false t = absurd t
agreed false true t = absurd t
agreed false false t = refl

-- how joined tests are put together, for `search`
pub ruleset joins = (yes_and, or_left, or_right, nor, not_not)
