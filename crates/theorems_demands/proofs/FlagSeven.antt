-- A tick that is taken in MOTORRUN, with and without its torque: flag 7 is all the difference that the torque makes.
use mathlib.Core.Path.{◌≡◌, refl, sym, ap, ◌∙◌}
use mathlib.Core.Bool.{Bool, true, false, ◌&&◌, ◌||◌, cond, or-false, false≢true}
use mathlib.Core.List.{List, [], ◌∷◌, ◌++◌}
use Prim.Native.Nat.{ℕ, ◌/◌, ◌%◌, ◌^◌}
use native.Mathlib.Omega.{arith}
use lib.Bits.{or_zero_l, or_zero_r}
use lib.IntN.{nat_abs}
use lib.Dec.{T, eqb, leb}
use lib.ListN.{take, drop}
use lib.Ieee.Bits.{is_true, is_false}
use mir.Facts.{not_T, T_not-not, eqb_yes, leb_yes}
use Rattle.numbers.proofs.Tests.{fails_left, fails_right}
use Rattle.faults.specs.Word.{bit, flag, ◌or◌, together, any}
use Rattle.faults.proofs.Bits.{bit_or_lem, bit_and_lem, together_within}
use Rattle.faults.proofs.Joined.{or_assoc, taken_out, live_each, live_flag}
use Rattle.states.specs.States.{is}
use Rattle.states.specs.declared.State.TheVariants.{Stop, Fault}
use Rattle.states.proofs.Every.{named}
use Rattle.settings.specs.Settings.{FaultEnable, MotorLim}
use Rattle.fields.specs.declared.Tick.{Tick}
use Rattle.motor.specs.Counts.{watched, locked}
use Rattle.motor.specs.Reference.{target_of}
use Rattle.moves.specs.Moves.{move_of}
use Rattle.moves.specs.declared.Move.{Move}
use Rattle.moves.specs.declared.Move.TheVariants.{Stay, Enter}
use Rattle.drive.specs.Flags.{always_live, alive}
use Rattle.drive.specs.Causes.{cause_flags, causes}
use Rattle.drive.specs.Command.{low}
use Rattle.drive.specs.Answer.{answer, answer_telling}
use Rattle.drive.specs.Ticks.{watch, standing, raised, alight, armed_by, nth, chosen, moved, ticked}
use Rattle.drive.specs.declared.Drive.{Drive}
use Rattle.theorems_reached.specs.Reached.{Loaded, Reached}
use Rattle.theorems_reached.proofs.Loads.{at_least}
use Rattle.theorems_reached.proofs.Corollaries.{live_outside_fault}
use Rattle.theorems_demands.specs.Stalled.{slack, tripped_by7}

-- flags without 7 add none
pub no_7 : (s : List ℕ) (flags more : ℕ) → bit 7 more ≡ false → bit 7 (alive s (flags or more)) ≡ bit 7 (alive s flags)
no_7 s flags more none =
    ap (bit 7) (live_each always_live (FaultEnable s) flags more)
    ∙ bit_or_lem 7 (alive s flags) (alive s more)
    ∙ rw (bit_and_lem 7 more (always_live or FaultEnable s), none) (or-false (bit 7 (alive s flags)))

pub mask_7 : (s : List ℕ) → bit 7 (always_live or FaultEnable s) ≡ bit 7 (FaultEnable s)
mask_7 s = bit_or_lem 7 always_live (FaultEnable s)

pub own : (set : Bool) → bit 7 (flag 7 set) ≡ set
own true = refl
own false = refl

-- ---- the causes of a tick: 7, and the others

module _ (d : Drive) (t : Tick) where
  abbrev s : List ℕ
  s = d.settings

  abbrev all : List (ℕ × Bool)
  all = cause_flags s (is 4 d.state) d.hall.dead_streak t (watch d t)

  abbrev pub others : ℕ
  others = together (take 6 all ++ drop 7 all)

  abbrev pub lock : Bool
  lock = is 4 d.state && (watch d t).locked

  pub parted : standing d t ≡ (others or flag 7 lock)
  unfolding causes
  parted = taken_out (take 6 all) (7, lock) (drop 7 all)

  -- no other cause is bit 7
  pub not_among : bit 7 others ≡ false
  not_among =
      is_false (bit 7 others)
      (not_T (bit 7 others)
      (together_within
      (together ((0, true) ∷ (1, true) ∷ (2, true) ∷ (3, true) ∷ (4, true) ∷ (6, true) ∷ (14, true) ∷ (15, true) ∷ []))
      (take 6 all ++ drop 7 all)
      tt
      7))

  -- the live word of what the tick raises
  pub live_parted : alive s (raised d t) ≡ (alive s (d.flags or others) or flag 7 (lock && bit 7 (FaultEnable s)))
  live_parted =
      ap (λ (word : ℕ). alive s (d.flags or word)) parted
      ∙ ap (alive s) (or_assoc d.flags others (flag 7 lock))
      ∙ live_each always_live (FaultEnable s) (d.flags or others) (flag 7 lock)
      ∙ ap (λ (word : ℕ). alive s (d.flags or others) or word)
      (live_flag always_live (FaultEnable s) 7 lock ∙ ap (λ (on : Bool). flag 7 (lock && on)) (mask_7 s))

  -- it shows 7 where that was shown before, or stands now
  pub raises_7 : bit 7 (alive s (raised d t)) ≡ (bit 7 (alive s d.flags) || lock && bit 7 (FaultEnable s))
  raises_7 =
      ap (bit 7) live_parted
      ∙ bit_or_lem 7 (alive s (d.flags or others)) (flag 7 (lock && bit 7 (FaultEnable s)))
      ∙ rw (no_7 s d.flags others not_among, own (lock && bit 7 (FaultEnable s)))

-- without torque nothing is counted for bit 7
pub unlocked : (d : Drive) (t : Tick) → Loaded d.settings → lock d (slack t) ≡ false
unfolding watched
unlocked d t loaded =
    let held : Bool = locked d.settings (slack t) in
    let not-held : held ≡ false =
    is_false held
    (fails_left (leb (MotorLim d.settings) 0) (leb (nat_abs t.speed) 4095)
    (not_T (leb (MotorLim d.settings) 0)
    (λ none. omega (arith, leb_yes {a = MotorLim d.settings} {b = 0} none, at_least loaded 12 (omega arith)))))
    in
    rw not-held (is_false (is 4 d.state && false) (fails_right (is 4 d.state) false tt))

-- ---- a tick that is taken in MOTORRUN

module _ (d : Drive) (running : T (is 4 d.state)) where
  abbrev settings : List ℕ
  settings = d.settings

  abbrev pub next : Tick → Move → Drive
  next t move = moved d t (watch d t) (raised d t) (armed_by d t) (nth d) move

  -- it trips, or stops, or stays
  abbrev pub choice : (trips stops : Bool) → Move
  choice trips stops = cond trips (Enter Fault) (cond stops (Enter Stop) Stay)

  abbrev pub trips : Tick → Bool
  trips t = alight d (raised d t)

  chosen_is : (t : Tick) → chosen d t ≡ choice (trips t) (low settings t)
  unfolding move_of
  chosen_is t = rw (named 4 d.state running)

  pub ticked_is : (t : Tick) → ticked d t ≡ next t (choice (trips t) (low settings t))
  unfolding ticked
  ticked_is t = ap (next t) (chosen_is t)

  -- whichever it does, these flags are in the state that it leaves
  flags_left : (t : Tick) (a b : Bool) → (next t (choice a b)).flags ≡ raised d t
  flags_left t true b = refl
  flags_left t false true = refl
  flags_left t false false = refl

  live_left : (t : Tick) (a b : Bool) → (answer 0 0 (next t (choice a b))).live ≡ alive settings (raised d t)
  unfolding answer_telling
  live_left t true b = refl
  live_left t false true = refl
  live_left t false false = refl

  state_left : (t : Tick) (a b : Bool) → (answer 0 0 (next t (choice a b))).state ≡ cond a 5 (cond b 1 4)
  unfolding answer_telling
  state_left t true b = refl
  state_left t false true = refl
  state_left t false false = eqb_yes running

  pub flags_after : (t : Tick) → (ticked d t).flags ≡ raised d t
  flags_after t = rw (ticked_is t) (flags_left t (trips t) (low settings t))

  pub live_after : (t : Tick) → (answer 0 0 (ticked d t)).live ≡ alive settings (raised d t)
  live_after t = rw (ticked_is t) (live_left t (trips t) (low settings t))

  pub state_after_lem : (t : Tick) → (answer 0 0 (ticked d t)).state ≡ cond (trips t) 5 (cond (low settings t) 1 4)
  state_after_lem t = rw (ticked_is t) (state_left t (trips t) (low settings t))

  -- where it is still there afterwards: no flag is live, no low was held, and it stayed
  module _ (t : Tick) (there : (answer 0 0 (ticked d t)).state ≡ 4) where
    pub calm : (trips t ≡ false) × (low settings t ≡ false)
    calm = two_tests (trips t) (low settings t) (sym (state_after_lem t) ∙ there)
      where
        two_tests : (a b : Bool) → ◌≡◌ {A = ℕ} (cond a 5 (cond b 1 4)) 4 → (a ≡ false) × (b ≡ false)
        two_tests true b e = absurd (omega (arith, e))
        two_tests false true e = absurd (omega (arith, e))
        two_tests false false e = (refl, refl)

    pub dark : alive settings (raised d t) ≡ 0
    dark = eqb_yes (T_not-not (eqb (alive settings (raised d t)) 0) (rw calm.0 tt))

    pub stayed : ticked d t ≡ next t Stay
    stayed =
        ticked_is t
        ∙ ap (next t) (ap (λ (a : Bool). choice a (low settings t)) calm.0 ∙ ap (choice false) calm.1)

    -- cause 7 does not stand, or is masked
    pub unset : (lock d t && bit 7 (FaultEnable settings)) ≡ false
    unset =
        neither_so (bit 7 (alive settings d.flags)) (lock d t && bit 7 (FaultEnable settings)) (rw dark at (raises_7 d t))
      where
        neither_so : (x y : Bool) → false ≡ (x || y) → y ≡ false
        neither_so true y e = absurd (false≢true e)
        neither_so false y e = sym e

  -- ---- flag 7 in the live word of a reached state

  module _ (t : Tick) (r : Reached d) where
    -- it was not live before
    was_dark : bit 7 (alive settings d.flags) ≡ false
    was_dark =
        is_false (bit 7 (alive settings d.flags))
        (not_T (bit 7 (alive settings d.flags))
        (λ lit.
        let none = live_outside_fault d r (rw (named 4 d.state running) tt) (rw (named 4 d.state running) tt) in
        omega (arith, none, eqb_yes {a = alive settings d.flags / 2 ^ 7 % 2} {b = 1} lit)))

    pub shows_7 : bit 7 (alive settings (raised d t)) ≡ (lock d t && bit 7 (FaultEnable settings))
    shows_7 = rw was_dark at (raises_7 d t)

  -- ---- the same tick without torque

  module _ (t : Tick) (loaded : Loaded settings) where
    pub no_lock : lock d (slack t) ≡ false
    no_lock = unlocked d t loaded

    others_alike : others d (slack t) ≡ others d t
    unfolding watched
    others_alike = refl

    -- it has the other causes, and not 7
    pub live_slack : alive settings (raised d (slack t)) ≡ alive settings (d.flags or others d t)
    live_slack =
        live_parted d (slack t)
        ∙ ap
        (λ (on : Bool). alive settings (d.flags or others d (slack t)) or flag 7 (on && bit 7 (FaultEnable settings)))
        no_lock
        ∙ or_zero_r (alive settings (d.flags or others d (slack t)))
        ∙ ap (λ (word : ℕ). alive settings (d.flags or word)) others_alike

    -- no low and no other cause
    module _ (runs_on : (answer 0 0 (ticked d (slack t))).state ≡ 4) where
      live_now : alive settings (raised d t) ≡ flag 7 (lock d t && bit 7 (FaultEnable settings))
      live_now =
          live_parted d t
          ∙ rw (sym live_slack ∙ dark (slack t) runs_on) (or_zero_l (flag 7 (lock d t && bit 7 (FaultEnable settings))))

      -- a trip by flag 7, and none
      trip_answer :
          alive settings (raised d t) ≡ 2 ^ 7
          → answer 0 0 (next t (Enter Fault)) ≡ tripped_by7 (answer 0 0 (next (slack t) Stay))
      unfolding answer_telling
      trip_answer live = rw live

      run_answer : alive settings (raised d t) ≡ 0 → answer 0 0 (next t Stay) ≡ answer 0 0 (next (slack t) Stay)
      unfolding answer_telling watched target_of
      run_answer live = rw (live, dark (slack t) runs_on, is_true (is 4 d.state) running)

      by_flag :
          (set : Bool)
          → alive settings (raised d t) ≡ flag 7 set
          → answer 0 0 (next t (choice (any (flag 7 set)) false))
          ≡ cond set (tripped_by7 (answer 0 0 (next (slack t) Stay))) (answer 0 0 (next (slack t) Stay))
      by_flag true live = trip_answer live
      by_flag false live = run_answer live

      pub only_7 :
          answer 0 0 (ticked d t)
          ≡ cond (lock d t && bit 7 (FaultEnable settings)) (tripped_by7 (answer 0 0 (ticked d (slack t))))
          (answer 0 0 (ticked d (slack t)))
      only_7 =
          let set : Bool = lock d t && bit 7 (FaultEnable settings) in
          let now : choice (trips t) (low settings t) ≡ choice (any (flag 7 set)) false =
          ap (λ (word : ℕ). choice (any word) (low settings t)) live_now ∙ ap (choice (any (flag 7 set))) (calm (slack t) runs_on).1
          in
          rw (ticked_is t ∙ ap (next t) now, stayed (slack t) runs_on) (by_flag set live_now)
