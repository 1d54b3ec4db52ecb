-- What a call that settles by its verdict replies and leaves: and so no cycle and no tick changes a setting or the sensors.
use Rattle.std.proofs.Common.{◌≡◌, ℕ, Bool, false, eqb, refl, Option, None}
use lib.Ieee.Bits.{is_false}
use mir.Facts.{eqb_yes}
use Rattle.numbers.proofs.Tests.{by_test}
use Rattle.verdicts.specs.Table.{verdict}
use Rattle.verdicts.specs.Table.{Verdict}
use Rattle.fields.specs.declared.Cycle.{Cycle}
use Rattle.fields.specs.declared.Tick.{Tick}
use Rattle.motor.specs.declared.Watched.{Watched}
use Rattle.moves.specs.declared.Move.{Move}
use Rattle.moves.specs.declared.Move.TheVariants.{Stay, Enter, Measure, Clear, Retry}
use Rattle.drive.specs.Answer.{answer_telling, reply, reply_telling}
use Rattle.drive.specs.Refusals.{cycle_rows, tick_rows}
use Rattle.drive.specs.Calls.{settle, settle_telling, judged_by, cycled, cycle}
use Rattle.drive.specs.Ticks.{armed_by, nth, watch, raised, chosen, moved, ticked, tick}
use Rattle.drive.specs.declared.Drive.{Drive}
use Rattle.hall.specs.declared.fate.Fate.{Fate}
use Rattle.drive.specs.declared.answer.Reply.{Reply}

-- a call that settles by its verdict, with whatever it judged: what holds of its reply if it is accepted, and if it is refused, holds of it
pub settles_telling :
    (P : Reply → Type 0) (judged : Option Fate) (v : Verdict) (next left : Drive)
    → (v.number ≡ 0 → P (reply_telling judged 0 0 next))
    → (eqb v.number 0 ≡ false → P (reply v.number v.place left))
    → P (settle_telling judged v next left)
settles_telling P judged v next left accepted refused =
    by_test P (eqb v.number 0) (λ t. accepted (eqb_yes t)) (λ t. refused (is_false (eqb v.number 0) t))

-- and of a call that judges no sample
pub settles :
    (P : Reply → Type 0) (v : Verdict) (next left : Drive)
    → (v.number ≡ 0 → P (reply 0 0 next))
    → (eqb v.number 0 ≡ false → P (reply v.number v.place left))
    → P (settle v next left)
settles P v next left accepted refused = settles_telling P None v next left accepted refused

-- so of the state that it leaves
pub settled :
    (P : Drive → Type 0) (judged : Option Fate) (v : Verdict) (next left : Drive)
    → (v.number ≡ 0 → P next)
    → P left
    → P (settle_telling judged v next left).drive
settled P judged v next left accepted refused =
    settles_telling (λ (r : Reply). P r.drive) judged v next left accepted (λ number. refused)

-- a reply with another number than 0 shows the state that the refusal leaves
pub refusal :
    (judged : Option Fate) (v : Verdict) (next left : Drive)
    → ((settle_telling judged v next left).answer.number ≡ 0 → ⊥)
    → settle_telling judged v next left ≡ reply v.number v.place left
unfolding answer_telling
refusal judged v next left =
    settles_telling (λ (r : Reply). (r.answer.number ≡ 0 → ⊥) → r ≡ reply v.number v.place left) judged v next left
    (λ none given. absurd (given refl))
    (λ refused given. refl)

-- "The drive state keeps its 24 settings as loaded", and beside them the sensors: no cycle and no tick changes them
abbrev pub AsLoaded : Drive → Drive → Type 0
AsLoaded after before = (after.settings ≡ before.settings) × (after.sensors ≡ before.sensors)

moved_as_loaded :
    (d : Drive) (t : Tick) (w : Watched) (flags : ℕ) (armed : Bool) (nth : ℕ) (move : Move)
    → AsLoaded (moved d t w flags armed nth move) d
moved_as_loaded d t w flags armed nth Stay = (refl, refl)
moved_as_loaded d t w flags armed nth (Enter state) = (refl, refl)
moved_as_loaded d t w flags armed nth Measure = (refl, refl)
moved_as_loaded d t w flags armed nth Clear = (refl, refl)
moved_as_loaded d t w flags armed nth Retry = (refl, refl)

pub cycle_keeps_settings : (d : Drive) (c : Cycle) → AsLoaded (cycle d c).drive d
unfolding cycle cycled
cycle_keeps_settings d c =
    settled (λ (after : Drive). AsLoaded after d) (judged_by d c) (verdict (cycle_rows d c)) (cycled d c) d
    (λ none. (refl, refl))
    (refl, refl)

pub tick_keeps_settings : (d : Drive) (t : Tick) → AsLoaded (tick d t).drive d
unfolding tick ticked
tick_keeps_settings d t =
    settled (λ (after : Drive). AsLoaded after d) None (verdict (tick_rows d t)) (ticked d t) d
    (λ none. moved_as_loaded d t (watch d t) (raised d t) (armed_by d t) (nth d) (chosen d t))
    (refl, refl)
