-- "A reverse spin judged by signed speed", an error that a bench has met: a tick answers the same whichever way the shaft turns, but for
-- the speed reference, which takes the measured speed with its sign when MOTORRUN is entered.
use Rattle.std.proofs.Common.{◌≡◌, ℕ, Bool, true, false, cond, eqb, pos, neg_ℤ, refl, ap, ◌∙◌}
use Rattle.faults.specs.Word.{◌or◌}
use Rattle.states.specs.States.{is}
use Rattle.fields.specs.declared.Tick.{Tick}
use Rattle.motor.specs.Counts.{watched}
use Rattle.motor.specs.declared.Watched.{Watched}
use Rattle.moves.specs.Moves.{move_of}
use Rattle.moves.specs.declared.Move.{Move}
use Rattle.moves.specs.declared.Move.TheVariants.{Stay, Enter, Measure, Clear, Retry}
use Rattle.moves.proofs.Spin.{same_size, spun, move_same}
use Rattle.verdicts.specs.Table.{verdict}
use Rattle.verdicts.specs.Table.{Verdict}
use Rattle.drive.specs.Causes.{causes}
use Rattle.drive.specs.Answer.{answer, answer_telling, reply}
use Rattle.drive.specs.Refusals.{tick_rows}
use Rattle.drive.specs.Calls.{settle}
use Rattle.drive.specs.Ticks.{watch, standing, raised, armed_by, nth, grounds, chosen, moved, ticked, tick}
use Rattle.drive.specs.declared.Drive.{Drive}
use Rattle.drive.specs.declared.answer.Answer.{Answer}

-- the same tick with the shaft turning the other way
abbrev pub reversed : Tick → Tick
reversed t =
    record {
      gate_kill = t.gate_kill;
      clear = t.clear;
      command = t.command;
      control = t.control;
      vdc_raw = t.vdc_raw;
      vdc_filt = t.vdc_filt;
      temperature = t.temperature;
      flx_m = t.flx_m;
      trq_ref = t.trq_ref;
      speed = neg_ℤ t.speed;
      target = t.target;
    }

-- all of an answer but its speed reference
abbrev pub but_reference : Answer → Answer
but_reference a =
    record {
      number = a.number;
      place = a.place;
      state = a.state;
      gate = a.gate;
      live = a.live;
      reference = pos 0;
      position = a.position;
      angle = a.angle;
      offsets = a.offsets;
      retries = a.retries;
      judged = a.judged;
    }

module _ (d : Drive) (t : Tick) where
  rows_same : verdict (tick_rows d (reversed t)) ≡ verdict (tick_rows d t)
  rows_same = rw (same_size t.speed)

  watch_same : watch d (reversed t) ≡ watch d t
  unfolding watched
  watch_same = rw (same_size t.speed)

  standing_same : standing d (reversed t) ≡ standing d t
  unfolding causes
  standing_same = ap (λ (w : Watched). causes d.settings (is 4 d.state) d.hall.dead_streak t w) watch_same

  chosen_same : chosen d (reversed t) ≡ chosen d t
  chosen_same =
      ap (λ (f : ℕ). move_of (spun (grounds d t f (d.flags or f)))) standing_same
      ∙ move_same (grounds d t (standing d t) (raised d t))

  -- what a move shows but for the reference
  abbrev shown : Tick → Watched → ℕ → Move → Answer
  shown tick w flags move = but_reference (answer 0 0 (moved d tick w flags (armed_by d t) (nth d) move))

  -- the same move, with the same counts and flags, shows the same
  moved_same :
      (w : Watched) (flags : ℕ) (move : Move)
      → shown (reversed t) w flags move ≡ shown t w flags move
  unfolding answer_telling
  moved_same w flags Stay = refl
  moved_same w flags (Enter state) = refl
  moved_same w flags Measure = refl
  moved_same w flags Clear = refl
  moved_same w flags Retry = refl

  ticked_same : but_reference (answer 0 0 (ticked d (reversed t))) ≡ but_reference (answer 0 0 (ticked d t))
  unfolding ticked
  ticked_same =
      ap (λ (w : Watched). shown (reversed t) w (raised d (reversed t)) (chosen d (reversed t))) watch_same
      ∙ ap (λ (f : ℕ). shown (reversed t) (watch d t) (d.flags or f) (chosen d (reversed t))) standing_same
      ∙ ap (shown (reversed t) (watch d t) (raised d t)) chosen_same
      ∙ moved_same (watch d t) (raised d t) (chosen d t)

  settled_same :
      (accepted : Bool) (v : Verdict) (next other : Drive)
      → but_reference (answer 0 0 next) ≡ but_reference (answer 0 0 other)
      → but_reference (cond accepted (reply 0 0 next) (reply v.number v.place d)).answer
      ≡ but_reference (cond accepted (reply 0 0 other) (reply v.number v.place d)).answer
  settled_same true v next other e = e
  settled_same false v next other e = refl

  pub spin_either_way : but_reference (tick d (reversed t)).answer ≡ but_reference (tick d t).answer
  unfolding tick
  spin_either_way =
      ap (λ (v : Verdict). but_reference (settle v (ticked d (reversed t)) d).answer) rows_same
      ∙ settled_same (eqb (verdict (tick_rows d t)).number 0) (verdict (tick_rows d t)) (ticked d (reversed t)) (ticked d t) ticked_same
