-- What the drive holds inside, and what its answers show of it: the live word shows a live flag; where the gates charge or drive it turns,
-- and where it turns they do, in a starting or running state.
use mathlib.Core.Path.{◌≡◌, refl, subst}
use mathlib.Core.Bool.{not, ◌&&◌}
use Prim.Native.Nat.{ℕ}
use lib.Dec.{T}
use mir.Facts.{and_yes, yes_and}
use Rattle.theorems_history.specs.Log.{Entry}
use Rattle.theorems_history.specs.Laws.{Inside}
use Rattle.states.specs.States.{is, turning}
use Rattle.faults.specs.Word.{any}
use Rattle.drive.specs.Answer.{live_word, answer, answer_telling}
use Rattle.drive.specs.AnyCall.{Call, reply}
use Rattle.drive.specs.declared.Drive.{Drive}
use Rattle.drive.specs.declared.answer.Answer.{Answer}
use Rattle.drive.specs.declared.answer.Reply.{Reply}
use Rattle.drive.proofs.EachCall.{each_call}
use Rattle.onlooker.specs.Words.{words}
use Rattle.drive.proofs.Gates.{gates_by}

-- a call with its answer
abbrev pub made : Call → Answer → Entry Call Answer
made call answer = record { call = call; answer = answer }

-- each answer shows the live word of the state that its call leaves
pub answer_shows : (d : Drive) (call : Call) → (reply d call).answer.live ≡ live_word (reply d call).drive
unfolding answer_telling
answer_shows d =
    each_call d (λ (call : Call) (a : Reply). a.answer.live ≡ live_word a.drive)
    (record {
      loads_it = λ numbers none. refl;
      loads_a_block = λ image block none. refl;
      cycles_on = λ c none. refl;
      ticks_on = λ t none. refl;
      refuses = λ call number at dark given. refl;
      refuses_marked = λ image block number at lit given. refl;
    })

abbrev pub inside : Drive → Inside
inside d =
    record {
      loaded = not (is 0 d.state);
      armed = d.armed;
      faulted = any (live_word d);
      turning = turning d.state && not (any (live_word d));
      used = d.retries;
    }

module _ (number at : ℕ) (d : Drive) where
  pub fault_shown : words.live_shown (answer number at d) ≡ (inside d).faulted
  unfolding answer_telling
  fault_shown = refl

  pub gates_ask : T (words.turns (answer number at d)) → T (inside d).turning
  unfolding answer_telling
  gates_ask t =
      let (dark, turns) = and_yes (not (any (live_word d))) (turning d.state) (subst T (gates_by d.state (live_word d)) t) in
      yes_and (turning d.state) (not (any (live_word d))) turns dark

  module _ (turns : T (inside d).turning) where
    runs : T (turning d.state)
    runs = (and_yes (turning d.state) (not (any (live_word d))) turns).0

    pub dark : T (not (inside d).faulted)
    dark = (and_yes (turning d.state) (not (any (live_word d))) turns).1

    pub shows_running : T (words.is_running (words.state (answer number at d)))
    unfolding answer_telling
    shows_running = runs

    pub shows_turning : T (words.turns (answer number at d))
    unfolding answer_telling
    shows_turning = rw (gates_by d.state (live_word d)) (yes_and (not (any (live_word d))) (turning d.state) dark runs)
