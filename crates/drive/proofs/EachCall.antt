-- Every call, case by case: whoever shows something of every reply shows it of what is accepted, of a refusal that changes nothing, and of
-- the one that sets flag 12.
use Rattle.std.proofs.Common.{◌≡◌, ℕ, Bool, false, not, ◌&&◌, T, eqb, List}
use Rattle.numbers.proofs.Tests.{by_test}
use Rattle.states.specs.States.{is}
use Rattle.settings.specs.Settings.{meant}
use Rattle.fields.specs.declared.Cycle.{Cycle}
use Rattle.fields.specs.declared.Tick.{Tick}
use Rattle.verdicts.specs.Table.{verdict}
use Rattle.verdicts.specs.Table.{Verdict}
use Rattle.images.specs.Image.{fifteen}
use Rattle.images.specs.Reads.{is_read}
use Rattle.drive.specs.Answer.{reply_telling, reply as replied}
use Rattle.drive.specs.Refusals.{load_rows, cycle_rows, tick_rows}
use Rattle.drive.specs.Calls.{loaded, judged_by, cycled, load, cycle}
use Rattle.drive.specs.Blocks.{block_numbers, block_rows, marked, left_by_block, block_load}
use Rattle.drive.specs.Ticks.{ticked, tick}
use Rattle.drive.specs.AnyCall.{Call, loads, cycles, ticks, block_loads, reply}
use Rattle.drive.specs.declared.Drive.{Drive}
use Rattle.drive.specs.declared.answer.Reply.{Reply}
use Rattle.drive.proofs.Settles.{settles_telling, settles}

module _ (d : Drive) where
  -- refused, it sets flag 12
  abbrev pub marks : Call → Bool
  marks (loads numbers) = false
  marks (cycles fields) = false
  marks (ticks fields) = false
  marks (block_loads image block) = is_read fifteen image block && is 0 d.state

  module _ (P : Call → Reply → Type 0) where
    pub record Cases : Type 0 where
      pub loads_it :
          (numbers : List ℕ)
          → (verdict (load_rows d numbers)).number ≡ 0
          → P (loads numbers) (replied 0 0 (loaded (meant numbers)))
      pub loads_a_block :
          (image : List ℕ) (block : ℕ)
          → (verdict (block_rows d image block)).number ≡ 0
          → P (block_loads image block) (replied 0 0 (loaded (meant (block_numbers image block))))
      pub cycles_on :
          (c : Cycle)
          → (verdict (cycle_rows d c)).number ≡ 0
          → P (cycles c) (reply_telling (judged_by d c) 0 0 (cycled d c))
      pub ticks_on : (t : Tick) → (verdict (tick_rows d t)).number ≡ 0 → P (ticks t) (replied 0 0 (ticked d t))
      pub refuses : (call : Call) (number at : ℕ) → T (not (marks call)) → eqb number 0 ≡ false → P call (replied number at d)
      pub refuses_marked :
          (image : List ℕ) (block number at : ℕ)
          → T (marks (block_loads image block))
          → eqb number 0 ≡ false
          → P (block_loads image block) (replied number at (marked d))

    pub each_call : Cases → (call : Call) → P call (reply d call)
    unfolding load cycle tick block_load
    each_call cases (loads numbers) =
        settles (P (loads numbers)) (verdict (load_rows d numbers)) _ d (cases.loads_it numbers)
        (cases.refuses (loads numbers) _ _ tt)
    each_call cases (cycles c) =
        settles_telling (P (cycles c)) (judged_by d c) (verdict (cycle_rows d c)) (cycled d c) d (cases.cycles_on c)
        (cases.refuses (cycles c) _ _ tt)
    each_call cases (ticks t) =
        settles (P (ticks t)) (verdict (tick_rows d t)) (ticked d t) d (cases.ticks_on t) (cases.refuses (ticks t) _ _ tt)
    each_call cases (block_loads image block) =
        let v : Verdict = verdict (block_rows d image block) in
        settles (P (block_loads image block)) v _ (left_by_block d image block) (cases.loads_a_block image block)
        (λ given.
        by_test (λ (left : Drive). P (block_loads image block) (replied v.number v.place left)) (marks (block_loads image block))
        (λ lit. cases.refuses_marked image block _ _ lit given)
        (λ dark. cases.refuses (block_loads image block) _ _ dark given))
