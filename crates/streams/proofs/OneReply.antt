-- One reply of each public function of this crate, at any types: any two that its own promise permits are equal, lent bytes included.
use mathlib.Core.Path.{refl, ap, ◌∙⁻¹◌}
use mathlib.Core.List.{List}
use Prim.Native.Nat.{ℕ}
use denote.RattleType.{RattleType}
use denote.Param.Laws.{Laws, IsCopy}
use mir.Syntax.{Dict}
use Rattle.std.specs.declared.clone.Clone as clone
use Rattle.streams.specs.declared.Records as trait-of
use Rattle.streams.specs.declared.Runnable as run-of
use Rattle.numbers.proofs.Reply.{OneReply, same}
use Rattle.streams.proofs as promises
use Rattle.streams.specs.contracts

pub resting : (S : RattleType) (laws : Laws S) → OneReply (contracts.Ran.resting.ended S) (promises.Ran.resting.Reads.Post S laws)
resting S laws κs given r s p q = same (p ∙⁻¹ q) refl

module _
    (P S : RattleType) (laws : Laws P) (state-laws : Laws S) (copies : IsCopy S)
    (records : trait-of.Ghosts P.Denot S.Denot) (records-dict : Dict)
    (cloned : clone.Ghosts S.Denot) (clone-dict : Dict)
  where
    pub run : OneReply (contracts.run.ended P S records records-dict cloned clone-dict)
        (promises.run.Reads.Post P S laws state-laws copies records records-dict cloned clone-dict)
    run κs given r s p q = same (p.0 ∙⁻¹ q.0) (ap (λ (bytes : List ℕ). (tt, (tt, (tt, (bytes, tt))))) (p.1.0 ∙⁻¹ q.1.0))

    -- of whatever program
    pub step : OneReply (contracts.Records.step.ended P S records records-dict cloned clone-dict)
        (promises.Records.step.Reads.Post P S laws state-laws copies records records-dict cloned clone-dict)
    step κs given r s p q = same (p.0 ∙⁻¹ q.0) (ap (λ (bytes : List ℕ). (tt, (tt, (tt, (bytes, tt))))) (p.1.0 ∙⁻¹ q.1.0))

    -- what a crate of records gives as its run
    pub run_of : (runnable : run-of.Ghosts P.Denot S.Denot) (runnable-dict : Dict)
        → OneReply (contracts.Runnable.run.ended P S runnable runnable-dict records records-dict cloned clone-dict)
        (promises.Runnable.run.Reads.Post P S laws state-laws copies runnable runnable-dict records records-dict cloned clone-dict)
    run_of runnable runnable-dict κs given r s p q =
        same (p.0 ∙⁻¹ q.0) (ap (λ (bytes : List ℕ). (tt, (tt, (tt, (bytes, tt))))) (p.1.0 ∙⁻¹ q.1.0))
