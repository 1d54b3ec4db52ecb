-- One reply of each public function of this crate: any two that its own promise permits are equal.
use mathlib.Core.Path.{refl, ◌∙⁻¹◌}
use Rattle.numbers.proofs.Reply.{OneReply, same}
use Rattle.verdicts.proofs.OneToOne.{one_to_one}
use Rattle.fields.proofs as promises
use Rattle.fields.specs.contracts

pub cycle_verdict : OneReply contracts.Cycle.verdict.ended promises.Cycle.verdict.Reads.Post
cycle_verdict κs given r s p q = same (one_to_one r.result s.result (p ∙⁻¹ q)) refl

pub tick_verdict : OneReply contracts.Tick.verdict.ended promises.Tick.verdict.Reads.Post
tick_verdict κs given r s p q = same (one_to_one r.result s.result (p ∙⁻¹ q)) refl
