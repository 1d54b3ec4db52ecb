-- One reply of each public function of this crate: any two that its own promise permits are equal.
use mathlib.Core.Path.{refl, ◌∙⁻¹◌}
use Rattle.numbers.proofs.Reply.{OneReply, same}
use Rattle.verdicts.proofs.OneToOne.{one_to_one}
use Rattle.settings.proofs as promises
use Rattle.settings.specs.contracts

pub verdict : OneReply contracts.verdict.ended promises.verdict.Reads.Post
verdict κs given r s p q = same (one_to_one r.result s.result (p ∙⁻¹ q)) refl

pub samples : OneReply contracts.samples.ended promises.samples.Reads.Post
samples κs given r s p q = same (p ∙⁻¹ q) refl
