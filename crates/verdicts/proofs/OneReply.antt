-- One reply of each public function of this crate: any two that its own promise permits are equal.
use mathlib.Core.Path.{refl, ◌∙⁻¹◌}
use Rattle.numbers.proofs.Reply.{OneReply, same}
use Rattle.verdicts.proofs as promises
use Rattle.verdicts.specs.contracts

pub number : OneReply contracts.Refusal.number.ended promises.Refusal.number.Reads.Post
number κs given r s p q = same (p ∙⁻¹ q) refl

pub place : OneReply contracts.Refusal.place.ended promises.Refusal.place.Reads.Post
place κs given r s p q = same (p ∙⁻¹ q) refl

pub refuse : OneReply contracts.refuse.ended promises.refuse.Reads.Post
refuse κs given r s p q = same (p ∙⁻¹ q) refl
