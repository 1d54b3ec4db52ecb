-- One reply of each public function of this crate: any two that its own promise permits are equal.
use mathlib.Core.Path.{refl, ◌∙⁻¹◌}
use Rattle.numbers.proofs.Reply.{OneReply, same}
use Rattle.states.proofs as promises
use Rattle.states.specs.contracts

pub number : OneReply contracts.State.number.ended promises.State.number.Reads.Post
number κs given r s p q = same (p ∙⁻¹ q) refl

pub is_turning : OneReply contracts.State.is_turning.ended promises.State.is_turning.Reads.Post
is_turning κs given r s p q = same (p ∙⁻¹ q) refl
