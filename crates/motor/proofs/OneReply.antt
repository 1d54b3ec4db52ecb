-- One reply of each public function of this crate: any two that its own promise permits are equal.
use mathlib.Core.Path.{refl, ◌∙⁻¹◌}
use Rattle.numbers.proofs.Reply.{OneReply, same}
use Rattle.motor.proofs as promises
use Rattle.motor.specs.contracts

pub watched : OneReply contracts.Run.watched.ended promises.Run.watched.Reads.Post
watched κs given r s p q = same (p ∙⁻¹ q) refl

pub after : OneReply contracts.Run.after.ended promises.Run.after.Reads.Post
after κs given r s p q = same (p ∙⁻¹ q) refl
