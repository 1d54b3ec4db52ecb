-- One reply of the public function of this crate: any two that its own promise permits are equal.
use mathlib.Core.Path.{refl, ◌∙⁻¹◌}
use Rattle.numbers.proofs.Reply.{OneReply, same}
use Rattle.moves.proofs as promises
use Rattle.moves.specs.contracts

pub move_of : OneReply contracts.Grounds.move_of.ended promises.Grounds.move_of.Reads.Post
move_of κs given r s p q = same (p ∙⁻¹ q) refl
