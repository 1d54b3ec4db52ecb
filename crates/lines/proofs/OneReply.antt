-- One reply of the public function of this crate: any two that its own promise permits are equal.
use mathlib.Core.Path.{refl, ◌∙⁻¹◌}
use Rattle.numbers.proofs.Reply.{OneReply, same}
use Rattle.lines.proofs as promises
use Rattle.lines.specs.contracts

pub read : OneReply contracts.read.ended promises.read.Reads.Post
read κs given r s p q = same (p ∙⁻¹ q) refl
