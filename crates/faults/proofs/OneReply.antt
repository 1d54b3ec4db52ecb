-- One reply of each public function of this crate: any two that its own promise permits are equal.
use mathlib.Core.Path.{refl, ◌∙⁻¹◌}
use Rattle.numbers.proofs.Reply.{OneReply, same}
use Rattle.faults.proofs as promises
use Rattle.faults.specs.contracts

pub flag : OneReply contracts.flag.ended promises.flag.Reads.Post
flag κs given r s p q = same (p ∙⁻¹ q) refl

pub live : OneReply contracts.live.ended promises.live.Reads.Post
live κs given r s p q = same (p ∙⁻¹ q) refl

pub arms : OneReply contracts.arms.ended promises.arms.Reads.Post
arms κs given r s p q = same (p ∙⁻¹ q) refl

pub from_fault : OneReply contracts.from_fault.ended promises.from_fault.Reads.Post
from_fault κs given r s p q = same (p ∙⁻¹ q) refl

pub retried : OneReply contracts.retried.ended promises.retried.Reads.Post
retried κs given r s p q = same (p ∙⁻¹ q) refl
