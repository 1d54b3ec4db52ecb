-- One reply of each public function of this crate: any two that its own promise permits are equal.
use Rattle.std.proofs.Common.{refl}
use mathlib.Core.Path.{◌∙⁻¹◌}
use Rattle.numbers.proofs.Reply.{OneReply, same}
use Rattle.hall.proofs as promises
use Rattle.hall.specs.contracts

pub judged : OneReply contracts.fate.judged.ended promises.fate.judged.Reads.Post
judged κs given r s p q = same (p ∙⁻¹ q) refl

pub sampled : OneReply contracts.Hall.sampled.ended promises.Hall.sampled.Reads.Post
sampled κs given r s p q = same (p ∙⁻¹ q) refl
