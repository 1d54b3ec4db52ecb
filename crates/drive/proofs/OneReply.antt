-- One reply of each public function of this crate: any two that its own promise permits are equal.
use Rattle.std.proofs.Common.{refl}
use mathlib.Core.Path.{◌∙⁻¹◌}
use Rattle.numbers.proofs.Reply.{OneReply, same}
use Rattle.drive.proofs as promises
use Rattle.drive.specs.contracts

pub power_up : OneReply contracts.Drive.power_up.ended promises.Drive.power_up.Reads.Post
power_up κs given r s p q = same (p ∙⁻¹ q) refl

pub load : OneReply contracts.Drive.load.ended promises.Drive.load.Reads.Post
load κs given r s p q = same (p ∙⁻¹ q) refl

pub cycle : OneReply contracts.Drive.cycle.ended promises.Drive.cycle.Reads.Post
cycle κs given r s p q = same (p ∙⁻¹ q) refl

pub tick : OneReply contracts.Drive.tick.ended promises.Drive.tick.Reads.Post
tick κs given r s p q = same (p ∙⁻¹ q) refl

pub answered : OneReply contracts.answer.answered.ended promises.answer.answered.Reads.Post
answered κs given r s p q = same (p ∙⁻¹ q) refl

pub load_block : OneReply contracts.Drive.load_block.ended promises.Drive.load_block.Reads.Post
load_block κs given r s p q = same (p ∙⁻¹ q) refl

pub call : OneReply contracts.Drive.call.ended promises.Drive.call.Reads.Post
call κs given r s p q = same (p ∙⁻¹ q) refl

pub letter : OneReply contracts.answer.Answer.letter.ended promises.answer.Answer.letter.Reads.Post
letter κs given r s p q = same (p ∙⁻¹ q) refl
