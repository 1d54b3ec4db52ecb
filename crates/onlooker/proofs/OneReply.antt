-- One reply of each public function of this crate: any two that its own promise permits are equal.
use mathlib.Core.Path.{refl, ◌∙⁻¹◌}
use Rattle.numbers.proofs.Reply.{OneReply, same}
use Rattle.onlooker.proofs as promises
use Rattle.onlooker.specs.contracts

pub new : OneReply contracts.Onlooker.new.ended promises.Onlooker.new.Reads.Post
new κs given r s p q = same (p ∙⁻¹ q) refl

pub hear : OneReply contracts.Onlooker.hear.ended promises.Onlooker.hear.Reads.Post
hear κs given r s p q = same (p ∙⁻¹ q) refl

pub witness_call : OneReply contracts.witness.Heard.call.ended promises.witness.Heard.call.Reads.Post
witness_call κs given r s p q = same (p ∙⁻¹ q) refl

pub plug_new : OneReply contracts.plug.Plug.new.ended promises.plug.Plug.new.Reads.Post
plug_new κs given r s p q = same (p ∙⁻¹ q) refl

pub plug_hear : OneReply contracts.plug.Plug.hear.ended promises.plug.Plug.hear.Reads.Post
plug_hear κs given r s p q = same (p ∙⁻¹ q) refl
