-- One reply of each public function of this crate: any two that its own promise permits are equal, lent bytes included.
use mathlib.Core.Path.{ap, refl, ◌∙⁻¹◌}
use mathlib.Core.List.{List}
use Prim.Native.Nat.{ℕ}
use Rattle.numbers.proofs.Reply.{OneReply, same}
use Rattle.records.proofs as promises
use Rattle.records.specs.contracts

pub load_size : OneReply contracts.load_size.ended promises.load_size.Reads.Post
load_size κs given r s p q = same (p ∙⁻¹ q) refl

pub read : OneReply contracts.read.ended promises.read.Reads.Post
read κs given r s p q = same (p ∙⁻¹ q) refl

pub settings_at : OneReply contracts.settings_at.ended promises.settings_at.Reads.Post
settings_at κs given r s p q = same (p ∙⁻¹ q) refl

pub run : OneReply contracts.run.ended promises.run.Reads.Post
run κs given r s p q = same (p.0 ∙⁻¹ q.0) (ap (λ (bytes : List ℕ). (tt, (tt, (tt, (bytes, tt))))) (p.1.0 ∙⁻¹ q.1.0))
