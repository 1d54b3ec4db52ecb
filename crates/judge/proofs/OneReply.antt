-- One reply of each public function of this crate: any two that its own promise permits are equal, lent bytes included.
use mathlib.Core.Path.{ap, refl, ◌∙⁻¹◌}
use mathlib.Core.List.{List}
use Prim.Native.Nat.{ℕ}
use Rattle.numbers.proofs.Reply.{OneReply, same}
use Rattle.judge.proofs as promises
use Rattle.judge.specs.contracts

pub new : OneReply contracts.Judge.new.ended promises.Judge.new.Reads.Post
new κs given r s p q = same (p ∙⁻¹ q) refl

pub run : OneReply contracts.run.ended promises.run.Reads.Post
run κs given r s p q = same (p.0 ∙⁻¹ q.0) refl

pub verdict : OneReply contracts.sentences.verdict.ended promises.sentences.verdict.Reads.Post
verdict κs given r s p q = same (p.0 ∙⁻¹ q.0) (ap (λ (bytes : List ℕ). (tt, (bytes, tt))) (p.1 ∙⁻¹ q.1))
