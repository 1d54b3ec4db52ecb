-- One reply of the public function of this crate: any two that its own promise permits are equal, lent bytes included.
use mathlib.Core.Path.{ap, ◌∙⁻¹◌}
use mathlib.Core.List.{List}
use Prim.Native.Nat.{ℕ}
use Rattle.numbers.proofs.Reply.{OneReply, same}
use Rattle.bench.proofs as promises
use Rattle.bench.specs.contracts

pub run : OneReply contracts.run.ended promises.run.Reads.Post
run κs given r s p q = same (p.0 ∙⁻¹ q.0) (ap (λ (bytes : List ℕ). (tt, (tt, (tt, (bytes, tt))))) (p.1.0 ∙⁻¹ q.1.0))
