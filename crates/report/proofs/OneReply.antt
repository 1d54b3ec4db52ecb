-- One reply of the public function of this crate: any two that its own promise permits are equal, lent bytes included.
use mathlib.Core.Path.{ap, ◌∙⁻¹◌}
use mathlib.Core.List.{List}
use Prim.Native.Nat.{ℕ}
use Rattle.numbers.proofs.Reply.{OneReply, same}
use Rattle.verdicts.proofs.OneToOne.{one_to_one}
use Rattle.report.proofs as promises
use Rattle.report.specs.contracts

pub line : OneReply contracts.line.ended promises.line.Reads.Post
line κs given r s p q = same (one_to_one _ _ (p.0 ∙⁻¹ q.0)) (ap (λ (bytes : List ℕ). (tt, (bytes, tt))) (p.1 ∙⁻¹ q.1))
