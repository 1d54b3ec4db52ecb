-- One reply of each public function of this crate: any two that its own promise permits are equal, lent bytes included.
use mathlib.Core.Path.{ap, ◌∙⁻¹◌}
use mathlib.Core.List.{List}
use Prim.Native.Nat.{ℕ}
use Rattle.numbers.proofs.Reply.{OneReply, same}
use Rattle.text.proofs as promises
use Rattle.text.specs.contracts

pub put : OneReply contracts.put.ended promises.put.Reads.Post
put κs given r s p q = same (p.0 ∙⁻¹ q.0) (ap (λ (bytes : List ℕ). (bytes, (tt, (tt, tt)))) (p.1 ∙⁻¹ q.1))

pub put_decimal : OneReply contracts.put_decimal.ended promises.put_decimal.Reads.Post
put_decimal κs given r s p q = same (p.0 ∙⁻¹ q.0) (ap (λ (bytes : List ℕ). (bytes, (tt, (tt, tt)))) (p.1 ∙⁻¹ q.1))

pub put_signed : OneReply contracts.put_signed.ended promises.put_signed.Reads.Post
put_signed κs given r s p q = same (p.0 ∙⁻¹ q.0) (ap (λ (bytes : List ℕ). (bytes, (tt, (tt, tt)))) (p.1 ∙⁻¹ q.1))

pub put_column : OneReply contracts.put_column.ended promises.put_column.Reads.Post
put_column κs given r s p q = same (p.0 ∙⁻¹ q.0) (ap (λ (bytes : List ℕ). (bytes, (tt, (tt, (tt, tt))))) (p.1 ∙⁻¹ q.1))
