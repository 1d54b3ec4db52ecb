-- One reply: any two that the promise of `move_to_front` permits are equal, lent bytes included. The other functions ask the OS.
use mathlib.Core.Path.{ap, ◌∙⁻¹◌}
use mathlib.Core.List.{List}
use Prim.Native.Nat.{ℕ}
use Rattle.numbers.proofs.Reply.{OneReply, same}
use Rattle.pieces.proofs as promises
use Rattle.pieces.specs.contracts

pub move_to_front : OneReply contracts.move_to_front.ended promises.move_to_front.Reads.Post
move_to_front κs given r s p q = same (p.0 ∙⁻¹ q.0) (ap (λ (bytes : List ℕ). (bytes, (tt, (tt, tt)))) (p.1 ∙⁻¹ q.1))
