-- One reply of each public function of this crate: any two that its own promise permits are equal.
use mathlib.Core.Path.{refl, ◌∙⁻¹◌}
use denote.RattleType.{RattleType}
use denote.Param.{number as size}
use denote.Param.Laws.{Laws}
use mir.Syntax.{Dict, w64}
use mir.Val.{Fits}
use Prim.Native.Nat.{ℕ}
use Rattle.numbers.proofs.Reply.{OneReply, same}
use Rattle.numbers.proofs as promises
use Rattle.numbers.specs.contracts

pub count_up : OneReply contracts.count_up.ended promises.count_up.Reads.Post
count_up κs given r s p q = same (p ∙⁻¹ q) refl

pub signed : OneReply contracts.signed.ended promises.signed.Reads.Post
signed κs given r s p q = same (p ∙⁻¹ q) refl

pub absolute : OneReply contracts.absolute.ended promises.absolute.Reads.Post
absolute κs given r s p q = same (p ∙⁻¹ q) refl

pub limited : OneReply contracts.limited.ended promises.limited.Reads.Post
limited κs given r s p q = same (p ∙⁻¹ q) refl

pub byte_at : OneReply contracts.byte_at.ended promises.byte_at.Reads.Post
byte_at κs given r s p q = same (p ∙⁻¹ q) refl

pub number_at : OneReply contracts.number_at.ended promises.number_at.Reads.Post
number_at κs given r s p q = same (p ∙⁻¹ q) refl

pub word_of : OneReply contracts.word_of.ended promises.word_of.Reads.Post
word_of κs given r s p q = same (p ∙⁻¹ q) refl

-- of values of any type
pub pick :
    (T : RattleType) (laws : Laws T) (drop : Dict)
    → OneReply (contracts.pick.ended T drop) (promises.pick.Reads.Post T laws drop)
pick T laws drop κs given r s p q = same (p ∙⁻¹ q) refl

-- of arrays of any size
module _ (N : ℕ) (fits : Fits w64 N) where
  pub numbers_at : OneReply (contracts.numbers_at.ended (size N)) (promises.numbers_at.Reads.Post N fits)
  numbers_at κs given r s p q = same (p ∙⁻¹ q) refl

  pub filled : OneReply (contracts.filled.ended (size N)) (promises.filled.Reads.Post N fits)
  filled κs given r s p q = same (p ∙⁻¹ q) refl
