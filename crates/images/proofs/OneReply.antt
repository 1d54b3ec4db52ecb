-- One reply of each public function of this crate: any two that its own promise permits are equal.
use mathlib.Core.Path.{◌≡◌, refl, ap, ◌∙⁻¹◌}
use mathlib.Core.List.{List}
use Prim.Native.Nat.{ℕ}
use contract.Lifetimes.{Lfts}
use denote.Triple.Entry.{Args}
use Rattle.numbers.proofs.Reply.{OneReply, Reply, Permits, same}
use Rattle.verdicts.proofs.OneToOne.{one_to_one}
use Rattle.images.specs.Choice.{Choice}
use Rattle.images.specs.Writes.{Written}
use Rattle.images.proofs.Told.{same_result}
use Rattle.images.proofs as promises
use Rattle.images.specs.contracts

pub verdict : OneReply contracts.reader.verdict.ended promises.reader.verdict.Reads.Post
verdict κs given r s p q = same (one_to_one r.result s.result (p ∙⁻¹ q)) refl

pub write : OneReply contracts.writer.write.ended promises.writer.write.Reads.Post
write κs given r s p q =
    let told = p.0 ∙⁻¹ q.0 in
    same (same_result r.result s.result (ap (λ (w : Written). record { number = w.number; place = w.place }) told)
    (ap (λ (w : Written). w.size) told)) (ap (λ (bytes : List ℕ). (tt, (bytes, tt))) (p.1 ∙⁻¹ q.1))

pub choose : OneReply contracts.choice.choose.ended promises.choice.choose.Reads.Post
choose κs given r s p q =
    let told = p ∙⁻¹ q in
    same (same_result r.result s.result (ap (λ (c : Choice). record { number = c.number; place = c.place }) told)
    (ap (λ (c : Choice). c.block) told)) refl

-- Of a part of lent bytes a caller gets the bytes and where they lie: these are the same. A reference has a third part, the ghost name that
-- the proof gives to its value; no program can ask for it, and no promise speaks of it.
pub body :
    (κs : Lfts (contracts.reader.body.ended).signature.lifetimes) (given : Args (contracts.reader.body.ended).signature κs)
    (r s : Reply contracts.reader.body.ended κs given)
    → Permits contracts.reader.body.ended κs given promises.reader.body.Reads.Post r
    → Permits contracts.reader.body.ended κs given promises.reader.body.Reads.Post s
    → (r.result.now ≡ s.result.now) × (r.result.ref_ptr ≡ s.result.ref_ptr)
body κs given r s p q = (p.holds ∙⁻¹ q.holds, both (p.memory ∙⁻¹ q.memory) (p.place ∙⁻¹ q.place))
  where
    both : {a b : ℕ × ℕ} → a.0 ≡ b.0 → a.1 ≡ b.1 → a ≡ b
    both {a} {b} e f = rw (e, f)

pub numbers_of : OneReply contracts.reader.numbers_of.ended promises.reader.numbers_of.Reads.Post
numbers_of κs given r s p q = same (p ∙⁻¹ q) refl
