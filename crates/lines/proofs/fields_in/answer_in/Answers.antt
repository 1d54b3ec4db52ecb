-- `answer_in` reads each field at the place that the definition names.
use Rattle.std.proofs.Common.{◌≡◌, w16, to_z-of_z, rules}
use Rattle.drive.specs.Offsets.{zero}
use Rattle.drive.specs.declared.offsets.Pair.{Pair}
use Rattle.lines.specs.Fields.{answer_in}
use Rattle.lines.proofs.fields_in.answer_in.Goals as goal

no_offsets : (pair : Pair) → (pair.first ≡ 0) × (pair.second ≡ 0) → pair ≡ zero
no_offsets pair are = λ i. record { first = are.0 i; second = are.1 i }

pub returns : goal.returns
unfolding answer_in
returns c =
    rw (
      no_offsets c.default.result c.default.ensures,
      c.judged_of.ensures,
      to_z-of_z {w = w16} {z = c.signed_of-2.result} (search rules),
      to_z-of_z {w = w16} {z = c.signed_of.result} (search rules),
      c.signed_of-2.ensures,
      c.value-6.ensures.value,
      c.value-5.ensures.value,
      c.signed_of.ensures,
      c.value-4.ensures.value,
      c.value-3.ensures.value,
      c.value-2.ensures.value,
      c.state_of.ensures,
      c.value.ensures.value,
    )
