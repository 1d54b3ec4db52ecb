-- The lowest and the highest value are the two numbers of one range.
use Rattle.std.proofs.Common.{ℕ}
use Rattle.std.proofs.Math.ListN.{get_or-map}
use Rattle.settings.specs.Rules.{ranges}
use Rattle.settings.proofs.rule.Goals as goal

pub returns : goal.returns
returns c =
    rw (
      c.related.ensures,
      get_or-map (λ (r : ℕ × ℕ). r.0) ranges c.args.i (0, 0),
      get_or-map (λ (r : ℕ × ℕ). r.1) ranges c.args.i (0, 0),
    )
