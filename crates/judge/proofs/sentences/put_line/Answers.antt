-- `put_line` puts the front of the line.
use Rattle.std.proofs.Common.{ℕ, length, ap, ◌∙◌}
use Rattle.std.specs.Prelude.{Option, unwrap_or}
use Rattle.text.proofs.Chains.{first}
use Rattle.judge.specs.NextLine.{line_of}
use Rattle.judge.proofs.sentences.put_line.Goals as goal

pub returns : goal.returns
returns c =
    let size = c.unwrap_or-size.ensures ∙ ap (λ (size : Option ℕ). unwrap_or size (length c.args.line.now)) c.line_size.ensures.size in
    first (line_of c.args.line.now) (rw size at (c.put.ensures.next), rw size at (c.put.ensures.lent))
