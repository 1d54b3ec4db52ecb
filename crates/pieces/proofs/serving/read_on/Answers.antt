-- `read_on` runs over what it held and what the read brought: the read leaves the bytes in front of its part as they were.
use Rattle.pieces.specs.Turn.{answered}
use Rattle.pieces.proofs.serving.read_on.Goals as goal

pub returns-clause-rest : goal.returns-clause-rest
returns-clause-rest g c = answered _ _ c.read_behind.ensures.front c.answer.ensures.rest
