-- `step` keeps the laws of a program of records.
use Rattle.blocks.proofs.Laws.{lawful}
use Rattle.blocks.proofs.program.BlocklineRecords.step.Goals as goal

pub returns-clause-lawful : goal.returns-clause-lawful
returns-clause-lawful c = lawful
