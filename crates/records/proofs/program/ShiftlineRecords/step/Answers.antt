-- `step` keeps the laws of a program of records.
use Rattle.records.proofs.Laws.{lawful}
use Rattle.records.proofs.program.ShiftlineRecords.step.Goals as goal

pub returns-clause-lawful : goal.returns-clause-lawful
returns-clause-lawful c = lawful
