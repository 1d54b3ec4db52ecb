-- `refusing` shows the state as it is under number 6, which the line call accepts.
use Rattle.std.proofs.Common.{None}
use native.Mathlib.Omega.{arith}
use Rattle.records.proofs.Printed.{answer_printed}
use Rattle.records.proofs.answers.refusing.Goals as goal

pub answering-requires : goal.answering-requires
answering-requires c =
    rw (c.answered-answer.ensures, c.number.ensures, c.place.ensures) (answer_printed None 6 0 _ _ (omega arith) c.requires)
