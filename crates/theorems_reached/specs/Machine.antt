-- The drive as a machine: its calls, each with the state that it leaves and the answer that it gives.
use Rattle.theorems_history.specs.Log.{Machine}
use Rattle.drive.specs.Calls.{power_up}
use Rattle.drive.specs.AnyCall.{Call, reply}
use Rattle.drive.specs.declared.Drive.{Drive}
use Rattle.drive.specs.declared.answer.Answer.{Answer}
use Rattle.drive.specs.declared.answer.Reply.{Reply}

-- a machine of any replies, so that a wrong drive is a machine, too
abbrev pub machine_of : (Drive → Call → Reply) → Machine
machine_of replies =
    record {
      State = Drive;
      Call = Call;
      Answer = Answer;
      power_up = power_up;
      step = λ d call. (replies d call).drive;
      answer = λ d call. (replies d call).answer;
    }

abbrev pub machine : Machine
machine = machine_of reply
