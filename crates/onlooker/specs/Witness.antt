-- A call made and heard, for whoever runs the supervisor and the onlooker side by side.
use Rattle.drive.specs.AnyCall.{Call, reply}
use Rattle.drive.specs.declared.Drive.{Drive}
use Rattle.onlooker.specs.Hears.{hears}
use Rattle.onlooker.specs.declared.Onlooker.{Onlooker}
use Rattle.onlooker.specs.declared.witness.Heard.{Heard}

-- what the supervisor leaves and answers, and the onlooker who heard the call with that very answer
abbrev pub witnessed : Drive → Onlooker → Call → Heard
witnessed d o call =
    record {
      drive = (reply d call).drive;
      onlooker = hears o (record { call = call; answer = (reply d call).answer });
      answer = (reply d call).answer;
    }
