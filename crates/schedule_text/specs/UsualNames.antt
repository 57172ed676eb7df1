-- The names that nearly all steps and commands have one of.
use Rattle.std.specs.Prelude.{ℕ, codes, List}
use Rattle.schedule_text.specs.declared.words.UsualName.{UsualName}
use Rattle.schedule_text.specs.declared.words.UsualName.TheVariants as names
use Rattle.schedule_text.specs.declared.words.UsualCommand.{UsualCommand}
use Rattle.schedule_text.specs.declared.words.UsualCommand.TheVariants as commands

abbrev pub usual_name : UsualName → List ℕ
usual_name names.Reply = codes "rep"
usual_name names.Request = codes "req"
usual_name names.Tick = codes "tick"
usual_name names.Open = codes "open"

abbrev pub usual_command : UsualCommand → List ℕ
usual_command commands.SetNum = codes "setnum"
usual_command commands.Sensor = codes "sensor"
usual_command commands.GetPdr = codes "getpdr"
