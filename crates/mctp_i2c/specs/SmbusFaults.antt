-- The numbers and names of the faults of a frame on SMBus.
use Rattle.std.specs.Prelude.{ℕ, List, codes}
use Rattle.mctp_i2c.specs.declared.smbus.SmbusFault.{SmbusFault}
use Rattle.mctp_i2c.specs.declared.smbus.SmbusFault.TheVariants.{Short, NotOurs, OtherCommand, WrongCount}
use Rattle.mctp_i2c.specs.declared.smbus.SmbusFault.TheVariants.{NotSource, WrongPec}

abbrev pub number_of : SmbusFault → ℕ
number_of Short = 1
number_of NotOurs = 2
number_of OtherCommand = 3
number_of WrongCount = 4
number_of NotSource = 5
number_of WrongPec = 6

abbrev pub name_of : SmbusFault → List ℕ
name_of Short = codes "Short"
name_of NotOurs = codes "NotOurs"
name_of OtherCommand = codes "OtherCommand"
name_of WrongCount = codes "WrongCount"
name_of NotSource = codes "NotSource"
name_of WrongPec = codes "WrongPec"
