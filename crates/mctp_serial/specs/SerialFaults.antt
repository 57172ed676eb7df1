-- The reasons for which bytes after a flag are no frame: their numbers and names.
use Rattle.std.specs.Prelude.{ℕ, List, codes}
use Rattle.mctp_serial.specs.declared.fault.SerialFault.{SerialFault}
use Rattle.mctp_serial.specs.declared.fault.SerialFault.TheVariants.{WrongRevision, Empty, TooLong, CutShort}
use Rattle.mctp_serial.specs.declared.fault.SerialFault.TheVariants.{BadEscape, WrongCheck, NoEnd}

abbrev pub number_of : SerialFault → ℕ
number_of WrongRevision = 1
number_of Empty = 2
number_of TooLong = 3
number_of CutShort = 4
number_of BadEscape = 5
number_of WrongCheck = 6
number_of NoEnd = 7

abbrev pub name_of : SerialFault → List ℕ
name_of WrongRevision = codes "WrongRevision"
name_of Empty = codes "Empty"
name_of TooLong = codes "TooLong"
name_of CutShort = codes "CutShort"
name_of BadEscape = codes "BadEscape"
name_of WrongCheck = codes "WrongCheck"
name_of NoEnd = codes "NoEnd"
