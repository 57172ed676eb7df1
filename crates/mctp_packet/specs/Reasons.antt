-- The reasons for which a packet or a message is dropped: their numbers and names.
use Rattle.std.specs.Prelude.{ℕ, List, codes}
use Rattle.mctp_packet.specs.declared.reason.Reason.{Reason}
use Rattle.mctp_packet.specs.declared.reason.Reason.TheVariants.{Short, BadVersion, UnknownDestination}
use Rattle.mctp_packet.specs.declared.reason.Reason.TheVariants.{BadSource, NoPayload, UnsupportedUnit}
use Rattle.mctp_packet.specs.declared.reason.Reason.TheVariants.{BadTag, UnexpectedMiddleOrEnd, OutOfSequence}
use Rattle.mctp_packet.specs.declared.reason.Reason.TheVariants.{TooLong, WrongUnit, NotPldm, Integrity}
use Rattle.mctp_packet.specs.declared.reason.Reason.TheVariants.{ShortHeader, BadPldmHeader, NotRequest}
use Rattle.mctp_packet.specs.declared.reason.Reason.TheVariants.{Datagram, NotResponse, NotMine, NotReady}

abbrev pub number_of : Reason → ℕ
number_of Short = 1
number_of BadVersion = 2
number_of UnknownDestination = 3
number_of BadSource = 4
number_of NoPayload = 5
number_of UnsupportedUnit = 6
number_of BadTag = 7
number_of UnexpectedMiddleOrEnd = 8
number_of OutOfSequence = 9
number_of TooLong = 10
number_of WrongUnit = 11
number_of NotPldm = 12
number_of Integrity = 13
number_of ShortHeader = 14
number_of BadPldmHeader = 15
number_of NotRequest = 16
number_of Datagram = 17
number_of NotResponse = 18
number_of NotMine = 19
number_of NotReady = 20

abbrev pub name_of : Reason → List ℕ
name_of Short = codes "Short"
name_of BadVersion = codes "BadVersion"
name_of UnknownDestination = codes "UnknownDestination"
name_of BadSource = codes "BadSource"
name_of NoPayload = codes "NoPayload"
name_of UnsupportedUnit = codes "UnsupportedUnit"
name_of BadTag = codes "BadTag"
name_of UnexpectedMiddleOrEnd = codes "UnexpectedMiddleOrEnd"
name_of OutOfSequence = codes "OutOfSequence"
name_of TooLong = codes "TooLong"
name_of WrongUnit = codes "WrongUnit"
name_of NotPldm = codes "NotPldm"
name_of Integrity = codes "Integrity"
name_of ShortHeader = codes "ShortHeader"
name_of BadPldmHeader = codes "BadPldmHeader"
name_of NotRequest = codes "NotRequest"
name_of Datagram = codes "Datagram"
name_of NotResponse = codes "NotResponse"
name_of NotMine = codes "NotMine"
name_of NotReady = codes "NotReady"
