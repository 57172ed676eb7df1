-- The faults that end the asking on a line, in words.
use Rattle.std.specs.Prelude.{ℕ, List, codes}
use Rattle.pldm_line.specs.declared.ask_fault.AskFault.{AskFault}
use Rattle.pldm_line.specs.declared.ask_fault.AskFault.TheVariants.{LineEnded, Read, Write, Clock, Memory, TooMany, Unread}

abbrev pub text_of : AskFault → List ℕ
text_of LineEnded = codes "the line ended"
text_of Read = codes "read fault"
text_of Write = codes "write fault"
text_of Clock = codes "clock fault"
text_of Memory = codes "out of memory"
text_of TooMany = codes "too many pieces of input"
text_of Unread = codes "nobody reads the output"
