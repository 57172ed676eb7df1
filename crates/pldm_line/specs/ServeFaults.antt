-- The faults that end the serving of a line, in words.
use Rattle.std.specs.Prelude.{ℕ, List, codes}
use Rattle.pldm_line.specs.declared.serve_fault.ServeFault.{ServeFault}
use Rattle.pldm_line.specs.declared.serve_fault.ServeFault.TheVariants.{Read, Write, Clock, Memory, TooMany}

abbrev pub text_of : ServeFault → List ℕ
text_of Read = codes "read fault"
text_of Write = codes "write fault"
text_of Clock = codes "clock fault"
text_of Memory = codes "out of memory"
text_of TooMany = codes "too many pieces of input"
