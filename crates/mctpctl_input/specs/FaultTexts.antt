-- What the program says of a fault, after its own name and a colon.
use Rattle.std.specs.Prelude.{ℕ, List, ◌++◌, codes}
use Rattle.std.specs.Fmt.{decimal}
use Rattle.mctpctl_input.specs.declared.faults.EngineFault.{EngineFault}
use Rattle.mctpctl_input.specs.declared.faults.EngineFault.TheVariants.{Device, NoDivider, Line, Timing, TooLarge}
use Rattle.mctpctl_input.specs.declared.faults.EngineFault.TheVariants.{Read, Write, Memory}
use Rattle.mctpctl_input.specs.declared.faults.LineKind.{LineKind}
use Rattle.mctpctl_input.specs.declared.faults.LineKind.TheVariants.{LongLine, Words, Number, BackInTime, BadHex}
use Rattle.mctpctl_input.specs.declared.faults.LineKind.TheVariants.{NoSuchRequester, SameRequester}
use Rattle.pldm_device.specs.FileFaults.{name_of_file_fault}
use Rattle.pldm_requester.specs.declared.timing.TimingFault.{TimingFault}
use Rattle.pldm_requester.specs.declared.timing.TimingFault.TheVariants.{Timeout, Tries, TooLate, SameEid}

abbrev pub name_of_line_kind : LineKind → List ℕ
name_of_line_kind LongLine = codes "LongLine"
name_of_line_kind Words = codes "Words"
name_of_line_kind Number = codes "Number"
name_of_line_kind BackInTime = codes "BackInTime"
name_of_line_kind BadHex = codes "BadHex"
name_of_line_kind NoSuchRequester = codes "NoSuchRequester"
name_of_line_kind SameRequester = codes "SameRequester"

abbrev pub name_of_timing_fault : TimingFault → List ℕ
name_of_timing_fault Timeout = codes "Timeout"
name_of_timing_fault Tries = codes "Tries"
name_of_timing_fault TooLate = codes "TooLate"
name_of_timing_fault SameEid = codes "SameEid"

abbrev pub fault_text : EngineFault → List ℕ
fault_text (Device fault) = codes "device: " ++ name_of_file_fault fault
fault_text NoDivider = codes "no %% line"
fault_text (Line number kind) = codes "line " ++ (decimal number ++ (codes ": " ++ name_of_line_kind kind))
fault_text (Timing requester fault) =
    codes "requester " ++ (decimal requester ++ (codes ": " ++ name_of_timing_fault fault))
fault_text TooLarge = codes "input too large"
fault_text Read = codes "read fault"
fault_text Write = codes "write fault"
fault_text (Memory refused) = codes "out of memory"
