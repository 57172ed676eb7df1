-- The numbers of the faults that end a run.
use Rattle.std.specs.Prelude.{ℕ}
use Rattle.mctpctl_input.specs.declared.faults.EngineFault.{EngineFault}
use Rattle.mctpctl_input.specs.declared.faults.EngineFault.TheVariants.{Device, NoDivider, Line, Timing, TooLarge}
use Rattle.mctpctl_input.specs.declared.faults.EngineFault.TheVariants.{Read, Write, Memory}
use Rattle.mctpctl_input.specs.declared.faults.LineKind.{LineKind}
use Rattle.mctpctl_input.specs.declared.faults.LineKind.TheVariants.{LongLine, Words, Number, BackInTime, BadHex}
use Rattle.mctpctl_input.specs.declared.faults.LineKind.TheVariants.{NoSuchRequester, SameRequester}

abbrev pub number_of_engine_fault : EngineFault → ℕ
number_of_engine_fault (Device fault) = 1
number_of_engine_fault NoDivider = 2
number_of_engine_fault (Line number kind) = 3
number_of_engine_fault (Timing requester fault) = 4
number_of_engine_fault TooLarge = 5
number_of_engine_fault Read = 6
number_of_engine_fault Write = 7
number_of_engine_fault (Memory refused) = 8

abbrev pub number_of_line_kind : LineKind → ℕ
number_of_line_kind LongLine = 1
number_of_line_kind Words = 2
number_of_line_kind Number = 3
number_of_line_kind BackInTime = 4
number_of_line_kind BadHex = 5
number_of_line_kind NoSuchRequester = 6
number_of_line_kind SameRequester = 7
