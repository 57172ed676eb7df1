-- The exit status of a run that ended in a fault.
use Rattle.std.specs.Prelude.{ℕ}
use Rattle.mctpctl_input.specs.declared.faults.EngineFault.{EngineFault}
use Rattle.mctpctl_input.specs.declared.faults.EngineFault.TheVariants.{Device, NoDivider, Line, Timing, TooLarge}
use Rattle.mctpctl_input.specs.declared.faults.EngineFault.TheVariants.{Read, Write, Memory}

-- 1 where the input was refused, 3 where the run could not be done
abbrev pub status_of_fault : EngineFault → ℕ
status_of_fault (Device fault) = 1
status_of_fault NoDivider = 1
status_of_fault (Line number kind) = 1
status_of_fault (Timing requester fault) = 1
status_of_fault TooLarge = 1
status_of_fault Read = 3
status_of_fault Write = 3
status_of_fault (Memory refused) = 3
