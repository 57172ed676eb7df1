-- The faults of a serial line as those of an engine, with their lines on standard error and their exit statuses.
use Rattle.std.specs.Prelude.{Option, None, Some}
use Rattle.mctpctl_input.specs.OutsideFaults.{no_memory}
use Rattle.mctpctl_input.specs.declared.faults.EngineFault.{EngineFault}
use Rattle.mctpctl_input.specs.declared.faults.EngineFault.TheVariants as engine
use Rattle.pldm_line.specs.declared.serve_fault.ServeFault.{ServeFault}
use Rattle.pldm_line.specs.declared.serve_fault.ServeFault.TheVariants as line

-- no engine reads a clock
abbrev pub engine_fault_of : ServeFault → Option EngineFault
engine_fault_of line.Read = Some engine.Read
engine_fault_of line.Write = Some engine.Write
engine_fault_of line.Clock = None
engine_fault_of line.Memory = Some no_memory
engine_fault_of line.TooMany = Some engine.TooLarge
