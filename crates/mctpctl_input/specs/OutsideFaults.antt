-- The faults that no input has.
use Rattle.std.specs.Prelude.{◌≡◌, ◌⊎◌}
use Rattle.mctp_packet.specs.Memories.{out_of_memory}
use Rattle.mctpctl_input.specs.declared.faults.EngineFault.{EngineFault}
use Rattle.mctpctl_input.specs.declared.faults.EngineFault.TheVariants.{Read, Write, Memory}

-- out of memory
abbrev pub no_memory : EngineFault
no_memory = Memory out_of_memory

-- a fault of the ports, or out of memory
abbrev pub IsOutside : EngineFault → Type 0
IsOutside fault = (fault ≡ Read) ⊎ (fault ≡ Write) ⊎ (fault ≡ no_memory)
