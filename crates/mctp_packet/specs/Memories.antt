-- The value that says that no memory was to be had: there is one, wherever it was made.
use Rattle.mctp_packet.specs.declared.memory.Memory.{Memory}

abbrev pub out_of_memory : Memory
out_of_memory = record { 0 = tt }
