-- The faults of splitting a message: their numbers.
use Rattle.std.specs.Prelude.{ℕ}
use Rattle.mctp_packet.specs.declared.pieces.SplitFault.{SplitFault}
use Rattle.mctp_packet.specs.declared.pieces.SplitFault.TheVariants.{Empty, TooLong}

abbrev pub number_of_split_fault : SplitFault → ℕ
number_of_split_fault Empty = 1
number_of_split_fault TooLong = 2
