-- The numbers of the faults of a fetch.
use Rattle.std.specs.Prelude.{ℕ}
use Rattle.pldm_records.specs.declared.fetch.FetchFault.{FetchFault}
use Rattle.pldm_records.specs.declared.fetch.FetchFault.TheVariants.{Refused, Count, Handle}
use Rattle.pldm_records.specs.declared.fetch.FetchFault.TheVariants.{Crc, Memory, Unexpected}

abbrev pub number_of_fetch_fault : FetchFault → ℕ
number_of_fetch_fault (Refused code) = 1
number_of_fetch_fault Count = 2
number_of_fetch_fault Handle = 3
number_of_fetch_fault Crc = 4
number_of_fetch_fault (Memory memory) = 5
number_of_fetch_fault Unexpected = 6
