-- The faults of opening a request: their numbers.
use Rattle.std.specs.Prelude.{ℕ}
use Rattle.pldm_requester.specs.declared.results.OpenFault.{OpenFault}
use Rattle.pldm_requester.specs.declared.results.OpenFault.TheVariants.{TagInUse, IdInUse, Memory}

abbrev pub number_of_open_fault : OpenFault → ℕ
number_of_open_fault TagInUse = 1
number_of_open_fault IdInUse = 2
number_of_open_fault (Memory memory) = 3
