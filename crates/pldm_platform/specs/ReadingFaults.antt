-- The numbers of the faults of a reading.
use Rattle.std.specs.Prelude.{ℕ}
use Rattle.pldm_platform.specs.declared.platform.ReadingFault.{ReadingFault}
use Rattle.pldm_platform.specs.declared.platform.ReadingFault.TheVariants.{NoSuchSensor, OutOfSize}

abbrev pub number_of_reading_fault : ReadingFault → ℕ
number_of_reading_fault NoSuchSensor = 1
number_of_reading_fault OutOfSize = 2
