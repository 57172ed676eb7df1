-- The faults of a device description: their numbers and names.
use Rattle.std.specs.Prelude.{◌≡◌, ◌⊎◌, ℕ, List, codes, Result, Err}
use Rattle.mctp_packet.specs.Memories.{out_of_memory}
use Rattle.pldm_device.specs.declared.description_fault.FileFault.{FileFault}
use Rattle.pldm_device.specs.declared.description_fault.FileFault.TheVariants.{Toml, MissingKey, WrongKind, OutOfRange}
use Rattle.pldm_device.specs.declared.description_fault.FileFault.TheVariants.{Duplicate, BadHex, BadRecord, Memory}

abbrev pub number_of_file_fault : FileFault → ℕ
number_of_file_fault Toml = 1
number_of_file_fault MissingKey = 2
number_of_file_fault WrongKind = 3
number_of_file_fault OutOfRange = 4
number_of_file_fault Duplicate = 5
number_of_file_fault BadHex = 6
number_of_file_fault BadRecord = 7
number_of_file_fault (Memory memory) = 8

abbrev pub name_of_file_fault : FileFault → List ℕ
name_of_file_fault Toml = codes "Toml"
name_of_file_fault MissingKey = codes "MissingKey"
name_of_file_fault WrongKind = codes "WrongKind"
name_of_file_fault OutOfRange = codes "OutOfRange"
name_of_file_fault Duplicate = codes "Duplicate"
name_of_file_fault BadHex = codes "BadHex"
name_of_file_fault BadRecord = codes "BadRecord"
name_of_file_fault (Memory memory) = codes "Memory"

-- the result is what is stated, or an allocation failed
abbrev pub IsOrMemory : {A : Type 0} → Result A FileFault → Result A FileFault → Type 0
IsOrMemory result stated = (result ≡ Err (Memory out_of_memory)) ⊎ (result ≡ stated)

-- the result is what is stated, or an allocation failed where the fact holds
abbrev pub IsOrMemoryWhere : {A : Type 0} → Type 0 → Result A FileFault → Result A FileFault → Type 0
IsOrMemoryWhere fact result stated = ((result ≡ Err (Memory out_of_memory)) × fact) ⊎ (result ≡ stated)
