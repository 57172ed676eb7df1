-- A few steps of a walk, computed from the definitions. The checksum is from another program.
use Rattle.std.proofs.Common.{◌≡◌, ℕ, [], ◌∷◌, List, Option, Some, None, refl}
use Rattle.std.specs.Int.{reverse_bits_onto}
use Rattle.pldm_wire.specs.Crc32.{divided_bits}
use Rattle.pldm_wire.specs.AnswerReading.{success_of}
use Rattle.pldm_wire.specs.Responses.{response_of}
use Rattle.pldm_wire.specs.declared.command.Command.TheVariants.{GetPldmTypes, GetPldmVersion, GetPldmCommands, GetPdrRepositoryInfo}
use Rattle.pldm_discovery.specs.Answered.{answer_to}
use Rattle.pldm_discovery.specs.Laws.{walked}
use Rattle.pldm_discovery.specs.Types.{next_type}
use Rattle.pldm_discovery.specs.Versions.{is_checksum_of, last_version}
use Rattle.pldm_discovery.specs.Walks.{next_command}

-- the version 1.0.0, as it goes in one order of its bytes, and its checksum
abbrev version : List ℕ
version = 0x00 ∷ 0xf0 ∷ 0xf0 ∷ 0xf1 ∷ []

checksum_is_no_version : last_version (0x00 ∷ 0xf0 ∷ 0xf0 ∷ 0xf1 ∷ 0xfb ∷ 0x8f ∷ 0x86 ∷ 0x4a ∷ []) ≡ version
unfolding last_version is_checksum_of divided_bits reverse_bits_onto
checksum_is_no_version = refl

another_version_is_one : last_version (0x01 ∷ 0xf0 ∷ 0xf0 ∷ 0xf1 ∷ 0x00 ∷ 0xf0 ∷ 0xf0 ∷ 0xf1 ∷ []) ≡ version
unfolding last_version is_checksum_of divided_bits reverse_bits_onto
another_version_is_one = refl

-- the types 0 and 2
abbrev types : List ℕ
types = 0x05 ∷ 0 ∷ 0 ∷ 0 ∷ 0 ∷ 0 ∷ 0 ∷ 0 ∷ []

second_type : next_type types 1 ≡ Some 2
unfolding next_type
second_type = refl

no_third_type : next_type types 3 ≡ None
unfolding next_type
no_third_type = refl

-- the answers of a device of these types that refuses the versions of the second one

abbrev tid_message : Option (List ℕ)
tid_message = Some (0x01 ∷ 0x00 ∷ 0x00 ∷ 0x02 ∷ 0x00 ∷ 0x09 ∷ [])

abbrev types_message : Option (List ℕ)
types_message = Some (0x01 ∷ 0x00 ∷ 0x00 ∷ 0x04 ∷ 0x00 ∷ 0x05 ∷ 0 ∷ 0 ∷ 0 ∷ 0 ∷ 0 ∷ 0 ∷ 0 ∷ [])

abbrev versions_message : Option (List ℕ)
versions_message =
    Some (0x01 ∷ 0x00 ∷ 0x00 ∷ 0x03 ∷ 0x00 ∷ 0 ∷ 0 ∷ 0 ∷ 0 ∷ 0x05 ∷ 0x00 ∷ 0xf0 ∷ 0xf0 ∷ 0xf1 ∷ [])

abbrev refusal : Option (List ℕ)
refusal = Some (0x01 ∷ 0x00 ∷ 0x00 ∷ 0x03 ∷ 0x80 ∷ [])

types_are_asked : next_command (walked (tid_message ∷ [])) ≡ Some GetPldmTypes
unfolding answer_to response_of success_of
types_are_asked = refl

versions_are_asked : next_command (walked (types_message ∷ tid_message ∷ [])) ≡ Some (GetPldmVersion 0 1 0)
unfolding answer_to response_of success_of next_type
versions_are_asked = refl

commands_are_asked : next_command (walked (versions_message ∷ types_message ∷ tid_message ∷ [])) ≡ Some (GetPldmCommands 0 version)
unfolding answer_to response_of success_of next_type last_version is_checksum_of divided_bits reverse_bits_onto
commands_are_asked = refl

refused_type_is_passed : next_command (walked (refusal ∷ None ∷ versions_message ∷ types_message ∷ None ∷ [])) ≡ Some GetPdrRepositoryInfo
unfolding answer_to response_of success_of next_type last_version is_checksum_of divided_bits reverse_bits_onto
refused_type_is_passed = refl

-- without the types nothing more is asked
no_types : next_command (walked (None ∷ tid_message ∷ [])) ≡ None
unfolding answer_to response_of success_of
no_types = refl
