-- What a device says of itself (DSP0240, "PLDM Messaging Control and Discovery commands"), by the versions of its PLDM
-- types and the commands that it has.
use Rattle.std.specs.Prelude.{ℕ, ◌+◌, ◌*◌, ◌==◌, Bool, ◌&&◌, ◌||◌, nat_lt, zero, suc, List, [], ◌∷◌, ◌++◌}
use Rattle.std.specs.Prelude.{Option, Some, None, if◌then◌else◌}
use Rattle.std.specs.List.{list_any}
use Rattle.byteorder.specs.Endian.{little_bytes}
use Rattle.pldm_platform.specs.declared.refusals.TheConstants.{INVALID_DATA_TRANSFER_HANDLE}
use Rattle.pldm_platform.specs.declared.refusals.TheConstants.{INVALID_TRANSFER_OPERATION, INVALID_PLDM_TYPE}
use Rattle.pldm_wire.specs.Crc32.{crc32}
use Rattle.pldm_wire.specs.declared.answer.Answer.{Answer}
use Rattle.pldm_wire.specs.declared.answer.Answer.TheVariants.{Refused, GetTid, GetPldmVersion, GetPldmTypes, GetPldmCommands}
use Rattle.pldm_wire.specs.declared.assigned.TheConstants.{BASE, GET_TID, GET_PLDM_VERSION, GET_PLDM_TYPES, GET_PLDM_COMMANDS}
use Rattle.pldm_wire.specs.declared.limits.TheConstants.{TYPES_BYTES, COMMANDS_BYTES, GET_NEXT_PART, GET_FIRST_PART}
use Rattle.needleoat_forms.specs.declared.command.CommandFields.{CommandFields}
use Rattle.needleoat_wire_c.specs.declared.base_answer.Numbers.{Numbers}
use Rattle.needleoat_wire_c.specs.declared.base_answer.Numbers.TheVariants.{Types, Commands}
use Rattle.needleoat_wire_c.specs.declared.base_answer.TypeCommand.{TypeCommand}
use Rattle.needleoat_wire_c.specs.declared.base_answer.TypeVersion.{TypeVersion}

-- whether the command that a struct is, is one of the four that are answered
abbrev pub is_of_discovery : CommandFields → Bool
is_of_discovery f =
    (f.pldm_type == BASE)
    && ((f.command == GET_TID) || (f.command == GET_PLDM_VERSION) || (f.command == GET_PLDM_TYPES)
    || (f.command == GET_PLDM_COMMANDS))

abbrev pub has_type : List TypeVersion → ℕ → Bool
has_type types pldm_type = list_any (λ entry. entry.pldm_type == pldm_type) types

abbrev pub has_command : List TypeCommand → ℕ → ℕ → Bool
has_command commands pldm_type command =
    list_any (λ entry. (entry.pldm_type == pldm_type) && (entry.command == command)) commands

abbrev pub has_number : Numbers → ℕ → Bool
has_number (Types types) = has_type types.now
has_number (Commands commands pldm_type) = has_command commands.now pldm_type

-- the version of a type: that of the first entry
abbrev pub version_of : ℕ → List TypeVersion → Option (List ℕ)
version_of pldm_type [] = None
version_of pldm_type (entry ∷ types) =
    if entry.pldm_type == pldm_type then Some entry.version else version_of pldm_type types

-- ---- bits: number n is bit n mod 8 of byte n / 8
abbrev pub weighted : ℕ → Bool → ℕ
weighted weight is_there = if is_there then weight else 0

-- the byte of eight numbers from the first one on
abbrev pub byte_from : (ℕ → Bool) → ℕ → ℕ
byte_from has n =
    weighted 1 (has n) + weighted 2 (has (n + 1)) + weighted 4 (has (n + 2)) + weighted 8 (has (n + 3))
    + weighted 16 (has (n + 4)) + weighted 32 (has (n + 5)) + weighted 64 (has (n + 6)) + weighted 128 (has (n + 7))

-- the first bytes, so many
abbrev pub first_bytes : (ℕ → Bool) → ℕ → List ℕ
first_bytes has zero = []
first_bytes has (suc place) = first_bytes has place ++ byte_from has (8 * place) ∷ []

-- ---- the answers
-- the version and its checksum, lowest byte first, in one part
abbrev pub version_answered : Option (List ℕ) → Answer
version_answered None = Refused INVALID_PLDM_TYPE
version_answered (Some version) = GetPldmVersion 0 (version ++ little_bytes 4 (crc32 version))

abbrev pub version_answer : ℕ → ℕ → List TypeVersion → Answer
version_answer transfer_operation_flag pldm_type types =
    if nat_lt GET_FIRST_PART transfer_operation_flag then Refused INVALID_TRANSFER_OPERATION
    else if transfer_operation_flag == GET_NEXT_PART then Refused INVALID_DATA_TRANSFER_HANDLE
    else version_answered (version_of pldm_type types)

-- whatever version is asked about
abbrev pub commands_answer : ℕ → List TypeVersion → List TypeCommand → Answer
commands_answer pldm_type types commands =
    if has_type types pldm_type then GetPldmCommands (first_bytes (has_command commands pldm_type) COMMANDS_BYTES)
    else Refused INVALID_PLDM_TYPE

abbrev pub discovery_answer : ℕ → List TypeVersion → List TypeCommand → CommandFields → Answer
discovery_answer tid types commands f =
    if f.command == GET_TID then GetTid tid
    else if f.command == GET_PLDM_VERSION then version_answer f.transfer_operation_flag f.asked_type types
    else if f.command == GET_PLDM_TYPES then GetPldmTypes (first_bytes (has_type types) TYPES_BYTES)
    else commands_answer f.asked_type types commands
