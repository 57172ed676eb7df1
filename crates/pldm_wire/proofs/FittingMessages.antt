-- A command's message fits one packet, and an answer's fits a message.
use Rattle.std.proofs.Common.{◌≡◌, ℕ, ◌+◌, ◌≤◌, ◌%◌, ◌==◌, ◌&&◌, nat_le, true, List, length, Option, Some, None, length-append, arith, leb-true}
use Rattle.std.proofs.lemmas.Bool.{and_parts}
use Rattle.std.specs.Int.{w64}
use Rattle.byteorder.specs.Endian.{little_bytes, low_bytes}
use Rattle.byteorder.specs.Numbers.{length-bytes_low_first}
use Rattle.mctp_packet.specs.declared.TheConstants.{MAX_MESSAGE_BYTES}
use Rattle.pldm_wire.specs.CommandTable.{is_count}
use Rattle.pldm_wire.specs.Sizes.{width}
use Rattle.pldm_wire.specs.Versions.{is_version_data}
use Rattle.pldm_wire.specs.declared.limits.TheConstants.{MAX_STATES, MAX_PART_BYTES, MIN_VERSION_BYTES, MAX_VERSION_BYTES, VERSION_BYTES}
use Rattle.pldm_wire.specs.Numbers.{SizedNumber, number_bytes, sized}
use Rattle.pldm_wire.specs.RecordParts.{checksum_bytes}
use Rattle.pldm_wire.specs.Commands.{IsCommand, command_data}
use Rattle.pldm_wire.specs.Answers.{IsAnswer, answer_data}
use Rattle.pldm_wire.specs.MessageSizes.{CommandFitsOnePacket, CommandIsShort, AnswerFitsMessage}
use Rattle.pldm_wire.specs.declared.size.Size.{Size}
use Rattle.pldm_wire.specs.declared.size.Size.TheVariants.{Uint8, Sint8, Uint16, Sint16, Uint32, Sint32}
use Rattle.pldm_wire.specs.declared.command.Command.{Command}
use Rattle.pldm_wire.specs.declared.command.Command.TheVariants.{SetTid, GetTid, GetPldmVersion, GetPldmTypes, GetPldmCommands, GetSensorReading, GetStateSensorReadings, SetNumericEffecterValue, GetNumericEffecterValue, SetStateEffecterStates, GetStateEffecterStates, GetPdrRepositoryInfo, GetPdr}
use Rattle.pldm_wire.specs.declared.answer.Answer.{Answer}
use Rattle.pldm_wire.specs.declared.answer.Answer.TheVariants as answers
use Rattle.pldm_wire.proofs.FieldLists.{length-sets_bytes, length-sensor_states_bytes, length-effecter_states_bytes}

little : (n x : ℕ) → length (little_bytes n x) ≡ n
little n x = length-bytes_low_first 0 n x

small_width : (size : Size) → width size ≤ 4
small_width Uint8 = omega arith
small_width Sint8 = omega arith
small_width Uint16 = omega arith
small_width Sint16 = omega arith
small_width Uint32 = omega arith
small_width Sint32 = omega arith

small_number : (number : SizedNumber) → length (number_bytes number) ≤ 4
small_number number = omega (arith, little (width number.size) (low_bytes w64 (width number.size) number.value), small_width number.size)

small_checksum : (checksum : Option ℕ) → length (checksum_bytes checksum) ≤ 1
small_checksum None = omega arith
small_checksum (Some checksum) = omega arith

-- the most fields that a count counts, and the most bytes of versions
few_fields : (count : ℕ) → is_count count ≡ true → count ≤ MAX_STATES
few_fields count h = leb-true count MAX_STATES (and_parts (nat_le 1 count) (nat_le count MAX_STATES) h).1

few_versions : (versions : List ℕ) → is_version_data versions ≡ true → length versions ≤ MAX_VERSION_BYTES
few_versions versions h =
    let bounds = (and_parts (nat_le MIN_VERSION_BYTES (length versions) && nat_le (length versions) MAX_VERSION_BYTES) (length versions % VERSION_BYTES == 0) h).0 in
    leb-true (length versions) MAX_VERSION_BYTES (and_parts (nat_le MIN_VERSION_BYTES (length versions)) (nat_le (length versions) MAX_VERSION_BYTES) bounds).1

-- a command's data has at most 19 bytes
short_command : (command : Command) → IsCommand command → length (command_data command) ≤ 19
short_command (SetTid tid) h = omega arith
short_command GetTid h = omega arith
short_command (GetPldmVersion handle flag pldm_type) h = simp length-append (omega (arith, little 4 handle))
short_command GetPldmTypes h = omega arith
short_command (GetPldmCommands pldm_type version) h = simp length-append (omega (arith, h.1.0))
short_command (GetSensorReading sensor rearm) h = simp length-append (omega (arith, little 2 sensor))
short_command (GetStateSensorReadings sensor rearm) h = simp length-append (omega (arith, little 2 sensor))
short_command (SetNumericEffecterValue effecter value) h = simp length-append (omega (arith, little 2 effecter, small_number value))
short_command (GetNumericEffecterValue effecter) h = omega (arith, little 2 effecter)
short_command (SetStateEffecterStates effecter fields) h =
    simp length-append (omega (arith, little 2 effecter, length-sets_bytes fields, few_fields (length fields) h.1.0.1))
short_command (GetStateEffecterStates effecter) h = omega (arith, little 2 effecter)
short_command GetPdrRepositoryInfo h = omega arith
short_command (GetPdr record_handle handle flag count change) h =
    simp length-append (omega (arith, little 4 record_handle, little 4 handle, little 2 count, little 2 change))

pub command_fits : CommandFitsOnePacket
command_fits id command h = (omega arith, omega (arith, short_command command h))

pub command_is_short : CommandIsShort
command_is_short id command h = omega (arith, short_command command h)

-- an answer's data is short enough
short_answer : (answer : Answer) → IsAnswer answer → 5 + length (answer_data answer) ≤ MAX_MESSAGE_BYTES
short_answer (answers.Refused code) h = omega arith
short_answer answers.SetTid h = omega arith
short_answer (answers.GetTid tid) h = omega arith
short_answer (answers.GetPldmVersion handle versions) h =
    simp length-append (omega (arith, little 4 handle, few_versions versions h.1.1.1))
short_answer (answers.GetPldmTypes types) h = simp length-append (omega (arith, h.1.0))
short_answer (answers.GetPldmCommands commands) h = simp length-append (omega (arith, h.1.0))
short_answer (answers.GetSensorReading operational enable present previous event reading) h = simp length-append (omega (arith, small_number reading))
short_answer (answers.GetStateSensorReadings fields) h =
    simp length-append (omega (arith, length-sensor_states_bytes fields, few_fields (length fields) h.1.0.1))
short_answer answers.SetNumericEffecterValue h = omega arith
short_answer (answers.GetNumericEffecterValue operational values) h =
    simp length-append (omega (arith, small_number (sized values.pending.size values.pending.value), small_number (sized values.pending.size values.present.value)))
short_answer answers.SetStateEffecterStates h = omega arith
short_answer (answers.GetStateEffecterStates fields) h =
    simp length-append (omega (arith, length-effecter_states_bytes fields, few_fields (length fields) h.1.0.1))
short_answer (answers.GetPdrRepositoryInfo state update oem count size largest timeout) h =
    simp length-append (omega (arith, little 4 count, little 4 size, little 4 largest, h.1.1.0, h.1.1.1.0))
short_answer (answers.GetPdr record_handle handle part) h =
    simp length-append (omega (arith, little 4 record_handle, little 4 handle, little 2 (length part.bytes), small_checksum part.transfer_crc, leb-true (length part.bytes) MAX_PART_BYTES h.1.1.1.1.0.1))

pub answer_fits : AnswerFitsMessage
answer_fits id kind answer h = (omega arith, omega (arith, short_answer answer h))
