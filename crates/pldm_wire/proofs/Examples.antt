-- The definitions computed on messages: what each of these bytes is read as, and what is written.
use Rattle.std.proofs.Common.{◌≡◌, ℕ, pos, negsuc, List, [], ◌∷◌, ◌++◌, codes, replicate, Some, None, Ok, Err, refl}
use Rattle.mctp_packet.specs.declared.reason.Reason.TheVariants.{NotPldm, Integrity, ShortHeader, BadPldmHeader, NotRequest, Datagram, NotResponse}
use Rattle.pldm_wire.specs.Kinds.{of_type}
use Rattle.pldm_wire.specs.Requests.{request, request_of}
use Rattle.pldm_wire.specs.Responses.{response, response_of}
use Rattle.pldm_wire.specs.Numbers.{sized}
use Rattle.pldm_wire.specs.EffecterNumbers.{two_numbers}
use Rattle.pldm_wire.specs.RecordParts.{part}
use Rattle.pldm_wire.specs.Commands.{command_data, command_message}
use Rattle.pldm_wire.specs.CommandReading.{command_of}
use Rattle.pldm_wire.specs.CommandNames.{name_of_kind}
use Rattle.pldm_wire.specs.Answers.{answer_message}
use Rattle.pldm_wire.specs.AnswerReading.{success_of, answer_of}
use Rattle.pldm_wire.specs.Crc.{divisor, times_divisor, crc}
use Rattle.pldm_wire.specs.declared.size.Size.TheVariants.{Uint8, Sint16, Sint32}
use Rattle.pldm_wire.specs.declared.state_fields.SetStateField.{SetStateField}
use Rattle.pldm_wire.specs.declared.transfer_flag.TransferFlag.TheVariants.{End}
use Rattle.pldm_wire.specs.declared.answer_reading.AnswerFault.TheVariants.{OtherCommand, Length, Value}
use Rattle.pldm_wire.specs.declared.command.Command.TheVariants as commands
use Rattle.pldm_wire.specs.declared.answer.Answer.TheVariants as answers

-- a field of SetStateEffecterStates
abbrev field : ℕ → ℕ → SetStateField
field set_request state = record { set_request = set_request; state = state }

-- headers

get_tid_request : request_of (0x01 ∷ 0x80 ∷ 0x00 ∷ 0x02 ∷ []) ≡ Ok (request 0 (of_type 0 2) [])
unfolding request_of
get_tid_request = refl

set_tid_request : request_of (0x01 ∷ 0x81 ∷ 0x00 ∷ 0x01 ∷ 0x05 ∷ []) ≡ Ok (request 1 (of_type 0 1) (5 ∷ []))
unfolding request_of
set_tid_request = refl

reserved_bit_ignored : request_of (0x01 ∷ 0xa0 ∷ 0x00 ∷ 0x02 ∷ []) ≡ Ok (request 0 (of_type 0 2) [])
unfolding request_of
reserved_bit_ignored = refl

greatest_fields : request_of (0x01 ∷ 0x9f ∷ 0x3f ∷ 0xff ∷ []) ≡ Ok (request 31 (of_type 63 255) [])
unfolding request_of
greatest_fields = refl

no_byte : request_of [] ≡ Err ShortHeader
unfolding request_of
no_byte = refl

other_message_type : request_of (0x02 ∷ 0x80 ∷ 0x00 ∷ 0x02 ∷ []) ≡ Err NotPldm
unfolding request_of
other_message_type = refl

integrity_bit : request_of (0x81 ∷ 0x80 ∷ 0x00 ∷ 0x02 ∷ []) ≡ Err Integrity
unfolding request_of
integrity_bit = refl

two_bytes : request_of (0x01 ∷ 0x80 ∷ []) ≡ Err ShortHeader
unfolding request_of
two_bytes = refl

header_version : request_of (0x01 ∷ 0x80 ∷ 0x40 ∷ 0x02 ∷ []) ≡ Err BadPldmHeader
unfolding request_of
header_version = refl

a_response : request_of (0x01 ∷ 0x00 ∷ 0x00 ∷ 0x02 ∷ []) ≡ Err NotRequest
unfolding request_of
a_response = refl

a_datagram : request_of (0x01 ∷ 0xc0 ∷ 0x00 ∷ 0x02 ∷ []) ≡ Err Datagram
unfolding request_of
a_datagram = refl

-- commands and the codes of their refusals

get_tid : command_of (of_type 0 2) [] ≡ Ok commands.GetTid
unfolding command_of
get_tid = refl

set_tid : command_of (of_type 0 1) (5 ∷ []) ≡ Ok (commands.SetTid 5)
unfolding command_of
set_tid = refl

type_five : command_of (of_type 5 2) [] ≡ Err 0x20
unfolding command_of
type_five = refl

command_sixteen : command_of (of_type 0 0x10) [] ≡ Err 0x05
unfolding command_of
command_sixteen = refl

get_tid_with_data : command_of (of_type 0 2) (0 ∷ []) ≡ Err 0x03
unfolding command_of
get_tid_with_data = refl

-- answers

tid_answered : answer_message 0 (of_type 0 2) (answers.GetTid 1) ≡ 0x01 ∷ 0x00 ∷ 0x00 ∷ 0x02 ∷ 0x00 ∷ 0x01 ∷ []
tid_answered = refl

tid_taken : answer_message 1 (of_type 0 1) answers.SetTid ≡ 0x01 ∷ 0x01 ∷ 0x00 ∷ 0x01 ∷ 0x00 ∷ []
tid_taken = refl

type_five_refused : answer_message 0 (of_type 5 2) (answers.Refused 0x20) ≡ 0x01 ∷ 0x00 ∷ 0x05 ∷ 0x02 ∷ 0x20 ∷ []
type_five_refused = refl

-- commands whose data states its length

number_too_short : command_of (of_type 2 0x31) (1 ∷ 0 ∷ 6 ∷ []) ≡ Err 0x03
unfolding command_of
number_too_short = refl

number_of_no_size : command_of (of_type 2 0x31) (1 ∷ 0 ∷ 6 ∷ 0x28 ∷ []) ≡ Err 0x02
unfolding command_of
number_of_no_size = refl

number_of_two_bytes_in_one : command_of (of_type 2 0x31) (1 ∷ 0 ∷ 2 ∷ 0x28 ∷ []) ≡ Err 0x03
unfolding command_of
number_of_two_bytes_in_one = refl

number_minus_two : command_of (of_type 2 0x31) (1 ∷ 0 ∷ 3 ∷ 0xfe ∷ 0xff ∷ []) ≡ Ok (commands.SetNumericEffecterValue 1 (sized Sint16 (negsuc 1)))
unfolding command_of
number_minus_two = refl

minus_two_written : command_message 1 (commands.SetNumericEffecterValue 1 (sized Sint16 (negsuc 1))) ≡ 0x01 ∷ 0x81 ∷ 0x02 ∷ 0x31 ∷ 0x01 ∷ 0x00 ∷ 0x03 ∷ 0xfe ∷ 0xff ∷ []
minus_two_written = refl

least_word_written : command_message 1 (commands.SetNumericEffecterValue 1 (sized Sint32 (negsuc 2147483647))) ≡ 0x01 ∷ 0x81 ∷ 0x02 ∷ 0x31 ∷ 0x01 ∷ 0x00 ∷ 0x05 ∷ 0x00 ∷ 0x00 ∷ 0x00 ∷ 0x80 ∷ []
least_word_written = refl

no_field : command_of (of_type 2 0x39) (2 ∷ 0 ∷ 0 ∷ []) ≡ Err 0x02
unfolding command_of
no_field = refl

field_too_few : command_of (of_type 2 0x39) (2 ∷ 0 ∷ 2 ∷ 1 ∷ []) ≡ Err 0x03
unfolding command_of
field_too_few = refl

byte_too_many : command_of (of_type 2 0x39) (2 ∷ 0 ∷ 1 ∷ 1 ∷ 2 ∷ 3 ∷ []) ≡ Err 0x03
unfolding command_of
byte_too_many = refl

two_fields : command_of (of_type 2 0x39) (2 ∷ 0 ∷ 2 ∷ 1 ∷ 2 ∷ 1 ∷ 3 ∷ []) ≡ Ok (commands.SetStateEffecterStates 2 (field 1 2 ∷ field 1 3 ∷ []))
unfolding command_of
two_fields = refl

two_fields_of_eight : command_of (of_type 2 0x39) (2 ∷ 0 ∷ 2 ∷ 1 ∷ 2 ∷ 0 ∷ 9 ∷ 5 ∷ 5 ∷ 5 ∷ 5 ∷ 5 ∷ 5 ∷ 5 ∷ 5 ∷ 5 ∷ 5 ∷ 5 ∷ 5 ∷ []) ≡ Ok (commands.SetStateEffecterStates 2 (field 1 2 ∷ field 0 9 ∷ []))
unfolding command_of
two_fields_of_eight = refl

reserved_byte_ignored : command_of (of_type 2 0x21) (3 ∷ 0 ∷ 0xff ∷ 0x55 ∷ []) ≡ Ok (commands.GetStateSensorReadings 3 0xff)
unfolding command_of
reserved_byte_ignored = refl

reserved_byte_written : command_data (commands.GetStateSensorReadings 3 0xff) ≡ 3 ∷ 0 ∷ 0xff ∷ 0 ∷ []
reserved_byte_written = refl

-- responses and the answers that they are

a_request : response_of (0x01 ∷ 0x80 ∷ 0x00 ∷ 0x02 ∷ 0x00 ∷ 0x01 ∷ []) ≡ Err NotResponse
unfolding response_of
a_request = refl

no_completion_code : response_of (0x01 ∷ 0x00 ∷ 0x00 ∷ 0x02 ∷ []) ≡ Err ShortHeader
unfolding response_of
no_completion_code = refl

answering_datagram : response_of (0x01 ∷ 0x40 ∷ 0x00 ∷ 0x02 ∷ 0x00 ∷ 0x01 ∷ []) ≡ Err Datagram
unfolding response_of
answering_datagram = refl

tid_response : response_of (0x01 ∷ 0x05 ∷ 0x00 ∷ 0x02 ∷ 0x00 ∷ 0x01 ∷ []) ≡ Ok (response 5 (of_type 0 2) 0 (1 ∷ []))
unfolding response_of
tid_response = refl

of_another_command : answer_of (of_type 0 2) (of_type 0 1) 0 (1 ∷ []) ≡ Err OtherCommand
unfolding success_of
of_another_command = refl

tid_missing : answer_of (of_type 0 2) (of_type 0 2) 0 [] ≡ Err Length
unfolding success_of
tid_missing = refl

tid_with_more : answer_of (of_type 0 2) (of_type 0 2) 0 (1 ∷ 0xff ∷ []) ≡ Err Length
unfolding success_of
tid_with_more = refl

refused_with_data : answer_of (of_type 0 2) (of_type 0 2) 3 (0xff ∷ []) ≡ Ok (answers.Refused 3)
unfolding success_of
refused_with_data = refl

reading_of_no_size : answer_of (of_type 2 0x11) (of_type 2 0x11) 0 (6 ∷ 0 ∷ 0 ∷ 1 ∷ 1 ∷ 1 ∷ 0x28 ∷ []) ≡ Err Value
unfolding success_of
reading_of_no_size = refl

reading_too_short : answer_of (of_type 2 0x11) (of_type 2 0x11) 0 (2 ∷ 0 ∷ 0 ∷ 1 ∷ 1 ∷ 1 ∷ 0x28 ∷ []) ≡ Err Length
unfolding success_of
reading_too_short = refl

part_of_no_flag : answer_of (of_type 2 0x51) (of_type 2 0x51) 0 (0 ∷ 0 ∷ 0 ∷ 0 ∷ 0 ∷ 0 ∷ 0 ∷ 0 ∷ 3 ∷ 0 ∷ 0 ∷ []) ≡ Err Value
unfolding success_of
part_of_no_flag = refl

part_too_long : answer_of (of_type 2 0x51) (of_type 2 0x51) 0 (0 ∷ 0 ∷ 0 ∷ 0 ∷ 0 ∷ 0 ∷ 0 ∷ 0 ∷ 5 ∷ 0x30 ∷ 1 ∷ []) ≡ Err Value
unfolding success_of
part_too_long = refl

part_without_its_bytes : answer_of (of_type 2 0x51) (of_type 2 0x51) 0 (0 ∷ 0 ∷ 0 ∷ 0 ∷ 0 ∷ 0 ∷ 0 ∷ 0 ∷ 5 ∷ 0xf0 ∷ 0 ∷ []) ≡ Err Length
unfolding success_of
part_without_its_bytes = refl

last_part : answer_of (of_type 2 0x51) (of_type 2 0x51) 0 (0 ∷ 0 ∷ 0 ∷ 0 ∷ 0 ∷ 0 ∷ 0 ∷ 0 ∷ 4 ∷ 1 ∷ 0 ∷ 0 ∷ 0xf5 ∷ []) ≡ Ok (answers.GetPdr 0 0 (part End (0 ∷ []) (Some 0xf5)))
unfolding success_of
last_part = refl

values_answered : answer_message 3 (of_type 2 0x32) (answers.GetNumericEffecterValue 1 (two_numbers (sized Uint8 (pos 40)) (sized Uint8 (pos 40)))) ≡ 0x01 ∷ 0x03 ∷ 0x02 ∷ 0x32 ∷ 0x00 ∷ 0x00 ∷ 0x01 ∷ 0x28 ∷ 0x28 ∷ []
values_answered = refl

-- names

base_command_named : name_of_kind (of_type 0 0x03) ≡ Some (codes "GetPLDMVersion")
unfolding name_of_kind
base_command_named = refl

platform_command_named : name_of_kind (of_type 2 0x3a) ≡ Some (codes "GetStateEffecterStates")
unfolding name_of_kind
platform_command_named = refl

command_of_another_type : name_of_kind (of_type 5 0x02) ≡ None
unfolding name_of_kind
command_of_another_type = refl

-- checksums

divisor_taken_once : times_divisor 1 ≡ divisor
divisor_taken_once = refl

no_bytes_checksum : crc [] ≡ 0
unfolding crc
no_bytes_checksum = refl

digits_checksum : crc (0x31 ∷ 0x32 ∷ 0x33 ∷ 0x34 ∷ 0x35 ∷ 0x36 ∷ 0x37 ∷ 0x38 ∷ 0x39 ∷ []) ≡ 0xf4
unfolding crc
digits_checksum = refl

-- the first bytes of a record
abbrev header : List ℕ
header = 0x01 ∷ 0x00 ∷ 0x00 ∷ 0x00 ∷ 0x01 ∷ 0x01 ∷ 0x00 ∷ 0x00 ∷ 0x22 ∷ 0x01 ∷ []

header_checksum : crc header ≡ 0xa0
unfolding crc
header_checksum = refl

record_checksum : crc (header ++ replicate 290 0) ≡ 0xf5
unfolding crc
record_checksum = refl
