-- Every constant of the source, a second time: the standards' and this profile's own numbers.
use Rattle.std.proofs.Common.{◌≡◌, refl}
use Rattle.pldm_wire.specs.declared.assigned.TheConstants.{MESSAGE_TYPE, INSTANCE_IDS, REQUEST_HEADER, RESPONSE_HEADER, BASE, PLATFORM, SET_TID, GET_TID, GET_PLDM_VERSION, GET_PLDM_TYPES, GET_PLDM_COMMANDS, GET_SENSOR_READING, GET_STATE_SENSOR_READINGS, SET_NUMERIC_EFFECTER_VALUE, GET_NUMERIC_EFFECTER_VALUE, SET_STATE_EFFECTER_STATES, GET_STATE_EFFECTER_STATES, GET_PDR_REPOSITORY_INFO, GET_PDR, SUCCESS, ERROR, ERROR_INVALID_DATA, ERROR_INVALID_LENGTH, ERROR_NOT_READY, ERROR_UNSUPPORTED_PLDM_CMD, ERROR_INVALID_PLDM_TYPE, START_AND_END}
use Rattle.pldm_wire.specs.declared.limits.TheConstants.{MAX_STATES, MIN_VERSION_BYTES, MAX_VERSION_BYTES, VERSION_BYTES, PART_FIELDS, MAX_PART_BYTES, ALL_FIELDS_FORM, MAX_REQUEST_BYTES, MAX_REQUEST_DATA, MAX_RESPONSE_DATA, TYPES_BYTES, COMMANDS_BYTES, TIME_BYTES, GET_NEXT_PART, GET_FIRST_PART}

most_bytes_of_the_data_of_a_request : MAX_REQUEST_DATA ≡ 316
most_bytes_of_the_data_of_a_request = refl

most_bytes_of_the_data_of_a_response : MAX_RESPONSE_DATA ≡ 315
most_bytes_of_the_data_of_a_response = refl

bytes_of_the_longest_request : MAX_REQUEST_BYTES ≡ 23
bytes_of_the_longest_request = refl

message_type_of_pldm : MESSAGE_TYPE ≡ 1
message_type_of_pldm = refl

instance_ids : INSTANCE_IDS ≡ 32
instance_ids = refl

bytes_before_the_data_of_a_request : REQUEST_HEADER ≡ 4
bytes_before_the_data_of_a_request = refl

bytes_before_the_data_of_a_response : RESPONSE_HEADER ≡ 5
bytes_before_the_data_of_a_response = refl

type_of_messaging_control : BASE ≡ 0
type_of_messaging_control = refl

type_of_platform_monitoring : PLATFORM ≡ 2
type_of_platform_monitoring = refl

set_tid : SET_TID ≡ 1
set_tid = refl

get_tid : GET_TID ≡ 2
get_tid = refl

get_pldm_version : GET_PLDM_VERSION ≡ 3
get_pldm_version = refl

get_pldm_types : GET_PLDM_TYPES ≡ 4
get_pldm_types = refl

get_pldm_commands : GET_PLDM_COMMANDS ≡ 5
get_pldm_commands = refl

get_sensor_reading : GET_SENSOR_READING ≡ 0x11
get_sensor_reading = refl

get_state_sensor_readings : GET_STATE_SENSOR_READINGS ≡ 0x21
get_state_sensor_readings = refl

set_numeric_effecter_value : SET_NUMERIC_EFFECTER_VALUE ≡ 0x31
set_numeric_effecter_value = refl

get_numeric_effecter_value : GET_NUMERIC_EFFECTER_VALUE ≡ 0x32
get_numeric_effecter_value = refl

set_state_effecter_states : SET_STATE_EFFECTER_STATES ≡ 0x39
set_state_effecter_states = refl

get_state_effecter_states : GET_STATE_EFFECTER_STATES ≡ 0x3a
get_state_effecter_states = refl

get_pdr_repository_info : GET_PDR_REPOSITORY_INFO ≡ 0x50
get_pdr_repository_info = refl

get_pdr : GET_PDR ≡ 0x51
get_pdr = refl

success : SUCCESS ≡ 0
success = refl

error : ERROR ≡ 1
error = refl

error_invalid_data : ERROR_INVALID_DATA ≡ 2
error_invalid_data = refl

error_invalid_length : ERROR_INVALID_LENGTH ≡ 3
error_invalid_length = refl

error_not_ready : ERROR_NOT_READY ≡ 4
error_not_ready = refl

error_unsupported_pldm_cmd : ERROR_UNSUPPORTED_PLDM_CMD ≡ 5
error_unsupported_pldm_cmd = refl

error_invalid_pldm_type : ERROR_INVALID_PLDM_TYPE ≡ 0x20
error_invalid_pldm_type = refl

start_and_end : START_AND_END ≡ 5
start_and_end = refl

most_fields_of_a_composite : MAX_STATES ≡ 8
most_fields_of_a_composite = refl

least_version_bytes : MIN_VERSION_BYTES ≡ 4
least_version_bytes = refl

most_version_bytes : MAX_VERSION_BYTES ≡ 32
most_version_bytes = refl

bytes_of_a_version : VERSION_BYTES ≡ 4
bytes_of_a_version = refl

bytes_of_a_part_that_are_not_the_records : PART_FIELDS ≡ 12
bytes_of_a_part_that_are_not_the_records = refl

most_bytes_of_a_part : MAX_PART_BYTES ≡ 303
most_bytes_of_a_part = refl

bytes_of_the_form_of_all_fields : ALL_FIELDS_FORM ≡ 19
bytes_of_the_form_of_all_fields = refl

bytes_of_types : TYPES_BYTES ≡ 8
bytes_of_types = refl

bytes_of_commands : COMMANDS_BYTES ≡ 32
bytes_of_commands = refl

bytes_of_a_time : TIME_BYTES ≡ 13
bytes_of_a_time = refl

get_next_part : GET_NEXT_PART ≡ 0
get_next_part = refl

get_first_part : GET_FIRST_PART ≡ 1
get_first_part = refl
