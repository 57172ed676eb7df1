-- Every constant of the source, a second time (DSP0245, DSP0267; times and attempts are this profile's own).
use Rattle.std.proofs.Common.{◌≡◌, refl}
use Rattle.pldm_update.specs.declared.assigned.TheConstants.{FIRMWARE_UPDATE, QUERY_DEVICE_IDENTIFIERS, GET_FIRMWARE_PARAMETERS, REQUEST_UPDATE, PASS_COMPONENT_TABLE}
use Rattle.pldm_update.specs.declared.assigned.TheConstants.{UPDATE_COMPONENT, REQUEST_FIRMWARE_DATA, TRANSFER_COMPLETE, VERIFY_COMPLETE, APPLY_COMPLETE}
use Rattle.pldm_update.specs.declared.assigned.TheConstants.{ACTIVATE_FIRMWARE, GET_STATUS, CANCEL_UPDATE_COMPONENT, CANCEL_UPDATE, MIN_TRANSFER_BYTES}
use Rattle.pldm_update.specs.declared.assigned.TheConstants.{NOT_IN_UPDATE_MODE, ALREADY_IN_UPDATE_MODE, DATA_OUT_OF_RANGE, INVALID_TRANSFER_LENGTH, INVALID_STATE_FOR_COMMAND}
use Rattle.pldm_update.specs.declared.assigned.TheConstants.{INCOMPLETE_UPDATE, BUSY_IN_BACKGROUND, CANCEL_PENDING, COMMAND_NOT_EXPECTED, RETRY_REQUEST_FW_DATA}
use Rattle.pldm_update.specs.declared.assigned.TheConstants.{UNABLE_TO_INITIATE_UPDATE, ACTIVATION_NOT_REQUIRED, SELF_CONTAINED_ACTIVATION_NOT_PERMITTED}
use Rattle.pldm_update.specs.declared.times.TheConstants.{MAX_ATTEMPTS, RETRY_TIME, IDLE_TIME, SILENCE}
use Rattle.pldm_update.specs.declared.firmware_device.TheConstants.{PIECE_BYTES}
use Rattle.pldm_update.specs.declared.receiving.TheConstants.{NO_PROGRESS}
use Rattle.pldm_update.specs.declared.limits.TheConstants.{MAX_TEXT_BYTES, RELEASE_BYTES}
use Rattle.pldm_update.specs.declared.limits.TheConstants.{MAX_PIECE_BYTES, MAX_UPDATE_DATA}

-- numbers that are assigned

firmware_update : FIRMWARE_UPDATE ≡ 5
firmware_update = refl

query_device_identifiers : QUERY_DEVICE_IDENTIFIERS ≡ 1
query_device_identifiers = refl

get_firmware_parameters : GET_FIRMWARE_PARAMETERS ≡ 2
get_firmware_parameters = refl

request_update : REQUEST_UPDATE ≡ 16
request_update = refl

pass_component_table : PASS_COMPONENT_TABLE ≡ 19
pass_component_table = refl

update_component : UPDATE_COMPONENT ≡ 20
update_component = refl

request_firmware_data : REQUEST_FIRMWARE_DATA ≡ 21
request_firmware_data = refl

transfer_complete : TRANSFER_COMPLETE ≡ 22
transfer_complete = refl

verify_complete : VERIFY_COMPLETE ≡ 23
verify_complete = refl

apply_complete : APPLY_COMPLETE ≡ 24
apply_complete = refl

activate_firmware : ACTIVATE_FIRMWARE ≡ 26
activate_firmware = refl

get_status : GET_STATUS ≡ 27
get_status = refl

cancel_update_component : CANCEL_UPDATE_COMPONENT ≡ 28
cancel_update_component = refl

cancel_update : CANCEL_UPDATE ≡ 29
cancel_update = refl

min_transfer_bytes : MIN_TRANSFER_BYTES ≡ 32
min_transfer_bytes = refl

not_in_update_mode : NOT_IN_UPDATE_MODE ≡ 128
not_in_update_mode = refl

already_in_update_mode : ALREADY_IN_UPDATE_MODE ≡ 129
already_in_update_mode = refl

data_out_of_range : DATA_OUT_OF_RANGE ≡ 130
data_out_of_range = refl

invalid_transfer_length : INVALID_TRANSFER_LENGTH ≡ 131
invalid_transfer_length = refl

invalid_state_for_command : INVALID_STATE_FOR_COMMAND ≡ 132
invalid_state_for_command = refl

incomplete_update : INCOMPLETE_UPDATE ≡ 133
incomplete_update = refl

busy_in_background : BUSY_IN_BACKGROUND ≡ 134
busy_in_background = refl

cancel_pending : CANCEL_PENDING ≡ 135
cancel_pending = refl

command_not_expected : COMMAND_NOT_EXPECTED ≡ 136
command_not_expected = refl

retry_request_fw_data : RETRY_REQUEST_FW_DATA ≡ 137
retry_request_fw_data = refl

unable_to_initiate_update : UNABLE_TO_INITIATE_UPDATE ≡ 138
unable_to_initiate_update = refl

activation_not_required : ACTIVATION_NOT_REQUIRED ≡ 139
activation_not_required = refl

self_contained_activation_not_permitted : SELF_CONTAINED_ACTIVATION_NOT_PERMITTED ≡ 140
self_contained_activation_not_permitted = refl

-- milliseconds, and how often is tried

max_attempts : MAX_ATTEMPTS ≡ 10
max_attempts = refl

retry_time : RETRY_TIME ≡ 1000
retry_time = refl

idle_time : IDLE_TIME ≡ 90000
idle_time = refl

silence : SILENCE ≡ 60000
silence = refl

-- bytes

piece_bytes : PIECE_BYTES ≡ 256
piece_bytes = refl

-- percent

no_progress : NO_PROGRESS ≡ 101
no_progress = refl

-- bytes

max_text_bytes : MAX_TEXT_BYTES ≡ 255
max_text_bytes = refl

release_bytes : RELEASE_BYTES ≡ 8
release_bytes = refl

max_piece_bytes : MAX_PIECE_BYTES ≡ 315
max_piece_bytes = refl

max_update_data : MAX_UPDATE_DATA ≡ 315
max_update_data = refl
