-- Every constant of the source, written a second time.
use Rattle.std.proofs.Common.{◌≡◌, refl}
use Rattle.pldm_platform.specs.declared.refusals.TheConstants.{INVALID_SENSOR_ID, INVALID_EFFECTER_ID}
use Rattle.pldm_platform.specs.declared.refusals.TheConstants.{INVALID_STATE_VALUE}
use Rattle.pldm_platform.specs.declared.refusals.TheConstants.{INVALID_DATA_TRANSFER_HANDLE}
use Rattle.pldm_platform.specs.declared.refusals.TheConstants.{INVALID_TRANSFER_OPERATION}
use Rattle.pldm_platform.specs.declared.refusals.TheConstants.{INVALID_RECORD_HANDLE, INVALID_PLDM_TYPE}

invalid_sensor_id : INVALID_SENSOR_ID ≡ 0x80
invalid_sensor_id = refl

invalid_effecter_id : INVALID_EFFECTER_ID ≡ 0x80
invalid_effecter_id = refl

invalid_state_value : INVALID_STATE_VALUE ≡ 0x81
invalid_state_value = refl

invalid_data_transfer_handle : INVALID_DATA_TRANSFER_HANDLE ≡ 0x80
invalid_data_transfer_handle = refl

invalid_transfer_operation : INVALID_TRANSFER_OPERATION ≡ 0x81
invalid_transfer_operation = refl

invalid_record_handle : INVALID_RECORD_HANDLE ≡ 0x82
invalid_record_handle = refl

invalid_pldm_type : INVALID_PLDM_TYPE ≡ 0x83
invalid_pldm_type = refl
