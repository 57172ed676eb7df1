-- Every constant of the source, written a second time.
use Rattle.std.proofs.Common.{◌≡◌, refl}
use Rattle.pldm_pdr.specs.declared.limits.TheConstants.{RECORD_HEADER, MAX_RECORD_BYTES, MAX_DATA_BYTES, HEADER_VERSION}
use Rattle.pldm_pdr.specs.declared.limits.TheConstants.{TERMINUS_LOCATOR, NUMERIC_SENSOR, STATE_SENSOR}
use Rattle.pldm_pdr.specs.declared.limits.TheConstants.{NUMERIC_EFFECTER, STATE_EFFECTER, SENSOR_NAMES, EFFECTER_NAMES}
use Rattle.pldm_pdr.specs.declared.limits.TheConstants.{ENTITY_NAMES, MAX_NAME_BYTES, NO_SHARED_NAMES, MAX_STATE_BYTES}
use Rattle.pldm_pdr.specs.declared.limits.TheConstants.{MCTP_EID, EID_BYTES}

header_bytes : RECORD_HEADER ≡ 10
header_bytes = refl

most_record_bytes : MAX_RECORD_BYTES ≡ 305
most_record_bytes = refl

most_data_bytes : MAX_DATA_BYTES ≡ 295
most_data_bytes = refl

header_version : HEADER_VERSION ≡ 1
header_version = refl

terminus_locator : TERMINUS_LOCATOR ≡ 1
terminus_locator = refl

numeric_sensor : NUMERIC_SENSOR ≡ 2
numeric_sensor = refl

state_sensor : STATE_SENSOR ≡ 4
state_sensor = refl

numeric_effecter : NUMERIC_EFFECTER ≡ 9
numeric_effecter = refl

state_effecter : STATE_EFFECTER ≡ 11
state_effecter = refl

sensor_names : SENSOR_NAMES ≡ 6
sensor_names = refl

effecter_names : EFFECTER_NAMES ≡ 13
effecter_names = refl

entity_names : ENTITY_NAMES ≡ 16
entity_names = refl

most_name_bytes : MAX_NAME_BYTES ≡ 288
most_name_bytes = refl

no_shared_names : NO_SHARED_NAMES ≡ 0
no_shared_names = refl

most_state_bytes : MAX_STATE_BYTES ≡ 32
most_state_bytes = refl

locator_type : MCTP_EID ≡ 1
locator_type = refl

locator_bytes : EID_BYTES ≡ 1
locator_bytes = refl
