-- Every constant of the source, written a second time.
use Rattle.std.proofs.Common.{◌≡◌, ◌*◌, ◌^◌, refl}
use Rattle.pldm_device.specs.declared.limits.TheConstants.{MAX_ENTRIES, MAX_ID, MAX_BYTE}
use Rattle.pldm_device.specs.declared.limits.TheConstants.{MAX_ALLOWED, MAX_SENSOR_STATE}
use Rattle.pldm_device.specs.declared.limits.TheConstants.{UUID_BYTES, VERSION_BYTES, MAX_TID}
use Rattle.pldm_device.specs.declared.limits.TheConstants.{MAX_NAME, MAX_NUMBER, TERMINUS_HANDLE, ONE}
use Rattle.pldm_device.specs.declared.limits.TheConstants.{CHECKED_VERSION_BYTES}

most_entries : MAX_ENTRIES ≡ 1000
most_entries = refl

most_id : MAX_ID ≡ 65535
most_id = refl

most_byte : MAX_BYTE ≡ 255
most_byte = refl

most_allowed : MAX_ALLOWED ≡ 256
most_allowed = refl

most_sensor_state : MAX_SENSOR_STATE ≡ 10
most_sensor_state = refl

uuid_bytes : UUID_BYTES ≡ 16
uuid_bytes = refl

version_bytes : VERSION_BYTES ≡ 4
version_bytes = refl

most_tid : MAX_TID ≡ 254
most_tid = refl

most_characters : MAX_NAME ≡ 127
most_characters = refl

most_number : MAX_NUMBER ≡ 65535
most_number = refl

terminus_handle : TERMINUS_HANDLE ≡ 1
terminus_handle = refl

-- the exponent 127 of real32
one : ONE ≡ 127 * 2 ^ 23
one = refl

checked_version_bytes : CHECKED_VERSION_BYTES ≡ 36
checked_version_bytes = refl
