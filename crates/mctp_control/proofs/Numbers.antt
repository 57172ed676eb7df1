-- Every constant of the source, written a second time.
use Rattle.std.proofs.Common.{◌≡◌, refl}
use Rattle.mctp_control.specs.declared.assigned.TheConstants.{BASE_SPECIFICATION, CONTROL, DATAGRAM, INSTANCE_IDS, PLDM, RQ}
use Rattle.mctp_control.specs.declared.assigned.TheConstants.{GET_ENDPOINT_ID, GET_ENDPOINT_UUID, GET_MESSAGE_TYPE_SUPPORT}
use Rattle.mctp_control.specs.declared.assigned.TheConstants.{GET_VERSION_SUPPORT, SET_ENDPOINT_ID, SUCCESS}
use Rattle.mctp_control.specs.declared.assigned.TheConstants.{MAX_DATA, MAX_MESSAGE_TYPES, MAX_VERSIONS, MAX_VERSION_BYTES}
use Rattle.mctp_control.specs.declared.assigned.TheConstants.{REQUEST_HEADER, RESPONSE_HEADER, SET_MESSAGE_BYTES, UUID_BYTES, VERSION_BYTES}
use Rattle.mctp_control.specs.declared.kept_assignments.TheConstants.{KEPT_ASSIGNMENTS}
use Rattle.mctp_control.specs.declared.packet_header.TheConstants.{ENDS_SHIFT, TAG_OWNER_SHIFT, VERSION_BITS, WHOLE_MESSAGE}

control : CONTROL ≡ 0
control = refl

pldm : PLDM ≡ 1
pldm = refl

base_specification : BASE_SPECIFICATION ≡ 255
base_specification = refl

rq : RQ ≡ 128
rq = refl

datagram : DATAGRAM ≡ 64
datagram = refl

version_bits : VERSION_BITS ≡ 15
version_bits = refl

ends_shift : ENDS_SHIFT ≡ 6
ends_shift = refl

whole_message : WHOLE_MESSAGE ≡ 3
whole_message = refl

tag_owner_shift : TAG_OWNER_SHIFT ≡ 3
tag_owner_shift = refl

instance_ids : INSTANCE_IDS ≡ 32
instance_ids = refl

request_header : REQUEST_HEADER ≡ 3
request_header = refl

response_header : RESPONSE_HEADER ≡ 4
response_header = refl

bytes_of_data : MAX_DATA ≡ 60
bytes_of_data = refl

set_endpoint_id : SET_ENDPOINT_ID ≡ 1
set_endpoint_id = refl

get_endpoint_id : GET_ENDPOINT_ID ≡ 2
get_endpoint_id = refl

get_endpoint_uuid : GET_ENDPOINT_UUID ≡ 3
get_endpoint_uuid = refl

get_version_support : GET_VERSION_SUPPORT ≡ 4
get_version_support = refl

get_message_type_support : GET_MESSAGE_TYPE_SUPPORT ≡ 5
get_message_type_support = refl

success : SUCCESS ≡ 0
success = refl

set_message_bytes : SET_MESSAGE_BYTES ≡ 5
set_message_bytes = refl

kept_assignments : KEPT_ASSIGNMENTS ≡ 8
kept_assignments = refl

uuid_bytes : UUID_BYTES ≡ 16
uuid_bytes = refl

version_bytes : VERSION_BYTES ≡ 4
version_bytes = refl

versions : MAX_VERSIONS ≡ 14
versions = refl

bytes_of_versions : MAX_VERSION_BYTES ≡ 56
bytes_of_versions = refl

message_types : MAX_MESSAGE_TYPES ≡ 59
message_types = refl
