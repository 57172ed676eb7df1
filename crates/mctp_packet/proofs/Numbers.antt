-- Every constant of the source, a second time: the standard's and this profile's own numbers.
use Rattle.std.proofs.Common.{◌≡◌, refl}
use Rattle.mctp_packet.specs.declared.TheConstants.{NULL_EID, MIN_EID, MAX_EID, TAGS, MAX_MOMENT, MAX_KEEP, MAX_PACKETS, BASELINE_UNIT, SEQUENCE_NUMBERS, VERSION, HEADER, MAX_PACKET_BYTES, MAX_MESSAGE_BYTES}

null_endpoint_id : NULL_EID ≡ 0
null_endpoint_id = refl

first_endpoint_id : MIN_EID ≡ 8
first_endpoint_id = refl

last_endpoint_id : MAX_EID ≡ 254
last_endpoint_id = refl

tags : TAGS ≡ 8
tags = refl

last_moment_in_milliseconds : MAX_MOMENT ≡ 4000000000000000
last_moment_in_milliseconds = refl

longest_keep_in_milliseconds : MAX_KEEP ≡ 60000
longest_keep_in_milliseconds = refl

packets_of_a_message : MAX_PACKETS ≡ 5
packets_of_a_message = refl

payload_bytes : BASELINE_UNIT ≡ 64
payload_bytes = refl

sequence_numbers : SEQUENCE_NUMBERS ≡ 4
sequence_numbers = refl

header_version : VERSION ≡ 1
header_version = refl

header_bytes : HEADER ≡ 4
header_bytes = refl

packet_bytes : MAX_PACKET_BYTES ≡ 68
packet_bytes = refl

message_bytes : MAX_MESSAGE_BYTES ≡ 320
message_bytes = refl
