-- Every constant of the source, written a second time.
use Rattle.std.proofs.Common.{◌≡◌, refl}
use Rattle.mctp_schedule.specs.declared.askers.TheConstants.{MAX_REQUEST_PACKET_BYTES}
use Rattle.mctp_schedule.specs.declared.stored_message.TheConstants.{MAX_SHORT}

bytes_of_the_longest_packet_of_a_request : MAX_REQUEST_PACKET_BYTES ≡ 27
bytes_of_the_longest_packet_of_a_request = refl

bytes_of_a_short_message : MAX_SHORT ≡ 15
bytes_of_a_short_message = refl
