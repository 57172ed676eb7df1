-- Every constant of the source, a second time: one open request for each tag, one remembered for each instance ID.
use Rattle.std.proofs.Common.{◌≡◌, refl}
use Rattle.mctp_packet.specs.declared.TheConstants.{TAGS}
use Rattle.pldm_wire.specs.declared.assigned.TheConstants.{INSTANCE_IDS}
use Rattle.pldm_requester.specs.declared.requester.TheConstants.{MAX_OPEN, MAX_REMEMBERED}
use Rattle.pldm_requester.specs.declared.timing.TheConstants.{MAX_TRIES}

open_requests : MAX_OPEN ≡ 8
open_requests = refl

one_for_each_tag : MAX_OPEN ≡ TAGS
one_for_each_tag = refl

remembered_requests : MAX_REMEMBERED ≡ 32
remembered_requests = refl

one_for_each_instance_id : MAX_REMEMBERED ≡ INSTANCE_IDS
one_for_each_instance_id = refl

most_tries : MAX_TRIES ≡ 8
most_tries = refl
