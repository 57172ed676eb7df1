-- Every constant of the source, a second time.
use Rattle.std.proofs.Common.{◌≡◌, refl}
use Rattle.pldm_responder.specs.declared.answering_end.TheConstants.{OTHER_ENDPOINTS, MAX_KEPT, MAX_PENDING}
use Rattle.pldm_responder.specs.declared.order.TheConstants.{SLOTS, END, PLACES}
use Rattle.pldm_responder.specs.declared.slots.TheConstants.{MAX_BYTES, SLOT_BYTES}
use Rattle.pldm_responder.specs.declared.slot_table.TheConstants.{IDS, NO_SLOT}

other_endpoints : OTHER_ENDPOINTS ≡ 246
other_endpoints = refl

bytes_of_a_slot : SLOT_BYTES ≡ 34
bytes_of_a_slot = refl

kept_answers : MAX_KEPT ≡ 7872
kept_answers = refl

open_messages : MAX_PENDING ≡ 1968
open_messages = refl

two_messages : MAX_BYTES ≡ 640
two_messages = refl

instance_ids : IDS ≡ 32
instance_ids = refl

no_slot : NO_SLOT ≡ 32
no_slot = refl

slots : SLOTS ≡ 32
slots = refl

end : END ≡ 32
end = refl

places : PLACES ≡ 33
places = refl
