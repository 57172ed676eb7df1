-- What an endpoint answers to a bus owner, computed from the definitions: one of endpoint ID 9, or with none, asked by
-- endpoint 8.
use Rattle.std.proofs.Common.{◌≡◌, ℕ, List, [], ◌∷◌, Option, Some, None, false, true, Bool, refl}
use Rattle.mctp_packet.specs.declared.reason.Reason.TheVariants.{BadSource, NotPldm, UnknownDestination}
use Rattle.mctp_control.specs.CommandReading.{command_of}
use Rattle.mctp_control.specs.Dropped.{is_handed_on}
use Rattle.mctp_control.specs.Messages.{request_of}
use Rattle.mctp_control.specs.Histories.{TimedPacket, after, assigns, is_copy}
use Rattle.mctp_control.specs.Packets.{left_by, reply_to}
use Rattle.mctp_control.specs.declared.control_responder.ControlResponder.{ControlResponder}

abbrev uuid : List ℕ
uuid = 16 ∷ 17 ∷ 18 ∷ 19 ∷ 20 ∷ 21 ∷ 70 ∷ 23 ∷ 136 ∷ 25 ∷ 26 ∷ 27 ∷ 28 ∷ 29 ∷ 30 ∷ 31 ∷ []

-- versions 1.3.1 of the base specification and the control protocol, 1.0.0 of PLDM over MCTP; copies are known for a
-- second
abbrev set_up : Option ℕ → Option ℕ → Bool → ControlResponder
set_up eid static_eid takes_eid = record {
  eid = eid;
  static_eid = static_eid;
  takes_eid = takes_eid;
  keep = 1000;
  uuid = uuid;
  base_version = 241 ∷ 243 ∷ 241 ∷ 0 ∷ [];
  control_version = 241 ∷ 243 ∷ 241 ∷ 0 ∷ [];
  pldm_version = 241 ∷ 240 ∷ 240 ∷ 0 ∷ [];
  kept = [];
}

-- with a static endpoint ID
abbrev nine : Bool → ControlResponder
nine takes_eid = set_up (Some 9) (Some 9) takes_eid

-- to be assigned one
abbrev unassigned : ControlResponder
unassigned = set_up None None true

-- to the null endpoint ID, by the physical address
get_endpoint_id : reply_to (nine false) 0 (1 ∷ 0 ∷ 8 ∷ 200 ∷ 0 ∷ 128 ∷ 2 ∷ []) ≡ Some (1 ∷ 8 ∷ 9 ∷ 192 ∷ 0 ∷ 0 ∷ 2 ∷ 0 ∷ 9 ∷ 1 ∷ 0 ∷ [])
unfolding request_of command_of
get_endpoint_id = refl

set_own : reply_to (nine false) 0 (1 ∷ 0 ∷ 8 ∷ 201 ∷ 0 ∷ 129 ∷ 1 ∷ 0 ∷ 9 ∷ []) ≡ Some (1 ∷ 8 ∷ 9 ∷ 193 ∷ 0 ∷ 1 ∷ 1 ∷ 0 ∷ 0 ∷ 9 ∷ 0 ∷ [])
unfolding request_of command_of
set_own = refl

-- forced, and still rejected with the endpoint ID that it has
set_other : reply_to (nine false) 0 (1 ∷ 9 ∷ 8 ∷ 202 ∷ 0 ∷ 130 ∷ 1 ∷ 1 ∷ 10 ∷ []) ≡ Some (1 ∷ 8 ∷ 9 ∷ 194 ∷ 0 ∷ 2 ∷ 1 ∷ 0 ∷ 16 ∷ 9 ∷ 0 ∷ [])
unfolding request_of command_of
set_other = refl

stays : (left_by (nine false) 0 (1 ∷ 9 ∷ 8 ∷ 202 ∷ 0 ∷ 130 ∷ 1 ∷ 1 ∷ 10 ∷ [])).eid ≡ Some 9
unfolding request_of command_of
stays = refl

moves : (left_by (nine true) 0 (1 ∷ 9 ∷ 8 ∷ 202 ∷ 0 ∷ 130 ∷ 1 ∷ 1 ∷ 10 ∷ [])).eid ≡ Some 10
unfolding request_of command_of
moves = refl

set_broadcast : reply_to (nine true) 0 (1 ∷ 0 ∷ 8 ∷ 200 ∷ 0 ∷ 128 ∷ 1 ∷ 0 ∷ 255 ∷ []) ≡ Some (1 ∷ 8 ∷ 9 ∷ 192 ∷ 0 ∷ 0 ∷ 1 ∷ 2 ∷ [])
unfolding request_of command_of
set_broadcast = refl

base_versions : reply_to (nine false) 0 (1 ∷ 9 ∷ 8 ∷ 200 ∷ 0 ∷ 131 ∷ 4 ∷ 255 ∷ []) ≡ Some (1 ∷ 8 ∷ 9 ∷ 192 ∷ 0 ∷ 3 ∷ 4 ∷ 0 ∷ 1 ∷ 241 ∷ 243 ∷ 241 ∷ 0 ∷ [])
unfolding request_of command_of
base_versions = refl

vendor_versions : reply_to (nine false) 0 (1 ∷ 9 ∷ 8 ∷ 200 ∷ 0 ∷ 131 ∷ 4 ∷ 126 ∷ []) ≡ Some (1 ∷ 8 ∷ 9 ∷ 192 ∷ 0 ∷ 3 ∷ 4 ∷ 128 ∷ [])
unfolding request_of command_of
vendor_versions = refl

message_types : reply_to (nine false) 0 (1 ∷ 9 ∷ 8 ∷ 200 ∷ 0 ∷ 132 ∷ 5 ∷ []) ≡ Some (1 ∷ 8 ∷ 9 ∷ 192 ∷ 0 ∷ 4 ∷ 5 ∷ 0 ∷ 2 ∷ 0 ∷ 1 ∷ [])
unfolding request_of command_of
message_types = refl

vendor_types : reply_to (nine false) 0 (1 ∷ 9 ∷ 8 ∷ 200 ∷ 0 ∷ 133 ∷ 6 ∷ 0 ∷ []) ≡ Some (1 ∷ 8 ∷ 9 ∷ 192 ∷ 0 ∷ 5 ∷ 6 ∷ 5 ∷ [])
unfolding request_of command_of
vendor_types = refl

one_byte_too_many : reply_to (nine false) 0 (1 ∷ 9 ∷ 8 ∷ 200 ∷ 0 ∷ 134 ∷ 2 ∷ 0 ∷ []) ≡ Some (1 ∷ 8 ∷ 9 ∷ 192 ∷ 0 ∷ 6 ∷ 2 ∷ 3 ∷ [])
unfolding request_of command_of
one_byte_too_many = refl

-- from an endpoint that has no endpoint ID yet: the answer goes back to the null one
from_the_null_source : reply_to (nine false) 0 (1 ∷ 9 ∷ 0 ∷ 200 ∷ 0 ∷ 128 ∷ 2 ∷ []) ≡ Some (1 ∷ 0 ∷ 9 ∷ 192 ∷ 0 ∷ 0 ∷ 2 ∷ 0 ∷ 9 ∷ 1 ∷ 0 ∷ [])
unfolding request_of command_of
from_the_null_source = refl

-- a datagram, a response, and a packet of PLDM are not answered
datagram : reply_to (nine false) 0 (1 ∷ 9 ∷ 8 ∷ 200 ∷ 0 ∷ 192 ∷ 2 ∷ []) ≡ None
unfolding request_of command_of
datagram = refl

response : reply_to (nine false) 0 (1 ∷ 9 ∷ 8 ∷ 192 ∷ 0 ∷ 0 ∷ 2 ∷ 0 ∷ 8 ∷ 17 ∷ 0 ∷ []) ≡ None
unfolding request_of command_of
response = refl

pldm : reply_to (nine false) 0 (1 ∷ 9 ∷ 8 ∷ 200 ∷ 1 ∷ 128 ∷ 0 ∷ 2 ∷ []) ≡ None
unfolding request_of command_of
pldm = refl

-- which packets are handed on that the responder dropped

by_physical_address : is_handed_on UnknownDestination (1 ∷ 0 ∷ 8 ∷ 200 ∷ 0 ∷ 128 ∷ 2 ∷ []) ≡ true
by_physical_address = refl

to_another_endpoint : is_handed_on UnknownDestination (1 ∷ 10 ∷ 8 ∷ 200 ∷ 0 ∷ 128 ∷ 2 ∷ []) ≡ false
to_another_endpoint = refl

of_another_type : is_handed_on NotPldm (1 ∷ 9 ∷ 8 ∷ 200 ∷ 0 ∷ 128 ∷ 2 ∷ []) ≡ true
of_another_type = refl

of_no_source : is_handed_on BadSource (1 ∷ 0 ∷ 255 ∷ 200 ∷ 0 ∷ 128 ∷ 2 ∷ []) ≡ false
of_no_source = refl

of_the_null_source : is_handed_on BadSource (1 ∷ 9 ∷ 0 ∷ 200 ∷ 0 ∷ 128 ∷ 2 ∷ []) ≡ true
of_the_null_source = refl

of_a_reserved_source : is_handed_on BadSource (1 ∷ 9 ∷ 7 ∷ 200 ∷ 0 ∷ 128 ∷ 2 ∷ []) ≡ false
of_a_reserved_source = refl

of_the_own_source : is_handed_on BadSource (1 ∷ 9 ∷ 9 ∷ 200 ∷ 0 ∷ 128 ∷ 2 ∷ []) ≡ false
of_the_own_source = refl

-- ---- an endpoint that is to be assigned an endpoint ID

-- it has none yet: the answer comes from the null one, and says 0 and that it is given one
get_none : reply_to unassigned 0 (1 ∷ 0 ∷ 8 ∷ 200 ∷ 0 ∷ 128 ∷ 2 ∷ []) ≡ Some (1 ∷ 8 ∷ 0 ∷ 192 ∷ 0 ∷ 0 ∷ 2 ∷ 0 ∷ 0 ∷ 0 ∷ 0 ∷ [])
unfolding request_of command_of
get_none = refl

to_another_while_none : reply_to unassigned 0 (1 ∷ 10 ∷ 8 ∷ 200 ∷ 0 ∷ 128 ∷ 2 ∷ []) ≡ None
unfolding request_of command_of
to_another_while_none = refl

-- Set Endpoint ID to 10, and, with the next instance ID, to 11
abbrev ten : ℕ → TimedPacket
ten moment = record { moment = moment; bytes = 1 ∷ 0 ∷ 8 ∷ 200 ∷ 0 ∷ 128 ∷ 1 ∷ 0 ∷ 10 ∷ [] }

abbrev eleven : ℕ → TimedPacket
eleven moment = record { moment = moment; bytes = 1 ∷ 0 ∷ 8 ∷ 201 ∷ 0 ∷ 129 ∷ 1 ∷ 0 ∷ 11 ∷ [] }

-- it is accepted, and answered from the null endpoint ID
assigned_ten : reply_to unassigned 50 (ten 50).bytes ≡ Some (1 ∷ 8 ∷ 0 ∷ 192 ∷ 0 ∷ 0 ∷ 1 ∷ 0 ∷ 0 ∷ 10 ∷ 0 ∷ [])
unfolding request_of command_of
assigned_ten = refl

has_ten : (after unassigned (ten 50 ∷ [])).eid ≡ Some 10
unfolding request_of command_of
has_ten = refl

-- and the next one, from 10
assigned_eleven : reply_to (after unassigned (ten 50 ∷ [])) 60 (eleven 60).bytes ≡ Some (1 ∷ 8 ∷ 10 ∷ 193 ∷ 0 ∷ 1 ∷ 1 ∷ 0 ∷ 0 ∷ 11 ∷ 0 ∷ [])
unfolding request_of command_of
assigned_eleven = refl

-- a copy of the first within a second says what its answer said, and does not move it back
late_copy : reply_to (after unassigned (eleven 60 ∷ ten 50 ∷ [])) 1049 (1 ∷ 0 ∷ 8 ∷ 207 ∷ 0 ∷ 128 ∷ 1 ∷ 0 ∷ 10 ∷ []) ≡ Some (1 ∷ 8 ∷ 11 ∷ 199 ∷ 0 ∷ 0 ∷ 1 ∷ 0 ∷ 0 ∷ 10 ∷ 0 ∷ [])
unfolding request_of command_of
late_copy = refl

is_late_copy : is_copy (after unassigned (eleven 60 ∷ ten 50 ∷ [])) (ten 1049) ≡ true
unfolding request_of command_of
is_late_copy = refl

stays_eleven : (after unassigned (ten 1049 ∷ eleven 60 ∷ ten 50 ∷ [])).eid ≡ Some 11
unfolding request_of command_of
stays_eleven = refl

-- after a second it is no copy
back_to_ten : (after unassigned (ten 1050 ∷ eleven 60 ∷ ten 50 ∷ [])).eid ≡ Some 10
unfolding request_of command_of
back_to_ten = refl

assigns_again : assigns (after unassigned (eleven 60 ∷ ten 50 ∷ [])) (ten 1050) ≡ true
unfolding request_of command_of
assigns_again = refl

-- Reset is for an endpoint that has a static endpoint ID
no_static : reply_to unassigned 0 (1 ∷ 0 ∷ 8 ∷ 200 ∷ 0 ∷ 128 ∷ 1 ∷ 2 ∷ 0 ∷ []) ≡ Some (1 ∷ 8 ∷ 0 ∷ 192 ∷ 0 ∷ 0 ∷ 1 ∷ 2 ∷ [])
unfolding request_of command_of
no_static = refl

reset : reply_to (set_up (Some 10) (Some 9) true) 0 (1 ∷ 10 ∷ 8 ∷ 200 ∷ 0 ∷ 128 ∷ 1 ∷ 2 ∷ 0 ∷ []) ≡ Some (1 ∷ 8 ∷ 10 ∷ 192 ∷ 0 ∷ 0 ∷ 1 ∷ 0 ∷ 0 ∷ 9 ∷ 0 ∷ [])
unfolding request_of command_of
reset = refl

goes_back : (left_by (set_up (Some 10) (Some 9) true) 0 (1 ∷ 10 ∷ 8 ∷ 200 ∷ 0 ∷ 128 ∷ 1 ∷ 2 ∷ 0 ∷ [])).eid ≡ Some 9
unfolding request_of command_of
goes_back = refl
