-- What one packet brings a responder, by what assembly gives for it: a drop, a part of a message, or a whole message.
use Rattle.std.specs.Prelude.{ℕ, Bool, false, List, Result, Ok, Err}
use Rattle.mctp_packet.specs.Packets.{Packet}
use Rattle.mctp_packet.specs.Pieces.{written_packets}
use Rattle.mctp_packet.specs.Passing.{passed, passing}
use Rattle.mctp_packet.specs.declared.packet.Route.{Route}
use Rattle.mctp_packet.specs.declared.reason.Reason.{Reason}
use Rattle.mctp_assembly.specs.declared.fed.Fed.{Fed}
use Rattle.mctp_assembly.specs.declared.fed.Fed.TheVariants as fed
use Rattle.pldm_wire.specs.Requests.{Request, request_of}
use Rattle.pldm_responder.specs.Events.{Message}

pub data Arrival : Type 0 where
  Drop : Reason → Arrival
  Part : Arrival
  Whole : Message → Arrival

-- the message of these bytes, whose packets had this source and tag, and the last of them came at this moment
abbrev pub message_of : ℕ → ℕ → ℕ → List ℕ → Message
message_of source tag moment bytes = record { source = source; tag = tag; moment = moment; bytes = bytes }

-- a whole message has to have a good header
abbrev pub headed : Message → Result Request Reason → Arrival
headed m (Ok request) = Whole m
headed m (Err reason) = Drop reason

abbrev pub fed_arrival : Route → ℕ → Fed → Arrival
fed_arrival route moment (fed.Whole body) =
    headed (message_of route.source route.tag moment body.items) (request_of body.items)
fed_arrival route moment fed.Partial = Part
fed_arrival route moment (fed.Dropped reason) = Drop reason

-- a request's packets have TO 1
abbrev pub is_expected : Packet → Bool
is_expected p = p.route.owner

-- the packet that these bytes bring to the endpoint `own`
abbrev pub request_packet : ℕ → List ℕ → Result Packet Reason
request_packet own bytes = passing is_expected own bytes

-- what a packet that passed brings; `gives` says what assembly gives for it
abbrev pub passed_arrival : (Packet → Fed) → ℕ → Result Packet Reason → Arrival
passed_arrival gives moment (Ok p) = fed_arrival p.route moment (gives p)
passed_arrival gives moment (Err reason) = Drop reason

-- what a packet brings that is addressed to the endpoint by another one
abbrev pub packet_arrival : (Packet → Fed) → ℕ → Packet → Arrival
packet_arrival gives moment p = passed_arrival gives moment (passed is_expected (Ok p))

-- what a whole message brings
abbrev pub message_arrival : ℕ → ℕ → ℕ → List ℕ → Arrival
message_arrival source tag moment bytes = headed (message_of source tag moment bytes) (request_of bytes)

-- what these bytes bring to the endpoint `own` at this moment
abbrev pub arrival : (Packet → Fed) → ℕ → ℕ → List ℕ → Arrival
arrival gives own moment bytes = passed_arrival gives moment (request_packet own bytes)

-- an answer goes back to the message's source, with the tag of the packets that just came and TO 0
abbrev pub way_back : ℕ → Message → Route
way_back own m = record { destination = m.source; source = own; owner = false; tag = m.tag }

abbrev pub packets_back : ℕ → Message → List ℕ → List (List ℕ)
packets_back own m answer = written_packets (way_back own m) answer
