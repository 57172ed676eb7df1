-- A control request to an endpoint in one packet, and the packet that answers it (DSP0236, "MCTP packet fields" and
-- "MCTP control message format").
use Rattle.std.specs.Prelude.{◌≡◌, ℕ, ◌==◌, ◌&&◌, not, Bool, true, false, List, Option, None, Some, Result, Ok, Err}
use Rattle.std.specs.Prelude.{if◌then◌else◌}
use Rattle.mctp_packet.specs.Packets.{Packet, Spells, packet, written}
use Rattle.mctp_packet.specs.Reading.{reading}
use Rattle.mctp_packet.specs.declared.packet.Route.{Route}
use Rattle.mctp_packet.specs.declared.reason.Reason.{Reason}
use Rattle.mctp_control.specs.Commands.{number_of}
use Rattle.mctp_control.specs.Messages.{IsResponse, Response, response_of}
use Rattle.mctp_control.specs.Written.{command_message}
use Rattle.mctp_control.specs.declared.command.Command.{Command}

-- who asks, who is asked, the message tag, the instance ID and the command
pub record ControlQuery : Type 0 where
  pub own : ℕ
  pub device : ℕ
  pub tag : ℕ
  pub id : ℕ
  pub command : Command

-- it goes out on a tag of its source: TO 1
abbrev pub query_route : ControlQuery → Route
query_route q = record { destination = q.device; source = q.own; owner = true; tag = q.tag }

-- the answer comes back on the same tag: TO 0
abbrev pub answer_route : ControlQuery → Route
answer_route q = record { destination = q.own; source = q.device; owner = false; tag = q.tag }

-- the packet that asks has the whole message, so SOM and EOM are 1 and the sequence number is 0
abbrev pub query_packet : ControlQuery → List ℕ
query_packet q = written (packet (query_route q) true true 0 (command_message q.id q.command))

-- the bytes of this packet answer with this message: it comes back whole, SOM and EOM 1, and is a response with the
-- same instance ID and command
pub record IsAnswer (q : ControlQuery) (bytes message : List ℕ) : Type 0 where
  pub seq : ℕ
  pub spelled : Spells (packet (answer_route q) true true seq message) bytes
  pub response : Response
  pub is_response : IsResponse message response
  pub id : response.id ≡ q.id
  pub command : response.command ≡ number_of q.command

-- the same by place: a packet that carries a whole message back
abbrev pub comes_back : ControlQuery → Packet → Bool
comes_back q p =
    (p.route.source == q.device) && (p.route.destination == q.own) && not p.route.owner && (p.route.tag == q.tag)
    && p.start && p.end

abbrev pub is_response_to : ControlQuery → Option Response → Bool
is_response_to q None = false
is_response_to q (Some r) = (r.id == q.id) && (r.command == number_of q.command)

abbrev pub answer_by : ControlQuery → Result Packet Reason → Option (List ℕ)
answer_by q (Err reason) = None
answer_by q (Ok p) = if comes_back q p && is_response_to q (response_of p.payload) then Some p.payload else None

-- the message with which a packet answers, if it answers
abbrev pub answer_in : ControlQuery → List ℕ → Option (List ℕ)
answer_in q bytes = answer_by q (reading None bytes)
