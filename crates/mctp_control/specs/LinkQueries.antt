-- A control request to whatever endpoint is at the other end of a link, and the packet that answers it (DSP0236,
-- "Special endpoint IDs"): the one to the null endpoint ID reaches an endpoint that was assigned none yet.
use Rattle.std.specs.Prelude.{ℕ, ◌+◌, ◌/◌, ◌%◌, ◌==◌, ◌&&◌, ◌||◌, not, nat_le, nat_lt, Bool, false, List, ◌∷◌, length, slice_index, drop}
use Rattle.std.specs.Prelude.{Option, None, Some, if◌then◌else◌}
use Rattle.mctp_packet.specs.Refusals.{is_eid}
use Rattle.mctp_packet.specs.declared.TheConstants.{HEADER, MAX_PACKET_BYTES, NULL_EID, VERSION}
use Rattle.mctp_control.specs.Commands.{number_of}
use Rattle.mctp_control.specs.Messages.{Response, response_of}
use Rattle.mctp_control.specs.Written.{command_message}
use Rattle.mctp_control.specs.declared.command.Command.{Command}

-- who asks, the message tag, the instance ID and the command
pub record LinkRequest : Type 0 where
  pub own : ℕ
  pub tag : ℕ
  pub id : ℕ
  pub command : Command

-- SOM 1, EOM 1, the sequence number 0, TO 1, and the tag
abbrev pub request_flags : ℕ → ℕ
request_flags tag = 200 + tag

-- the packet that asks
abbrev pub link_packet : LinkRequest → List ℕ
link_packet q = VERSION ∷ NULL_EID ∷ q.own ∷ request_flags q.tag ∷ command_message q.id q.command

-- whoever answers has no endpoint ID, or another than the one who asks
abbrev pub is_other : ℕ → ℕ → Bool
is_other own source = (source == NULL_EID) || (is_eid source && not (source == own))

-- SOM 1, EOM 1, any sequence number, TO 0, and the tag
abbrev pub is_whole_answer : ℕ → ℕ → Bool
is_whole_answer tag flags = (flags / 64 == 3) && (flags % 16 == tag)

-- a packet that brings a whole message back
abbrev pub brings_back : LinkRequest → List ℕ → Bool
brings_back q bytes =
    nat_lt HEADER (length bytes) && nat_le (length bytes) MAX_PACKET_BYTES
    && (slice_index bytes 0 % 16 == VERSION) && (slice_index bytes 1 == q.own)
    && is_other q.own (slice_index bytes 2) && is_whole_answer q.tag (slice_index bytes 3)

-- a response with the same instance ID and command
abbrev pub is_link_response : LinkRequest → Option Response → Bool
is_link_response q None = false
is_link_response q (Some r) = (r.id == q.id) && (r.command == number_of q.command)

-- the message with which a packet answers, if it answers
abbrev pub link_answer_in : LinkRequest → List ℕ → Option (List ℕ)
link_answer_in q bytes =
    if brings_back q bytes && is_link_response q (response_of (drop HEADER bytes)) then Some (drop HEADER bytes)
    else None
