-- The packets of control messages: each message is one packet (DSP0236, "MCTP packet fields").
use Rattle.std.specs.Prelude.{ℕ, ◌+◌, ◌/◌, ◌%◌, ◌==◌, ◌&&◌, ◌||◌, not, nat_le, Bool, List, ◌∷◌, length, slice_index, drop}
use Rattle.std.specs.Prelude.{Option, None, Some, if◌then◌else◌}
use Rattle.mctp_packet.specs.Refusals.{is_eid}
use Rattle.mctp_packet.specs.declared.TheConstants.{HEADER, MAX_PACKET_BYTES, NULL_EID, VERSION}
use Rattle.mctp_control.specs.Messages.{Request, request_of}
use Rattle.mctp_control.specs.Responding.{answer_by, assignment_by, copied, left_with}
use Rattle.mctp_control.specs.Settings.{own_eid}
use Rattle.mctp_control.specs.Written.{answer_message}
use Rattle.mctp_control.specs.declared.answer.Answer.{Answer}
use Rattle.mctp_control.specs.declared.control_responder.ControlResponder.{ControlResponder}
use Rattle.mctp_control.specs.declared.kept_assignments.KeptAssignment.{KeptAssignment}

-- it goes to the endpoint ID that it has, or to whoever is at this physical address
abbrev pub is_to : ControlResponder → ℕ → Bool
is_to e destination = (destination == own_eid e) || (destination == NULL_EID)

-- it comes from another endpoint, or from one that has no endpoint ID
abbrev pub is_from : ControlResponder → ℕ → Bool
is_from e source = (is_eid source && not (source == own_eid e)) || (source == NULL_EID)

-- SOM and EOM in bits 7:6, TO in bit 3
abbrev pub is_whole_request : ℕ → Bool
is_whole_request flags = (flags / 64 == 3) && (flags / 8 % 2 == 1)

-- a packet that carries a whole message to this endpoint, on a tag of its source
abbrev pub comes_to : ControlResponder → List ℕ → Bool
comes_to e bytes =
    nat_le HEADER (length bytes) && nat_le (length bytes) MAX_PACKET_BYTES
    && (slice_index bytes 0 % 16 == VERSION) && is_to e (slice_index bytes 1) && is_from e (slice_index bytes 2)
    && is_whole_request (slice_index bytes 3)

-- the request that a packet brings, if it brings one
abbrev pub request_in : ControlResponder → List ℕ → Option Request
request_in e bytes = if comes_to e bytes then request_of (drop HEADER bytes) else None

-- the flags of the packet that answers one with these: SOM 1, EOM 1, the sequence number 0, TO 0, and the same tag
abbrev pub reply_flags : ℕ → ℕ
reply_flags flags = 192 + flags % 8

-- where a packet comes from, and its message
abbrev pub source_of : List ℕ → ℕ
source_of bytes = slice_index bytes 2

abbrev pub message_of : List ℕ → List ℕ
message_of bytes = drop HEADER bytes

-- the assignment that a packet which comes now repeats, if it repeats one
abbrev pub copied_by : ControlResponder → ℕ → List ℕ → Option KeptAssignment
copied_by e now bytes = copied e now (source_of bytes) (message_of bytes)

-- the packet that answers: back to the source from the endpoint ID that it has, on the same tag with TO 0
abbrev pub reply : ControlResponder → ℕ → ℕ → Request → Answer → List ℕ
reply e source flags r answer =
    VERSION ∷ source ∷ own_eid e ∷ reply_flags flags ∷ answer_message r.id r.command answer

abbrev pub reply_by : ControlResponder → ℕ → List ℕ → Option Request → Option (List ℕ)
reply_by e now bytes None = None
reply_by e now bytes (Some r) =
    Some (reply e (source_of bytes) (slice_index bytes 3) r (answer_by e (copied_by e now bytes) r))

-- what it answers to a packet that comes now, if it answers
abbrev pub reply_to : ControlResponder → ℕ → List ℕ → Option (List ℕ)
reply_to e now bytes = reply_by e now bytes (request_in e bytes)

abbrev pub assigned_by : ControlResponder → ℕ → List ℕ → Option Request → Option KeptAssignment
assigned_by e now bytes None = None
assigned_by e now bytes (Some r) =
    assignment_by e now (source_of bytes) (message_of bytes) (copied_by e now bytes) r

-- the assignment that it accepts with a packet that comes now, if it accepts one and the packet is no copy
abbrev pub assigned_in : ControlResponder → ℕ → List ℕ → Option KeptAssignment
assigned_in e now bytes = assigned_by e now bytes (request_in e bytes)

-- the responder after a packet that came now
abbrev pub left_by : ControlResponder → ℕ → List ℕ → ControlResponder
left_by e now bytes = left_with e (assigned_in e now bytes)
