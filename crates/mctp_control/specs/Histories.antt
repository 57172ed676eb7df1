-- What a control responder holds after packets that came at their moments, the newest first; which of them assigned an
-- endpoint ID, and which are copies.
use Rattle.std.specs.Prelude.{◌≡◌, ℕ, ◌+◌, ◌<◌, Bool, true, ◌&&◌, List, [], ◌∷◌, ◌++◌, Option, is_some, option_map, if◌then◌else◌}
use Rattle.mctp_control.specs.Packets.{assigned_in, copied_by, left_by, message_of, reply_to, request_in, source_of}
use Rattle.mctp_control.specs.declared.control_responder.ControlResponder.{ControlResponder}

-- the bytes of a packet, and the moment at which it came
pub record TimedPacket : Type 0 where
  pub moment : ℕ
  pub bytes : List ℕ

-- the responder after these packets
abbrev pub after : ControlResponder → List TimedPacket → ControlResponder
after e [] = e
after e (p ∷ packets) = left_by (after e packets) p.moment p.bytes

-- a packet that comes to the responder is accepted as an assignment, and is no copy
abbrev pub assigns : ControlResponder → TimedPacket → Bool
assigns e p = is_some (assigned_in e p.moment p.bytes)

-- those of the packets that were
abbrev pub assigning : ControlResponder → List TimedPacket → List TimedPacket
assigning e [] = []
assigning e (p ∷ packets) = if assigns (after e packets) p then p ∷ assigning e packets else assigning e packets

-- a packet that comes to the responder is a copy of an assignment
abbrev pub is_copy : ControlResponder → TimedPacket → Bool
is_copy e p = is_some (request_in e p.bytes) && is_some (copied_by e p.moment p.bytes)

-- two packets come from one source, and their messages have the same bytes
abbrev pub AreAlike : TimedPacket → TimedPacket → Type 0
AreAlike p q = (source_of p.bytes ≡ source_of q.bytes) × (message_of p.bytes ≡ message_of q.bytes)

-- the message that answers a packet, if it is answered
abbrev pub answering_message : ControlResponder → TimedPacket → Option (List ℕ)
answering_message e p = option_map message_of (reply_to e p.moment p.bytes)

-- a packet that comes after others repeats one of them, which assigned an endpoint ID less than the keeping time
-- before, and it is answered with the same message
pub record IsAnsweredAsBefore (e : ControlResponder) (packets : List TimedPacket) (p : TimedPacket) : Type 0 where
  pub before : List TimedPacket
  pub first : TimedPacket
  pub later : List TimedPacket
  pub place : packets ≡ later ++ first ∷ before
  pub assigned : assigns (after e before) first ≡ true
  pub alike : AreAlike p first
  pub within : p.moment < first.moment + e.keep
  pub answered : answering_message (after e packets) p ≡ answering_message (after e before) first
