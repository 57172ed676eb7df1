-- How whole messages are written: the line of one may depend on those before it.
use Rattle.std.specs.Prelude.{◌≡◌, ℕ, List, [], ◌∷◌, Result, Ok, Err}
use Rattle.mctp_assembly.specs.declared.fed.Fed.{Fed}
use Rattle.mctp_assembly.specs.declared.fed.Fed.TheVariants.{Whole, Partial, Dropped}
use Rattle.mctp_packet.specs.Packets.{Packet}
use Rattle.mctp_packet.specs.declared.packet.Route.{Route}
use Rattle.mctpctl_texts.specs.ShownLines.{message_line}

-- a whole message, and the route of its packets
pub record Message : Type 0 where
  pub route : Route
  pub bytes : List ℕ

abbrev pub whole_message : Route → List ℕ → Message
whole_message route bytes = record { route = route; bytes = bytes }

-- the line that does not look back
abbrev pub in_hex : List Message → Message → List ℕ
in_hex before m = message_line m.bytes

-- `with` puts a message to what is known of those before it
module _ {H : Type 0} (with : H → Message → H) where
  -- with the message that a packet of this route completes
  abbrev pub with_completed : H → Route → Fed → H
  with_completed before route (Whole body) = with before (whole_message route body.items)
  with_completed before route Partial = before
  with_completed before route (Dropped reason) = before

  -- with the message that bytes complete, which are this packet or none
  abbrev pub with_read : H → Result Packet (List ℕ) → (Packet → Fed) → H
  with_read before (Err words) gives = before
  with_read before (Ok p) gives = with_completed before p.route (gives p)

  -- what is known of these messages, the newest first, where it is `none` of no message
  abbrev pub known_of : H → List Message → H
  known_of none [] = none
  known_of none (newest ∷ before) = with (known_of none before) newest

-- the line over what is held of the messages before is the line that looks back over them
abbrev pub LooksBack
    : {H : Type 0} → (List Message → Message → List ℕ) → H → (H → Message → H) → (H → Message → List ℕ) → Type 0
LooksBack line none with held_line =
    (before : List Message) (m : Message) → held_line (known_of with none before) m ≡ line before m
