-- The header's digits, and then the payload's.
use Rattle.std.proofs.Common.{◌≡◌, ℕ, List, ◌*◌, ◌++◌, drop, length, refl}
use Rattle.hex.specs.Hex.{encode_lower}
use Rattle.mctp_packet.specs.Packets.{header}
use Rattle.mctpctl_texts.proofs.PacketLines.{both_spelled}
use Rattle.mctpctl_texts.proofs.outcome.spell_packet.Goals as goal

-- the digits of known bytes, before the rest of a known room
spelled : (bytes known room place new : List ℕ) → bytes ≡ known → room ≡ place
    → new ≡ encode_lower bytes ++ drop (2 * length bytes) room → new ≡ encode_lower known ++ drop (2 * length known) place
spelled bytes known room place new is at put = rw (is, at) at put

pub returns : goal.returns
returns c =
    let halves = c.split_at_mut-header.ensures in
    both_spelled (header c.args.packet.now) c.args.packet.now.payload c.args.room.now c.spell.new.room c.spell-2.new.room 8 refl
    (spelled _ _ _ _ _ c.header_of.ensures halves.front c.spell.ensures) (spelled _ _ _ _ _ c.payload.ensures.value halves.back c.spell-2.ensures)
