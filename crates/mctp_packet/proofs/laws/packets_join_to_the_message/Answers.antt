-- The pieces are in their sizes, and joined they are the message.
use Rattle.std.proofs.Common.{sym, ap, ◌∙◌}
use Rattle.std.specs.List.{flat_map}
use Rattle.mctp_packet.specs.Packets.{Packet}
use Rattle.mctp_packet.proofs.Joined.{each_is_packet, piece_is_full, packets_join}
use Rattle.mctp_packet.proofs.laws.packets_join_to_the_message.Goals as goal

pub returns-clause-packets : goal.returns-clause-packets
returns-clause-packets c = each_is_packet

pub returns-clause-full : goal.returns-clause-full
returns-clause-full c = λ route message i h. piece_is_full message i h

pub returns-clause-join : goal.returns-clause-join
returns-clause-join c = packets_join

pub returns-clause-one : goal.returns-clause-one
returns-clause-one c =
    λ route a b same. sym (packets_join route a) ∙ ap (flat_map (λ (p : Packet). p.payload)) same ∙ packets_join route b
