-- What is held once the packet came is what the requester holds then.
use Rattle.std.proofs.Common.{ap, rules}
use Rattle.mctp_serial.specs.Readings.{then_event}
use Rattle.pldm_line.specs.Serving.{packets_of}
use Rattle.pldm_line.proofs.HeardPackets.{heard_packet}
use Rattle.pldm_line.proofs.SameRequester.{same_held}
use Rattle.pldm_requester.specs.Slots.{held_of}
use Rattle.pldm_line.proofs.turn.hear_byte.Goals as goal

pub returns-in-Ok-clause-heard : goal.returns-in-Ok-clause-heard
returns-in-Ok-clause-heard c =
    heard_packet (held_of c.args.requester.now) c.args.frames.now c.take.new.self c.args.now c.args.byte c.take.result
    c.in-Packet.packet.items c.deref-in-Packet.result.now (held_of c.receive.new.self) c.take.ensures
    (λ later. ap (λ event. packets_of (then_event event later)) c.in-Packet.is) (search rules) (same_held c.in-Ok.ensures.held)
