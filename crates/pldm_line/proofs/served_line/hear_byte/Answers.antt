-- The byte that ends a packet's frame, or shows that there is none.
use Rattle.std.proofs.Common.{◌≡◌, refl}
use Rattle.mctp_serial.specs.Readings.{step}
use Rattle.mctp_serial.specs.declared.reader.FrameEvent.TheVariants.{Nothing, Packet, Dropped}
use Rattle.pldm_line.proofs.Hearing.{hears_packet, hears_silent, on_ok}
use Rattle.pldm_line.specs.Heard.{shown}
use Rattle.pldm_responder.specs.Performing.{rules_of}
use Rattle.pldm_line.proofs.served_line.hear_byte.Goals as goal

pub returns-in-Nothing-clause-heard : goal.returns-in-Nothing-clause-heard
returns-in-Nothing-clause-heard g c =
    hears_silent g.P.Platform.performed (rules_of g.P.Platform.answer g.P.Platform.after g.P.Platform.sensed) g.L.Watch.sees
    g.met.P.Platform.none_performed
    (shown g.C.Ticks.to_come g.W.Write.contents c.args.line.now c.args.writer.now) c.args.byte Nothing c.take.new.self c.args.line.now.watch
    c.in-Nothing.ensures refl refl

pub returns-in-Packet-clause-heard : goal.returns-in-Packet-clause-heard
returns-in-Packet-clause-heard g c =
    let stepped : step c.args.line.now.frames c.args.byte ≡ record { event = Packet (record { items = c.deref.result.now }); next = c.take.new.self } =
    rw c.deref.ensures.0 c.in-Packet.ensures in
    on_ok c.hear_packet.result _ _
    (hears_packet g.P.Platform.performed (rules_of g.P.Platform.answer g.P.Platform.after g.P.Platform.sensed) g.L.Watch.sees
    (shown g.C.Ticks.to_come g.W.Write.contents c.args.line.now c.args.writer.now) c.args.byte c.deref.result.now c.take.new.self
    (shown g.C.Ticks.to_come g.W.Write.contents c.hear_packet.new.line c.hear_packet.new.writer) stepped c.hear_packet.ensures.frames)
    c.hear_packet.ensures.heard

pub returns-in-Dropped-clause-heard : goal.returns-in-Dropped-clause-heard
returns-in-Dropped-clause-heard g c =
    hears_silent g.P.Platform.performed (rules_of g.P.Platform.answer g.P.Platform.after g.P.Platform.sensed) g.L.Watch.sees
    g.met.P.Platform.none_performed
    (shown g.C.Ticks.to_come g.W.Write.contents c.args.line.now c.args.writer.now) c.args.byte (Dropped c.in-Dropped.fault) c.take.new.self
    c.saw.new.self c.in-Dropped.ensures refl (c.saw.new.self, c.saw.ensures, refl)
