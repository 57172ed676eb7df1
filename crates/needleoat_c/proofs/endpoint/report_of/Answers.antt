use Rattle.std.proofs.Common.{◌≡◌, refl, rules, sym, subst, ◌∙◌}
use Rattle.mctp_packet.specs.Pieces.{piece_count, written_packets}
use Rattle.pldm_responder.specs.Answering.{answering}
use Rattle.needleoat_c.specs.Endpoints.{ArePackets, ReportsOutcome}
use Rattle.needleoat_c.proofs.PacketPlaces.{packets_counted}
use Rattle.needleoat_c.proofs.endpoint.report_of.Goals as goal

pub returns-in-Answered-clause-report : goal.returns-in-Answered-clause-report
returns-in-Answered-clause-report c =
    let count : c.div_ceil.result ≡ piece_count c.args.reply.now.items = search rules in
    subst (λ taken. ReportsOutcome (answering c.args.reply.now.items taken) (record { kind = 3; reason = 0; fresh = c.in-Answered.fresh; changed = c.in-Answered.changed; count = c.div_ceil.result; lengths = c.put_packets.result; handle = c.none.result }) c.put_packets.new.rooms)
    (sym c.in-Answered.is) (
      (refl, refl, refl, refl, count ∙ sym (packets_counted c.in-Answered.route c.args.reply.now.items), c.none.ensures),
      subst (λ m. ArePackets (written_packets c.in-Answered.route m) c.put_packets.result c.put_packets.new.rooms) c.deref.ensures.0 c.put_packets.ensures,
    )
