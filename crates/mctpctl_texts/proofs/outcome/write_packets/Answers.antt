-- A packet further, its line is added.
use Rattle.std.proofs.Common.{◌≡◌, ◌++◌, Some, refl, sym, ap, ◌∙◌, arith}
use Rattle.std.proofs.lemmas.List.{take_all}
use Rattle.std.specs.List.{slice_get}
use Rattle.mctp_packet.specs.Packets.{written}
use Rattle.mctp_packet.specs.Pieces.{written_packets}
use Rattle.mctpctl_texts.specs.OutcomeTexts.{packet_text, packets_text}
use Rattle.mctpctl_texts.proofs.PlacesListed.{written_further}
use Rattle.mctp_schedule.proofs.WrittenPlaces.{as_many, packet_stands}
use Rattle.mctpctl_texts.proofs.outcome.write_packets.Goals as goal

pub loop-i-preserved : goal.loop-i-preserved
loop-i-preserved c =
    let i = c.loop-i.invariant in
    let packets = written_packets c.args.route.now c.args.message.now in
    let found : slice_get packets c.loop-i.i ≡ Some (written c.in-Some.packet) =
    packet_stands c.args.route.now c.args.message.now c.loop-i.i (omega (arith, c.loop-i-test.true, i.end, as_many c.args.route.now c.args.message.now))
    ∙ ap (λ packet. Some (written packet)) (sym c.in-Some.ensures.value) in
    record {
      written = written_further packet_text packets c.loop-i.i (written c.in-Some.packet) (Some c.args.out.now.items) (Some c.loop-i.out.items) (Some c.write_packet.new.out.items)
          _ i.written c.in_ok-write_packet.ensures.ok refl found;
      end = i.end;
    }

pub returns-clause-ok : goal.returns-clause-ok
returns-clause-ok c =
    let i = c.loop-i.invariant in
    let packets = written_packets c.args.route.now c.args.message.now in
    let all = take_all c.loop-i.i packets (omega (arith, c.loop-i-test.false, i.end, as_many c.args.route.now c.args.message.now)) in
    i.written ∙ ap (λ taken. c.args.out.now.items ++ packets_text taken) all
