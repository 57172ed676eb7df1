use Rattle.std.proofs.Common.{◌∙◌, ap, sym, subst, ◌≡◌, false, not, ◌&&◌}
use Rattle.mctp_packet.specs.Ids.{IsEid}
use Rattle.mctp_assembly.proofs.PacketEnds.{after_unended}
use Rattle.pldm_responder.specs.Ends.{End, eid_or_null}
use Rattle.pldm_responder.proofs.NoId.{idle_at_home}
use Rattle.pldm_responder.proofs.OpenOrders.{ordered_going_on}
use Rattle.pldm_responder.proofs.OpenedPackets.{open_going_on}
use Rattle.pldm_responder.specs.OpenOrder.{begins}
use Rattle.pldm_responder.proofs.answering_end.AnsweringEnd.take_part.Goals as goal

pub invariant_of-self-2 : goal.invariant_of-self-2
invariant_of-self-2 c =
    let goes_on : begins c.args.packet.now ≡ false =
    ap (λ t. t && not c.args.packet.now.end) (sym c.start.ensures ∙ c.if-start.false) in
    let left_is = c.in_ok-given.ensures.ok ∙ sym (after_unended c.self.inside.assembler c.args.packet.now c.requires.goes_on) in
    let left = open_going_on _ _ _ c.args.packet.now c.feed_part.new.self c.self.invariant.0 c.self.invariant.2.0 goes_on left_is in
    let home : IsEid (eid_or_null c.self.inside.own) = subst (λ (e : End). IsEid e.own) (sym c.self.view_is) c.requires.sent.home in
    (left.0, c.self.invariant.1, (left.1, c.self.invariant.2.1), ordered_going_on _ _ _ c.args.packet.now c.feed_part.new.self c.self.invariant.3 goes_on left_is, idle_at_home _ _ c.self.inside.kept home)
