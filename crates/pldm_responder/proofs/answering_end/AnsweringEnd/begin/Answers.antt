use Rattle.std.proofs.Common.{◌∙◌, ap, sym, subst, if◌then◌else◌}
use Rattle.mctp_packet.specs.Ids.{IsEid}
use Rattle.mctp_assembly.specs.Steps.{OpenMessages}
use Rattle.pldm_responder.specs.Ends.{End, eid_or_null}
use Rattle.pldm_responder.specs.OpenOrder.{begun_with, without}
use Rattle.pldm_responder.proofs.NoId.{idle_at_home}
use Rattle.pldm_responder.proofs.OpenOrders.{ordered_begun}
use Rattle.pldm_responder.proofs.OpenRooms.{is_of, open_begun}
use Rattle.pldm_responder.proofs.answering_end.AnsweringEnd.begin.Goals as goal

pub invariant_of-self-2 : goal.invariant_of-self-2
invariant_of-self-2 c =
    let left_is = c.end_message.ensures ∙ ap (λ (held : OpenMessages). without c.in_ok-ended.ended held) c.in_ok-feed_part.ensures.ok in
    let left = open_begun _ c.args.self.now c.args.packet.now c.of.result c.in_ok-ended.ended c.end_message.new.assembler c.self.view_is c.self.invariant.0 c.self.invariant.2.0
    c.of.ensures.range c.of.ensures.value c.requires.sent.owner c.requires.sent.other c.requires.begins c.self.invariant.3 c.in_ok-ended.ensures.ok (λ shut. cc (c.in_ok-ended.ensures.shut_out.1 shut)) left_is in
    let is = is_of (eid_or_null c.self.inside.own) c.args.packet.now c.of.result c.of.ensures.range c.of.ensures.value c.requires.sent.owner (λ source. c.requires.sent.other (source ∙ ap (λ (e : End). e.own) c.self.view_is)) in
    let order = ordered_begun (eid_or_null c.self.inside.own) c.self.inside.ends_oldest c.self.inside.assembler c.self.inside.begun.items c.args.packet.now c.in_ok-ended.ended c.end_message.new.assembler c.put_begun.new.begun.items
    c.self.invariant.0 is c.self.invariant.3 c.requires.begins left_is
    (c.put_begun.ensures ∙ (λ i. if c.self.inside.ends_oldest then begun_with c.end_message.new.assembler (c.of-2.ensures.value i) (c.reserve_begun.ensures.same i) else (c.reserve_begun.ensures.same i))) in
    let home : IsEid (eid_or_null c.self.inside.own) = subst (λ (e : End). IsEid e.own) (sym c.self.view_is) c.requires.sent.home in
    (left.0, c.self.invariant.1, (left.1, c.self.invariant.2.1), order, idle_at_home _ _ c.self.inside.kept home)
