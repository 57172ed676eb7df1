use Rattle.std.proofs.Common.{◌≡◌, ⊎_elim, sym, subst}
use Rattle.mctp_packet.specs.Ids.{IsEid}
use Rattle.mctp_packet.specs.declared.TheConstants.{NULL_EID}
use Rattle.std.specs.Prelude.{IfSome, length, ◌≤◌}
use Rattle.mctp_packet.specs.declared.TheConstants.{MAX_MESSAGE_BYTES}
use Rattle.pldm_responder.specs.Ends.{End, IsOwn, eid_or_null}
use Rattle.pldm_responder.specs.Slots.{entry_in}
use Rattle.pldm_responder.proofs.NoId.{none_kept}
use Rattle.pldm_responder.proofs.KeptEntries.{few_for_others, is_small}
use Rattle.pldm_responder.proofs.answering_end.AnsweringEnd.kept.Goals as goal

pub returns-clause-few : goal.returns-clause-few
returns-clause-few c =
    let own = eid_or_null c.self.inside.own in
    let is : IsOwn own = subst (λ (e : End). IsOwn e.own) (sym c.self.view_is) c.own_number-range.ensures.range in
    ⊎_elim
    (λ (none : own ≡ NULL_EID). none_kept c.count.result _ _ _ c.count.ensures.few (c.self.invariant.4 none).1)
    (λ (home : IsEid own). few_for_others c.self.inside.kept c.count.ensures.kept own home c.self.invariant.1 c.count.result c.count.ensures.value)
    is

pub returns-clause-small : goal.returns-clause-small
returns-clause-small c = λ source id.
    subst (λ (e : End). IfSome (entry_in e.rows source id) (λ entry. length entry.answer ≤ MAX_MESSAGE_BYTES)) c.self.view_is
    (is_small c.self.inside.kept c.count.ensures.kept source id)
