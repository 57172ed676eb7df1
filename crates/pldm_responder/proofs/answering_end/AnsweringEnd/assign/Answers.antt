use Rattle.std.proofs.Common.{◌≡◌, arith, ap, ◌∙◌, refl}
use Rattle.std.specs.Prelude.{◌==◌}
use Rattle.std.specs.FinMap as map
use Rattle.std.specs.FinMap.{len-empty}
use Rattle.std.proofs.lemmas.Bool.{eqb-true}
use Rattle.mctp_packet.specs.declared.TheConstants.{NULL_EID}
use Rattle.mctp_assembly.specs.Keys.{key_cmp}
use Rattle.mctp_assembly.specs.Opened.{Opened}
use Rattle.pldm_responder.specs.Ends.{End}
use Rattle.pldm_responder.specs.Slots.{row_of, source_count}
use Rattle.pldm_responder.proofs.AskedKeys.{none_asked}
use Rattle.pldm_responder.proofs.NoId.{assigned_by, idle_of_none}
use Rattle.pldm_responder.proofs.OpenOrders.{none_ordered}
use Rattle.pldm_responder.proofs.answering_end.AnsweringEnd.assign.Goals as goal

pub invariant_of-self : goal.invariant_of-self
invariant_of-self c =
    let empty : c.self.inside.assembler ≡ map.empty = ap (λ (e : End). e.open_messages) c.self.view_is ∙ ap (λ (e : End). e.open_messages) c.restart.ensures in
    let rows = ap (λ (e : End). e.rows) c.self.view_is ∙ ap (λ (e : End). e.rows) c.restart.ensures in (
      rw empty (none_asked c.args.eid),
      ap (λ r. row_of r c.args.eid) rows,
      (rw empty (omega (arith, len-empty key_cmp Opened)), omega (arith, ap source_count rows)),
      rw empty (none_ordered _ _),
      idle_of_none _ _ c.self.inside.kept empty (ap source_count rows),
    )

pub returns-clause-held : goal.returns-clause-held
returns-clause-held c =
    let inside = c.self.inside in
    let new : End = record { own = c.args.eid; busy = inside.busy; keep = inside.keep; bounds = inside.bounds; ends_oldest = inside.ends_oldest; open_messages = inside.assembler; begun = inside.begun.items; rows = inside.kept; serves_from = c.serves_once_assigned-serves_from.result; last = inside.last } in
    assigned_by (c.args.self.now.own == NULL_EID) c.args.self.now new c.args.now c.args.eid
    (λ t. c.serves_once_assigned-serves_from.ensures.idle (eqb-true c.args.self.now.own NULL_EID t)) refl
    (ap (λ (e : End). e.busy) c.self.view_is ∙ ap (λ (e : End). e.busy) c.restart.ensures)
    (ap (λ (e : End). e.keep) c.self.view_is ∙ ap (λ (e : End). e.keep) c.restart.ensures)
    (ap (λ (e : End). e.rows) c.self.view_is ∙ ap (λ (e : End). e.rows) c.restart.ensures)
    (ap (λ (e : End). e.open_messages) c.self.view_is ∙ ap (λ (e : End). e.open_messages) c.restart.ensures)
    c.serves_once_assigned-serves_from.ensures.moment
    (ap (λ (e : End). e.last) c.self.view_is ∙ ap (λ (e : End). e.last) c.restart.ensures)
