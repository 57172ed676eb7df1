-- Queries, one after another.
use Rattle.std.proofs.Common.{◌+◌, List, [], ◌∷◌, sym}
use Rattle.mctp_control.specs.declared.command.Command.{Command as ControlCommand}
use Rattle.mctp_control.specs.declared.command.Command.TheVariants as controls
use Rattle.mctpctl.specs.Conversations.{printed_in, shown_in}
use Rattle.std.proofs.Math.Nat.{max-eq_right}
use Rattle.mctpctl.proofs.WalkedOn.{query_alone, query_fails, query_goes_on, with_query}
use Rattle.mctpctl.specs.declared.statuses.TheConstants.{FAILED}
use Rattle.mctpctl.proofs.walking.ask_endpoint.Goals as goal

abbrev then_types : List ControlCommand
then_types = controls.GetMessageTypeSupport ∷ []

abbrev then_uuid : List ControlCommand
then_uuid = controls.GetEndpointUuid ∷ then_types

pub returns-then-eid_status-eq-FAILED-clause-asked : goal.returns-then-eid_status-eq-FAILED-clause-asked
returns-then-eid_status-eq-FAILED-clause-asked g c =
    query_fails c.args.settings.now c.args.first _ then_uuid _ _ _ _ _ c.if-eid_status-eq-FAILED.true (with_query _ _ _ _ _ _ _ _ c.query-eid.ensures c.in-Ok.ensures.reported)

pub returns-then-uuid_status-eq-FAILED-clause-asked : goal.returns-then-uuid_status-eq-FAILED-clause-asked
returns-then-uuid_status-eq-FAILED-clause-asked g c =
    query_goes_on c.args.settings.now c.args.first _ then_uuid _ FAILED FAILED _ _ _ _ _ _ c.if-eid_status-eq-FAILED.false
    (with_query _ _ _ _ _ _ _ _ c.query-eid.ensures c.in-Ok.ensures.reported)
    (query_fails c.args.settings.now (c.args.first + 1) _ then_types _ _ _ _ _ c.if-uuid_status-eq-FAILED.true (with_query _ _ _ _ _ _ _ _ c.query-uuid.ensures c.in-Ok-report_query.ensures.reported))
    (sym (max-eq_right c.in-Ok.ensures.range))

pub returns-clause-asked : goal.returns-clause-asked
returns-clause-asked g c =
    query_goes_on c.args.settings.now c.args.first _ then_uuid _ c.max.result _ _ _ _ _ _ _ c.if-eid_status-eq-FAILED.false
    (with_query _ _ _ _ _ _ _ _ c.query-eid.ensures c.in-Ok.ensures.reported)
    (query_goes_on c.args.settings.now (c.args.first + 1) _ then_types _ _ _ _ _
    (shown_in g.C.Ticks.to_come g.R.Read.remaining g.W.Write.contents c.report_query-3.new.conversation) _ _
    (printed_in g.O.Write.contents c.report_query-3.new.conversation) c.if-uuid_status-eq-FAILED.false
    (with_query _ _ _ _ _ _ _ _ c.query-uuid.ensures c.in-Ok-report_query.ensures.reported)
    (query_alone c.args.settings.now (c.args.first + 1 + 1) _ _ _ _ _ _ (with_query _ _ _ _ _ _ _ _ c.query-types.ensures c.in-Ok-report_query-2.ensures.reported))
    c.max.ensures)
    c.max-2.ensures
