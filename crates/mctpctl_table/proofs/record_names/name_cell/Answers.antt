-- The record that has the name, those that have none, and the end.
use Rattle.std.proofs.Common.{◌∙◌}
use Rattle.std.proofs.lemmas.Result.{IfOk-weaker}
use Rattle.mctpctl_table.proofs.RowsLeft.{name_found, name_not_found, no_name}
use Rattle.mctpctl_table.proofs.record_names.name_cell.Goals as goal

pub returns-in-Some : goal.returns-in-Some
returns-in-Some c =
    name_found c.args.identifier.now c.args.place c.args.records.now c.loop-bytes.bytes-index c.bytes-item.result c.deref.result.now c.in_ok-cell.field-0 c.in-Some.cell c.loop-bytes-test.true c.bytes-item.is c.deref.ensures.value c.in-Some.is c.in_ok-cell.ensures
    ∙ c.loop-bytes.invariant

pub loop-bytes-preserved : goal.loop-bytes-preserved
loop-bytes-preserved c =
    name_not_found c.args.identifier.now c.args.place c.args.records.now c.loop-bytes.bytes-index c.bytes-item.result c.deref.result.now c.in_ok-cell.field-0 c.loop-bytes-test.true c.bytes-item.is c.deref.ensures.value c.in_default.is c.in_ok-cell.ensures
    ∙ c.loop-bytes.invariant

pub returns : goal.returns
returns c =
    IfOk-weaker c.dash.result _ _ (λ cell is. is ∙ (no_name c.args.identifier.now c.args.place c.args.records.now c.loop-bytes.bytes-index c.loop-bytes-test.false ∙ c.loop-bytes.invariant)) c.dash.ensures
