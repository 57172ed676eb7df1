-- One more row.
use Rattle.std.proofs.Common.{◌∙◌, ap}
use Rattle.mctpctl_table.specs.Tables.{characters}
use Rattle.mctpctl_table.proofs.Widths.{greater, width_step}
use Rattle.mctpctl_table.proofs.columns.width.Goals as goal

pub loop-row-preserved : goal.loop-row-preserved
loop-row-preserved c =
    width_step c.args.column c.args.rows.now c.loop-row.row-index c.row-item.result c.loop-row.widest c.characters.result c.max-widest.result c.loop-row-test.true c.row-item.is c.loop-row.invariant
    (c.characters.ensures ∙ ap characters c.cell.ensures)
    (c.max-widest.ensures ∙ greater c.loop-row.widest c.characters.result)
