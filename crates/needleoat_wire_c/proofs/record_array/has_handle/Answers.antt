-- The search found a record.
use Rattle.std.proofs.Common.{◌∙◌}
use Rattle.needleoat_wire_c.specs.RecordWalks.{records_in}
use Rattle.needleoat_wire_c.proofs.RecordsFound.{has_first}
use Rattle.needleoat_wire_c.proofs.record_array.has_handle.Goals as goal

pub returns : goal.returns
returns c =
    c.is_some.ensures
    ∙ has_first _ c.args.handle (records_in c.args.bytes.now) c.from_handle.result.now c.first_record.result c.first_record.ensures.first c.from_handle.ensures
