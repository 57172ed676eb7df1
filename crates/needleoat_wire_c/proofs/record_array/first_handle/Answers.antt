-- The first handle is that of the first record.
use Rattle.std.proofs.Common.{refl, sym}
use Rattle.needleoat_wire_c.proofs.RecordsWalked.{records_end, records_more}
use Rattle.needleoat_wire_c.proofs.record_array.first_handle.Goals as goal

pub returns-in-Some : goal.returns-in-Some
returns-in-Some c =
    let more = records_more c.args.bytes.now c.in-Some.pdr.now c.in-Some.field-0-1.now (sym c.in-Some.ensures.first) in
    rw more c.handle_of.ensures

pub returns-in-None : goal.returns-in-None
returns-in-None c = rw (records_end c.args.bytes.now (sym c.in-None.ensures.first)) refl
