-- A record more leaves the handles of fewer, and after the last there are none.
use Rattle.std.proofs.Common.{sym, arith}
use Rattle.pldm_device.proofs.LargestHandles.{one_more, none_left}
use Rattle.pldm_device.proofs.made_records.largest_handle.Goals as goal

pub loop-record-preserved : goal.loop-record-preserved
loop-record-preserved c =
    let step = one_more c.args.records.now c.loop-record.position c.loop-record.largest c.in-Some.record.now (sym c.in-Some.ensures.value) in
    omega (arith, step, c.loop-record.invariant, c.max-largest.ensures, c.handle.ensures)

pub returns : goal.returns
returns c =
    let none = none_left c.args.records.now c.loop-record.position (sym c.in_default.ensures.value) in
    omega (arith, none, c.loop-record.invariant)
