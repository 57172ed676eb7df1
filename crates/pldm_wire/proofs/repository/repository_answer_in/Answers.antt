-- The times are the bytes at their places.
use Rattle.std.proofs.Common.{refl, arith}
use Rattle.pldm_wire.proofs.Placed.{take_bytes}
use Rattle.pldm_wire.proofs.repository.repository_answer_in.Goals as goal

pub returns : goal.returns
returns c =
    let whole = c.if-bytes-ne40.false in
    rw (whole, take_bytes 1 13 c.args.bytes.now (omega (arith, whole)), take_bytes 14 13 c.args.bytes.now (omega (arith, whole)), c.array_in.ensures, c.array_in-2.ensures, c.u32_in.ensures, c.u32_in-2.ensures, c.u32_in-3.ensures) refl
