-- All bytes are the commands' bits.
use Rattle.std.proofs.Common.{refl, arith}
use Rattle.pldm_wire.proofs.Placed.{take_bytes}
use Rattle.pldm_wire.proofs.base.commands_answer_in.Goals as goal

pub returns : goal.returns
returns c =
    let whole = c.if-bytes-ne-COMMANDS_BYTES.false in
    rw (whole, take_bytes 0 32 c.args.bytes.now (omega (arith, whole)), c.array_in.ensures) refl
