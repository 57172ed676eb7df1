-- At the end the bytes so far are all.
use Rattle.std.proofs.Common.{◌∷◌, arith}
use Rattle.std.proofs.lemmas.List.{take_all}
use Rattle.pldm_wire.proofs.Checksums.{only_crc}
use Rattle.mctp_i2c.proofs.PecFurther.{first_too, further}
use Rattle.mctp_i2c.proofs.pec.pec.Goals as goal

pub loop-byte-preserved : goal.loop-byte-preserved
loop-byte-preserved c =
    let i = c.loop-byte.byte-index in
    rw c.crc8-checksum-in-loop-byte.ensures.value
    (further c.args.address c.args.bytes.now i c.loop-byte.checksum c.loop-byte-test.true (omega (arith, c.type_inv.bytes i)) c.loop-byte.invariant)

pub returns : goal.returns
returns c =
    let whole = rw (take_all c.loop-byte.byte-index c.args.bytes.now c.loop-byte-test.false) at c.loop-byte.invariant in
    only_crc (c.args.address ∷ c.args.bytes.now) c.loop-byte.checksum
    (first_too c.args.address c.args.bytes.now (omega arith) (λ i. omega (arith, c.type_inv.bytes i))) whole
