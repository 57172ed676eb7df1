-- At the end the bytes so far are all, and their checksum is their only remainder.
use Rattle.std.proofs.Common.{◌∙◌, sym, arith}
use Rattle.std.proofs.lemmas.List.{take_all}
use Rattle.pldm_wire.proofs.Checksums.{next_taken, only_crc}
use Rattle.pldm_wire.proofs.crc.crc8.Goals as goal

pub loop-byte-preserved : goal.loop-byte-preserved
loop-byte-preserved c =
    let i = c.loop-byte.byte-index in
    rw c.crc_of-checksum.ensures
    (next_taken c.args.bytes.now i c.loop-byte.checksum c.loop-byte-test.true (omega (arith, c.type_inv.bytes i)) c.loop-byte.invariant)

pub returns-clause-value : goal.returns-clause-value
returns-clause-value c =
    let whole = rw (take_all c.loop-byte.byte-index c.args.bytes.now c.loop-byte-test.false) at c.loop-byte.invariant in
    only_crc c.args.bytes.now c.loop-byte.checksum (λ i. omega (arith, c.type_inv.bytes i)) whole

pub returns-clause-only : goal.returns-clause-only
returns-clause-only c = λ r h.
    only_crc c.args.bytes.now r (λ i. omega (arith, c.type_inv.bytes i)) h ∙ sym (returns-clause-value c)
