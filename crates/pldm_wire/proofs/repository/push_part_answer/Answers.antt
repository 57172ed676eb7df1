-- What was added in turn is the row's data.
use Rattle.std.proofs.Common.{append_assoc}
use Rattle.pldm_wire.proofs.repository.push_part_answer.Goals as goal

pub returns-clause-items : goal.returns-clause-items
returns-clause-items c =
    rw (c.push_checksum.ensures, c.push_bytes.ensures.items, c.push_u16.ensures.items, c.push.ensures.items, c.push_u32-2.ensures.items, c.push_u32.ensures.items)
    (rw (c.as_slice-bytes.ensures.value, c.number.ensures, c.flag.ensures, c.transfer_crc.ensures) (simp append_assoc))
