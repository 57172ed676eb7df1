-- What was added in turn is the row's data.
use Rattle.std.proofs.Common.{append_assoc}
use Rattle.pldm_wire.proofs.repository.push_get_pdr.Goals as goal

pub returns : goal.returns
returns c =
    rw (c.push_u16-2.ensures.items, c.push_u16.ensures.items, c.push.ensures.items, c.push_u32-2.ensures.items, c.push_u32.ensures.items)
    (simp append_assoc)
