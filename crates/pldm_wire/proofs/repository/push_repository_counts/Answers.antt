-- What was added in turn is the end of the row's data.
use Rattle.std.proofs.Common.{append_assoc}
use Rattle.pldm_wire.proofs.repository.push_repository_counts.Goals as goal

pub returns : goal.returns
returns c =
    rw (c.push.ensures.items, c.push_u32-3.ensures.items, c.push_u32-2.ensures.items, c.push_u32.ensures.items)
    (simp append_assoc)
