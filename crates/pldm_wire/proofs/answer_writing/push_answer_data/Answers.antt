-- What was added in turn is the row's data.
use Rattle.std.proofs.Common.{append_assoc, append-nil}
use Rattle.pldm_wire.proofs.answer_writing.push_answer_data.Goals as goal

pub returns-in-GetPdrRepositoryInfo-clause-items : goal.returns-in-GetPdrRepositoryInfo-clause-items
returns-in-GetPdrRepositoryInfo-clause-items c =
    rw (c.in-GetPdrRepositoryInfo.is, c.push_repository_counts.ensures, c.push_repository_times.ensures.items)
    (simp append_assoc)

pub returns-in-GetPdr-clause-items : goal.returns-in-GetPdr-clause-items
returns-in-GetPdr-clause-items c = rw (c.in-GetPdr.is, append-nil) c.push_part_answer.ensures.items
