use Rattle.pldm_records.proofs.PartsFollowed.{parts_end, parts_join, parts_tell_places}
use Rattle.pldm_records.proofs.laws.parts_join_to_the_record.Goals as goal

pub returns-clause-joined : goal.returns-clause-joined
returns-clause-joined c = parts_join

pub returns-clause-places : goal.returns-clause-places
returns-clause-places c = parts_tell_places

pub returns-clause-end : goal.returns-clause-end
returns-clause-end c = parts_end
