-- A fetch gives the record that was asked for, and the parts in turn give it.
use Rattle.pldm_records.proofs.DoneIsTheRecord.{done_is_the_record}
use Rattle.pldm_records.proofs.PartsGiveTheRecord.{parts_give_the_record}
use Rattle.pldm_records.proofs.RepositoryFetched.{repository_is_fetched}
use Rattle.pldm_records.proofs.laws.a_fetch_gives_the_record.Goals as goal

pub returns : goal.returns
returns c = record { done = done_is_the_record; parts = parts_give_the_record; repository = repository_is_fetched }
