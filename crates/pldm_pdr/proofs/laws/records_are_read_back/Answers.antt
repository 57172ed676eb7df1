-- What the bytes spell is read, so they spell one record.
use Rattle.pldm_pdr.proofs.Records as records
use Rattle.pldm_pdr.proofs.laws.records_are_read_back.Goals as goal

pub returns : goal.returns
returns c = record { read_back = records.read_back; one = records.one }
