use Rattle.pldm_device.proofs.TablesRecorded.{records_describe}
use Rattle.pldm_device.proofs.record_laws.made_records_tell_of_the_device.Goals as goal

pub returns : goal.returns
returns c = records_describe
