-- A fetch looks back over its answers.
use Rattle.pldm_records.proofs.FetchLooksBack.{taking_looks_back, asking_looks_back}
use Rattle.std.proofs.Common.{refl}
use Rattle.pldm_records.proofs.laws.a_fetch_looks_back.Goals as goal

pub returns : goal.returns
returns c = record { taking = taking_looks_back; begun = λ asked. refl; asking = asking_looks_back }
