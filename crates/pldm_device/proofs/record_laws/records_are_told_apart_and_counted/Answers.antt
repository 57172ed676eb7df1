use Rattle.std.proofs.Common.{refl}
use Rattle.pldm_device.proofs.DescribedHandles.{described_differ}
use Rattle.pldm_device.proofs.record_laws.records_are_told_apart_and_counted.Goals as goal

pub returns-clause-differ : goal.returns-clause-differ
returns-clause-differ c = described_differ

pub returns-clause-counted : goal.returns-clause-counted
returns-clause-counted c = λ device. refl
