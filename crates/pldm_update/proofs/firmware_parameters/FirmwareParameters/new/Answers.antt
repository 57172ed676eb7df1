-- What is written is that of a set with no component.
use Rattle.pldm_update.specs.Parameters.{no_components}
use Rattle.pldm_update.proofs.ParametersKept.{kept_written}
use Rattle.pldm_update.proofs.firmware_parameters.FirmwareParameters.new.Goals as goal

pub invariant_of-result : goal.invariant_of-result
invariant_of-result c =
    (kept_written c.first_data.result.items (no_components c.args.capabilities c.args.active.now c.args.pending.now) c.first_data.ensures.items c.first_data.ensures.range).1

pub returns-clause-value : goal.returns-clause-value
returns-clause-value c =
    (kept_written c.first_data.result.items (no_components c.args.capabilities c.args.active.now c.args.pending.now) c.first_data.ensures.items c.first_data.ensures.range).0
