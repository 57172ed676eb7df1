-- What is kept is read as the parameters.
use Rattle.std.proofs.Common.{sym, ◌∙◌}
use Rattle.pldm_update.proofs.PackageSteps.{ok_is}
use Rattle.pldm_update.proofs.ParametersKept.{held, kept_is_read}
use Rattle.pldm_update.proofs.firmware_parameters.FirmwareParameters.fields.Goals as goal

pub unreachable-requires : goal.unreachable-requires
unreachable-requires c =
    let read = kept_is_read c.self.inside.bytes.items (held c.self.inside.bytes.items) c.self.invariant in
    let here = rw c.as_slice.ensures.value at c.in-Err.ensures in
    absurd cc

pub returns : goal.returns
returns c =
    let read = kept_is_read c.self.inside.bytes.items (held c.self.inside.bytes.items) c.self.invariant in
    let here = rw c.as_slice.ensures.value at c.in-Ok.ensures in
    ok_is (sym here ∙ read) ∙ c.self.view_is
