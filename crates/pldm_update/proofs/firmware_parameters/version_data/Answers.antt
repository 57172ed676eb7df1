-- A version has its fields in their ranges.
use Rattle.std.proofs.Common.{[], ap, arith, length, length-append}
use Rattle.pldm_update.proofs.firmware_parameters.version_data.Goals as goal

pub data_of-requires : goal.data_of-requires
data_of-requires c =
    omega (arith, c.requires.release, ap length c.release.ensures, length-append c.release.result.now [])
