-- The number of the source that a definition uses.
use Rattle.std.proofs.Common.{◌≡◌, refl}
use Rattle.mctpctl_decode.specs.declared.record_text.TheConstants.{TYPE_PLACE}

-- DSP0248, "Common PDR format"
pub type_place : TYPE_PLACE ≡ 5
type_place = refl
