-- Every constant of the source, written a second time.
use Rattle.std.proofs.Common.{◌≡◌, refl}
use Rattle.pldm_line.specs.declared.TheConstants.{MAX_ANSWER_BYTES}

answer_bytes : MAX_ANSWER_BYTES ≡ 710
answer_bytes = refl
