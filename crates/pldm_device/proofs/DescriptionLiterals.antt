-- What a proof unfolds to compute, by `refl`, what a description that is written out states.
use Rattle.std.specs.Prelude.{⊤}
use Rattle.std.specs.Str.{chars, is_utf8}
use Rattle.toml.proofs.OnLiterals.{toml_on_literals}
use Rattle.hex.proofs.OnLiterals.{hex_on_literals}
use Rattle.pldm_device.specs.Descriptions.{description_of, device_of, stated}
use Rattle.pldm_device.specs.VersionChecksums.{both_versions_in}

unfoldable pub description_on_literals : ⊤
unfolding toml_on_literals hex_on_literals chars is_utf8 description_of device_of both_versions_in stated
description_on_literals = tt
