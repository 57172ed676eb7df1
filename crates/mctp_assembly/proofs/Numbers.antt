-- The constant of the source, a second time.
use Rattle.std.proofs.Common.{◌≡◌, refl}
use Rattle.mctp_assembly.specs.declared.assembler.TheConstants.{MAX_ASSEMBLIES}

most_assemblies : MAX_ASSEMBLIES ≡ 3952
most_assemblies = refl
