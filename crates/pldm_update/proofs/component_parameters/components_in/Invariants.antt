-- What is left after the components that are still passed is what is left after all.
use Rattle.std.proofs.Common.{◌≡◌, ◌-◌}
use Rattle.pldm_update.specs.PackageFields.{many_at, rest_of}
use Rattle.pldm_update.specs.ParametersReading.{component_at}
use Rattle.pldm_update.proofs.component_parameters.components_in.Given as goal

abbrev pub invariant-loop : goal.invariant-loop
invariant-loop l = rest_of (many_at component_at (l.count - l.counter) l.rest) ≡ rest_of (many_at component_at l.count l.bytes)
