-- The same bytes are kept.
use Rattle.std.proofs.Common.{◌≡◌, List, ℕ, [], sym, ap, subst, ◌∙◌, arith}
use Rattle.std.proofs.lemmas.List.{append-nil, length-append}
use Rattle.pldm_update.specs.Parameters.{AreKept}
use Rattle.pldm_update.proofs.ParametersKept.{held}
use Rattle.pldm_update.proofs.firmware_parameters.FirmwareParameters.again.Goals as goal

pub data_of-requires : goal.data_of-requires
data_of-requires c = omega (arith, length-append c.as_slice.result.now [], c.as_slice.ensures.fits)

pub invariant_of-result : goal.invariant_of-result
invariant_of-result c =
    let same : c.data_of.result.items ≡ c.self.inside.bytes.items = c.data_of.ensures ∙ append-nil _ ∙ c.as_slice.ensures.value in
    subst (λ (l : List ℕ). AreKept (held l) l) (sym same) c.self.invariant

pub returns : goal.returns
returns c =
    let same : c.data_of.result.items ≡ c.self.inside.bytes.items = c.data_of.ensures ∙ append-nil _ ∙ c.as_slice.ensures.value in
    ap held same ∙ c.self.view_is
