-- What is kept is what was read.
use Rattle.std.proofs.Common.{List, ℕ, [], sym, ap, subst, Ok, ◌∙◌, arith}
use Rattle.std.proofs.lemmas.List.{append-nil, length-append}
use Rattle.pldm_update.specs.Parameters.{AreKept}
use Rattle.pldm_update.proofs.ParametersRead.{found_in}
use Rattle.pldm_update.proofs.ParametersKept.{held, kept_found}
use Rattle.pldm_update.proofs.firmware_parameters.FirmwareParameters.read.Goals as goal

pub data_of-requires : goal.data_of-requires
data_of-requires c =
    omega (arith, length-append c.args.bytes.now [], (found_in c.args.bytes.now c.in-Ok.field-0 c.in-Ok.ensures).1)

pub invariant_of-result : goal.invariant_of-result
invariant_of-result c =
    let kept = kept_found c.args.bytes.now c.in-Ok.field-0 (λ i. omega (arith, c.type_inv.bytes i)) c.in-Ok.ensures in
    subst (λ (l : List ℕ). AreKept (held l) l) (sym (c.data_of.ensures ∙ append-nil _)) kept.1

pub returns-in-Ok : goal.returns-in-Ok
returns-in-Ok c =
    let kept = kept_found c.args.bytes.now c.in-Ok.field-0 (λ i. omega (arith, c.type_inv.bytes i)) c.in-Ok.ensures in
    rw (c.in-Ok.ensures) (ap Ok (ap held (c.data_of.ensures ∙ append-nil _) ∙ kept.0))
