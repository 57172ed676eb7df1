-- What is kept is what was read.
use Rattle.std.proofs.Common.{List, ℕ, [], sym, ap, subst, Ok, ◌∙◌, arith}
use Rattle.std.proofs.lemmas.List.{append-nil, length-append}
use Rattle.pldm_update.specs.Identifiers.{IsKept}
use Rattle.pldm_update.proofs.IdentifiersRead.{found_in}
use Rattle.pldm_update.proofs.IdentifiersKept.{held, kept_found}
use Rattle.pldm_update.proofs.device_identifiers.DeviceIdentifiers.read.Goals as goal

pub data_of-requires : goal.data_of-requires
data_of-requires c =
    omega (arith, length-append c.args.bytes.now [], (found_in c.args.bytes.now c.in-Ok.field-0 c.in-Ok.ensures).2)

pub invariant_of-result : goal.invariant_of-result
invariant_of-result c =
    let kept = kept_found c.args.bytes.now c.in-Ok.field-0 (λ i. omega (arith, c.type_inv.bytes i)) c.in-Ok.ensures in
    subst (λ (l : List ℕ). IsKept (held l) l) (sym (c.data_of.ensures ∙ append-nil _)) kept.1

pub returns-in-Ok : goal.returns-in-Ok
returns-in-Ok c =
    let kept = kept_found c.args.bytes.now c.in-Ok.field-0 (λ i. omega (arith, c.type_inv.bytes i)) c.in-Ok.ensures in
    rw (c.in-Ok.ensures) (ap Ok (ap held (c.data_of.ensures ∙ append-nil _) ∙ kept.0))
