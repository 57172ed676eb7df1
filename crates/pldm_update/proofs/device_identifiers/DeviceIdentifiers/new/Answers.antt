-- What is written is that of the initial descriptor.
use Rattle.std.proofs.Common.{◌∙◌, [], ◌∷◌, refl, arith}
use Rattle.pldm_update.specs.Identifiers.{descriptor}
use Rattle.pldm_update.proofs.IdentifiersKept.{kept_written, more_is, more_written}
use Rattle.pldm_update.proofs.device_identifiers.DeviceIdentifiers.new.Goals as goal

pub invariant_of-result : goal.invariant_of-result
invariant_of-result c =
    let ok = more_is [] c.args.kind c.args.content.now tt (omega (arith, c.ranges.kind.fits)) (omega arith) (omega (arith, c.if-content.false)) in
    (kept_written c.written.result.items (descriptor c.args.kind c.args.content.now ∷ []) (c.written.ensures ∙ more_written [] c.args.kind c.args.content.now 1 [] refl refl) ok).1

pub returns-clause-value : goal.returns-clause-value
returns-clause-value c =
    let ok = more_is [] c.args.kind c.args.content.now tt (omega (arith, c.ranges.kind.fits)) (omega arith) (omega (arith, c.if-content.false)) in
    (kept_written c.written.result.items (descriptor c.args.kind c.args.content.now ∷ []) (c.written.ensures ∙ more_written [] c.args.kind c.args.content.now 1 [] refl refl) ok).0
