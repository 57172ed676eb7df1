-- What is written is that of the descriptors and one more.
use Rattle.std.proofs.Common.{◌≡◌, ◌++◌, ◌∷◌, ◌+◌, ◌-◌, [], length, slice_index, take, drop, List, arith, ap, subst, ◌∙◌}
use Rattle.pldm_update.specs.Identifiers.{descriptor, identifiers_bytes, IsIdentifiers}
use Rattle.pldm_update.specs.Packages.{Descriptor}
use Rattle.pldm_update.proofs.IdentifiersKept.{kept_written, more_is, more_written, count_byte, after_count}
use Rattle.pldm_update.proofs.device_identifiers.DeviceIdentifiers.with.Goals as goal

pub invariant_of-result : goal.invariant_of-result
invariant_of-result c =
    let kept : c.as_slice-kept.result.now ≡ identifiers_bytes c.args.self.now = c.as_slice-kept.ensures.value ∙ c.self.invariant.0 ∙ ap identifiers_bytes c.self.view_is in
    let own : IsIdentifiers c.args.self.now = subst (λ (l : List Descriptor). IsIdentifiers l) c.self.view_is c.self.invariant.1 in
    let count = count_byte c.args.self.now c.as_slice-kept.result.now kept in
    let ok = more_is c.args.self.now c.args.kind c.args.content.now own.1.1.1 (omega (arith, c.ranges.kind.fits)) (omega (arith, count, c.if-count.false, own.1.1.0)) (omega (arith, ap length kept, c.if-kept-content-gt-MAX_UPDATE_DATA.false)) in
    let written = more_written c.args.self.now c.args.kind c.args.content.now (slice_index c.as_slice-kept.result.now 4 + 1) (take (length c.as_slice-kept.result.now - 5) (drop 5 c.as_slice-kept.result.now)) (after_count c.args.self.now c.as_slice-kept.result.now kept) (omega (arith, count)) in
    (kept_written c.written.result.items (c.args.self.now ++ descriptor c.args.kind c.args.content.now ∷ []) (c.written.ensures ∙ written) ok).1

pub returns-clause-value : goal.returns-clause-value
returns-clause-value c =
    let kept : c.as_slice-kept.result.now ≡ identifiers_bytes c.args.self.now = c.as_slice-kept.ensures.value ∙ c.self.invariant.0 ∙ ap identifiers_bytes c.self.view_is in
    let own : IsIdentifiers c.args.self.now = subst (λ (l : List Descriptor). IsIdentifiers l) c.self.view_is c.self.invariant.1 in
    let count = count_byte c.args.self.now c.as_slice-kept.result.now kept in
    let ok = more_is c.args.self.now c.args.kind c.args.content.now own.1.1.1 (omega (arith, c.ranges.kind.fits)) (omega (arith, count, c.if-count.false, own.1.1.0)) (omega (arith, ap length kept, c.if-kept-content-gt-MAX_UPDATE_DATA.false)) in
    let written = more_written c.args.self.now c.args.kind c.args.content.now (slice_index c.as_slice-kept.result.now 4 + 1) (take (length c.as_slice-kept.result.now - 5) (drop 5 c.as_slice-kept.result.now)) (after_count c.args.self.now c.as_slice-kept.result.now kept) (omega (arith, count)) in
    (kept_written c.written.result.items (c.args.self.now ++ descriptor c.args.kind c.args.content.now ∷ []) (c.written.ensures ∙ written) ok).0
