-- What is written is that of the components and one more.
use Rattle.std.proofs.Common.{◌≡◌, ◌+◌, true, ℕ, length, ap, arith, refl, subst, sym, ◌∙◌}
use Rattle.pldm_update.specs.Parameters.{FirmwareParameters, AreParameters, FitsAfter, parameters_bytes, with_component}
use Rattle.pldm_update.proofs.ParametersKept.{kept_written, more_are, more_fits, more_written, number_is}
use Rattle.pldm_update.proofs.firmware_parameters.FirmwareParameters.with.Goals as goal
use Rattle.pldm_update.proofs.firmware_parameters.FirmwareParameters.with.Goals.{then-count-via-then-count, then-count-via-else-count+then-not-fits}

pub returns-then-count-clause-some : goal.returns-then-count-clause-some
returns-then-count-clause-some c =
    let kept : c.as_slice-kept.result.now ≡ parameters_bytes c.args.self.now = c.as_slice-kept.ensures.value ∙ c.self.invariant.0 ∙ ap parameters_bytes c.self.view_is in
    let own : AreParameters c.args.self.now = subst (λ (p : FirmwareParameters). AreParameters p) c.self.view_is c.self.invariant.1 in
    let number = number_is c.args.self.now c.as_slice-kept.result.now c.split_at.result.1.now kept c.split_at.ensures.back own in (
      λ e. absurd cc,
      λ h.
          let fits = more_fits c.args.self.now c.args.component.now h in
          elim c.then-count.branch [
            | then-count-via-then-count w ↦ absurd (omega (arith, w.if-count.true, c.read_u16-count.ensures, number, fits.0))
            | then-count-via-else-count+then-not-fits w ↦
                let holds : w.fits.result ≡ true = w.fits.ensures.1 (subst (λ (n : ℕ). FitsAfter n c.args.component.now) (sym (ap length kept)) fits.1) in
                absurd cc
          ],
    )

pub invariant_of-result : goal.invariant_of-result
invariant_of-result c =
    let kept : c.as_slice-kept.result.now ≡ parameters_bytes c.args.self.now = c.as_slice-kept.ensures.value ∙ c.self.invariant.0 ∙ ap parameters_bytes c.self.view_is in
    let own : AreParameters c.args.self.now = subst (λ (p : FirmwareParameters). AreParameters p) c.self.view_is c.self.invariant.1 in
    let number = number_is c.args.self.now c.as_slice-kept.result.now c.split_at.result.1.now kept c.split_at.ensures.back own in
    let fits = subst (λ (n : ℕ). FitsAfter n c.args.component.now) (ap length kept) (c.if-not-fits.ensures.0 refl) in
    let ok = more_are c.args.self.now c.args.component.now own c.component_data-last.ensures.range (omega (arith, own.0.1.0, c.if-count.false, c.read_u16-count.ensures, number)) fits in
    let joined = rw (c.as_slice.ensures.value, c.as_slice-2.ensures.value, c.data_of-head.ensures, c.component_data-last.ensures.items, c.split_at.ensures.front, c.split_at-2.ensures.back, c.split_at.ensures.back) at c.joined.ensures in
    (kept_written c.joined.result.items (with_component c.args.self.now c.args.component.now)
    (joined ∙ more_written c.args.self.now c.args.component.now c.as_slice-kept.result.now (c.read_u16-count.result + 1) kept (omega (arith, c.read_u16-count.ensures, number))) ok).1

pub returns-clause-some : goal.returns-clause-some
returns-clause-some c =
    let kept : c.as_slice-kept.result.now ≡ parameters_bytes c.args.self.now = c.as_slice-kept.ensures.value ∙ c.self.invariant.0 ∙ ap parameters_bytes c.self.view_is in
    let own : AreParameters c.args.self.now = subst (λ (p : FirmwareParameters). AreParameters p) c.self.view_is c.self.invariant.1 in
    let number = number_is c.args.self.now c.as_slice-kept.result.now c.split_at.result.1.now kept c.split_at.ensures.back own in
    let fits = subst (λ (n : ℕ). FitsAfter n c.args.component.now) (ap length kept) (c.if-not-fits.ensures.0 refl) in
    (λ _. more_are c.args.self.now c.args.component.now own c.component_data-last.ensures.range (omega (arith, own.0.1.0, c.if-count.false, c.read_u16-count.ensures, number)) fits, λ _. refl)

pub returns-clause-value : goal.returns-clause-value
returns-clause-value c =
    let kept : c.as_slice-kept.result.now ≡ parameters_bytes c.args.self.now = c.as_slice-kept.ensures.value ∙ c.self.invariant.0 ∙ ap parameters_bytes c.self.view_is in
    let own : AreParameters c.args.self.now = subst (λ (p : FirmwareParameters). AreParameters p) c.self.view_is c.self.invariant.1 in
    let number = number_is c.args.self.now c.as_slice-kept.result.now c.split_at.result.1.now kept c.split_at.ensures.back own in
    let fits = subst (λ (n : ℕ). FitsAfter n c.args.component.now) (ap length kept) (c.if-not-fits.ensures.0 refl) in
    let ok = more_are c.args.self.now c.args.component.now own c.component_data-last.ensures.range (omega (arith, own.0.1.0, c.if-count.false, c.read_u16-count.ensures, number)) fits in
    let joined = rw (c.as_slice.ensures.value, c.as_slice-2.ensures.value, c.data_of-head.ensures, c.component_data-last.ensures.items, c.split_at.ensures.front, c.split_at-2.ensures.back, c.split_at.ensures.back) at c.joined.ensures in
    (kept_written c.joined.result.items (with_component c.args.self.now c.args.component.now)
    (joined ∙ more_written c.args.self.now c.args.component.now c.as_slice-kept.result.now (c.read_u16-count.result + 1) kept (omega (arith, c.read_u16-count.ensures, number))) ok).0
