-- The first that is left is read, and the others then are left.
use Rattle.std.proofs.Common.{arith, ◌∙◌, sym}
use Rattle.pldm_update.specs.ParametersReading.{component_at}
use Rattle.pldm_update.proofs.ManyFields.{next_item, no_fault, no_items}
use Rattle.pldm_update.proofs.component_parameters.FirmwareComponents.take_first.Goals as goal

pub returns-then-self-eq0-clause-none : goal.returns-then-self-eq0-clause-none
returns-then-self-eq0-clause-none c = sym c.self.view_is ∙ no_items component_at c.self.inside.count c.self.inside.bytes.now c.if-self-eq0.true

pub invariant_of-self : goal.invariant_of-self
invariant_of-self c =
    (next_item component_at c.self.inside.count c.self.inside.bytes.now c.in-Ok.rest.now c.in-Ok.component (omega (arith, c.if-self-eq0.false)) c.in-Ok.ensures c.self.invariant).0

pub returns-in-Ok-clause-some : goal.returns-in-Ok-clause-some
returns-in-Ok-clause-some c =
    sym c.self.view_is ∙ (next_item component_at c.self.inside.count c.self.inside.bytes.now c.in-Ok.rest.now c.in-Ok.component (omega (arith, c.if-self-eq0.false)) c.in-Ok.ensures c.self.invariant).1

pub returns-in-Err-clause-none : goal.returns-in-Err-clause-none
returns-in-Err-clause-none c =
    absurd (no_fault component_at c.self.inside.count c.self.inside.bytes.now c.in-Err.field-0 (omega (arith, c.if-self-eq0.false)) c.in-Err.ensures c.self.invariant)
