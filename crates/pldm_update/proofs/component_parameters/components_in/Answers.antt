-- What is left after all components is what reading them gives.
use Rattle.std.proofs.lemmas.Result.{err_from_is_err_and}
use Rattle.pldm_update.specs.PackageFields.{many_at, rest_of}
use Rattle.pldm_update.specs.ParametersReading.{component_at}
use Rattle.pldm_update.proofs.ManyFields.{passed, failed, all_passed, is_ok}
use Rattle.pldm_update.proofs.component_parameters.components_in.Goals as goal

pub returns-in_err-after : goal.returns-in_err-after
returns-in_err-after c =
    let p = err_from_is_err_and c.from_residual.result c.from_residual.ensures.1 in
    rw (p.1, p.2) (failed component_at c.args.count c.loop.counter c.loop.rest.now c.in_err-after.field-0.0 (many_at component_at c.args.count c.args.bytes.now) c.loop-test.true c.in_err-after.ensures c.loop.invariant)

pub loop-preserved : goal.loop-preserved
loop-preserved c =
    passed component_at c.args.count c.loop.counter c.loop.rest.now c.in_ok-after.after.now c.in_ok-after.field-0-0 (rest_of (many_at component_at c.args.count c.args.bytes.now)) c.loop-test.true c.in_ok-after.ensures c.loop.invariant

pub invariant_of-result : goal.invariant_of-result
invariant_of-result c =
    is_ok (many_at component_at c.args.count c.args.bytes.now) _ (all_passed component_at c.args.count c.loop.counter c.loop.rest.now (many_at component_at c.args.count c.args.bytes.now) c.loop-test.false c.loop.invariant)

pub returns : goal.returns
returns c = all_passed component_at c.args.count c.loop.counter c.loop.rest.now (many_at component_at c.args.count c.args.bytes.now) c.loop-test.false c.loop.invariant
