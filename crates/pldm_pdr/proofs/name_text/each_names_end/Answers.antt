-- Where they end is found in the bytes that are left.
use Rattle.std.proofs.Common.{◌∙◌, sym}
use Rattle.std.proofs.lemmas.Result.{err_from_is_err_and}
use Rattle.pldm_pdr.proofs.NameLoops.{names_passed, names_failed, no_names_left}
use Rattle.pldm_pdr.proofs.name_text.each_names_end.Goals as goal

pub returns-in_err-rest : goal.returns-in_err-rest
returns-in_err-rest c =
    let p = err_from_is_err_and c.from_residual.result c.from_residual.ensures.1 in
    rw (p.1, p.2) (sym c.loop.invariant ∙ names_failed c.args.count c.loop.counter c.loop.rest.now c.in_err-rest.field-0.0 c.loop-test.true c.in_err-rest.ensures)

pub loop-preserved : goal.loop-preserved
loop-preserved c =
    sym (names_passed c.args.count c.loop.counter c.loop.rest.now c.in_ok-rest.rest.now c.loop-test.true c.in_ok-rest.ensures) ∙ c.loop.invariant

pub returns : goal.returns
returns c = sym c.loop.invariant ∙ no_names_left c.args.count c.loop.counter c.loop.rest.now c.loop-test.false
