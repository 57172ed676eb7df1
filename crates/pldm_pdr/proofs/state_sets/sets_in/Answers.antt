-- The sets so far and those that are still read are all.
use Rattle.std.proofs.Common.{◌≡◌, ◌-◌, arith}
use Rattle.std.proofs.lemmas.Result.{err_from_is_err_and}
use Rattle.pldm_pdr.specs.StateSets.{sets_at}
use Rattle.pldm_pdr.proofs.SetsRead.{no_front, next_set, no_set, all_sets}
use Rattle.pldm_pdr.proofs.state_sets.sets_in.Goals as goal

pub loop-init : goal.loop-init
loop-init c =
    let n : c.args.count - 0 ≡ c.args.count = omega arith in
    record { read = rw (c.new-sets.ensures, n) (no_front _); kept = rw c.new-sets.ensures (omega arith) }

pub returns-in_err-states : goal.returns-in_err-states
returns-in_err-states c =
    let p = err_from_is_err_and c.from_residual.result c.from_residual.ensures.1 in
    rw (p.1, p.2) (no_set c.in_err-states.field-0.0 c.loop.sets.items c.args.count c.loop.counter c.loop.rest.now (sets_at c.args.count c.args.bytes.now) c.loop-test.true c.in_err-states.ensures c.loop.invariant.read)

pub loop-preserved : goal.loop-preserved
loop-preserved c = record {
  read = rw c.push.ensures.items (next_set c.loop.sets.items c.args.count c.loop.counter c.loop.rest.now c.in_ok-states.states c.in_ok-states.after.now (sets_at c.args.count c.args.bytes.now) c.loop-test.true c.in_ok-states.ensures c.loop.invariant.read);
  kept = omega (arith, c.push.ensures.len, c.loop.invariant.kept);
}

pub returns : goal.returns
returns c = all_sets c.loop.sets.items c.args.count c.loop.counter c.loop.rest.now (sets_at c.args.count c.args.bytes.now) c.loop-test.false c.loop.invariant.read
