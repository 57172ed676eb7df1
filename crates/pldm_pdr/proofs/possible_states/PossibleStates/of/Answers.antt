-- The bits stand for these states, in the bytes up to the last that has one.
use Rattle.std.proofs.Common.{◌≡◌, ◌+◌, ◌≤◌, length, ap, ◌∙◌, arith}
use Rattle.std.proofs.lemmas.Bool.{le-leb}
use Rattle.pldm_pdr.specs.declared.limits.TheConstants.{MAX_STATE_BYTES}
use Rattle.pldm_pdr.proofs.FittingTests.{join_and}
use Rattle.pldm_pdr.proofs.StatesAmong.{length-bits_in, possible_where_among}
use Rattle.pldm_pdr.proofs.possible_states.PossibleStates.of.Goals as goal

pub returns-clause-states : goal.returns-clause-states
returns-clause-states c = λ state. rw (c.bits_in-bits.ensures, c.last_byte-count.ensures.value) (possible_where_among c.args.states.now state)

pub returns-clause-fits : goal.returns-clause-fits
returns-clause-fits c =
    let count : length c.bits_in-bits.result.items ≡ c.last_byte-count.result + 1 = ap length c.bits_in-bits.ensures ∙ length-bits_in c.args.states.now (c.last_byte-count.result + 1) in
    let n = length c.bits_in-bits.result.items in
    let least : 1 ≤ n = omega (arith, count) in
    let most : n ≤ MAX_STATE_BYTES = omega (arith, count, c.last_byte-count.ensures.range) in
    join_and _ _ (le-leb 1 n least) (le-leb n MAX_STATE_BYTES most)
