-- The step that is found, those that are not, and the end.
use Rattle.mctpctl_table.proofs.Places.{found, not_found, none_left}
use Rattle.mctpctl_table.proofs.real32.shortest.Goals as goal

pub returns-then-is_rounded-clause-value : goal.returns-then-is_rounded-clause-value
returns-then-is_rounded-clause-value c =
    found c.loop-places.places c.args.n c.args.unit c.power_of_ten-scale.result c.nearest-digits.result c.is_rounded.result c.loop-places-test.true c.power_of_ten-scale.ensures.value c.nearest-digits.ensures.value c.is_rounded.ensures c.if-is_rounded.true c.loop-places.invariant

pub loop-places-preserved : goal.loop-places-preserved
loop-places-preserved c =
    not_found c.loop-places.places c.args.n c.args.unit c.power_of_ten-scale.result c.nearest-digits.result c.is_rounded.result c.loop-places-test.true c.power_of_ten-scale.ensures.value c.nearest-digits.ensures.value c.is_rounded.ensures c.if-is_rounded.false c.loop-places.invariant

pub returns-clause-value : goal.returns-clause-value
returns-clause-value c = none_left c.loop-places.places c.args.n c.args.unit c.loop-places-test.false c.loop-places.invariant
