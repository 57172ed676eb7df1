-- The text of the names so far and of those that are left, and where these end.
use Rattle.mctpctl_decode.specs.NameTexts.{after_name, name_of, name_text}
use Rattle.mctpctl_decode.proofs.EachRead.{one_written, one_passed, all_written, all_passed}
use Rattle.mctpctl_decode.proofs.name_text.push_each_name.Goals as goal

pub loop-preserved : goal.loop-preserved
loop-preserved c = record {
  text = one_written name_text name_of after_name c.args.count c.loop.counter c.loop.rest.now c.in_ok-rest.rest.now c.loop.out.items c.push_name.new.out.items _ c.loop-test.true c.in_ok-rest.ensures.rest c.in_ok-rest.ensures.text c.loop.invariant.text;
  rest = one_passed after_name c.args.count c.loop.counter c.loop.rest.now c.in_ok-rest.rest.now _ c.loop-test.true c.in_ok-rest.ensures.rest c.loop.invariant.rest;
}

pub returns-clause-text : goal.returns-clause-text
returns-clause-text c = all_written name_text name_of after_name c.args.count c.loop.counter c.loop.rest.now c.loop.out.items _ c.loop-test.false c.loop.invariant.text

pub returns-clause-rest : goal.returns-clause-rest
returns-clause-rest c = all_passed after_name c.args.count c.loop.counter c.loop.rest.now _ c.loop-test.false c.loop.invariant.rest
