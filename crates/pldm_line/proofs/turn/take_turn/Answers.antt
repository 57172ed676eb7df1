-- The turn that was taken.
use Rattle.pldm_line.proofs.Turning.{turn_of}
use Rattle.pldm_line.specs.Asked.{shown}
use Rattle.pldm_line.proofs.turn.take_turn.Goals as goal

pub returns-clause-turned : goal.returns-clause-turned
returns-clause-turned g c =
    turn_of c.nothing.result c.take_turn_seeing.new.wanted
    (shown g.C.Ticks.to_come g.R.Read.remaining g.W.Write.contents c.args.line.now c.args.reader.now c.args.writer.now)
    (shown g.C.Ticks.to_come g.R.Read.remaining g.W.Write.contents c.take_turn_seeing.new.line c.take_turn_seeing.new.reader c.take_turn_seeing.new.writer)
    c.take_turn_seeing.result c.take_turn_seeing.ensures.turned
