-- A turn, and then the frame of the query where it goes out again.
use Rattle.pldm_line.proofs.QueryTaken.{query_turn_taken}
use Rattle.pldm_line.specs.Asked.{shown}
use Rattle.mctpctl_input.specs.Ports.{inner_of}
use Rattle.pldm_line.proofs.control.take_query_turn.Goals as goal

pub returns-clause-turned : goal.returns-clause-turned
returns-clause-turned g c =
    query_turn_taken c.args.query.now c.args.wanted.now c.take_turn_seeing.new.wanted c.args.tries.now c.take.new.self
    (shown g.C.Ticks.to_come g.R.Read.remaining g.W.Write.contents c.args.line.now c.args.reader.now c.args.writer.now)
    (shown g.C.Ticks.to_come g.R.Read.remaining g.W.Write.contents c.take_turn_seeing.new.line c.take_turn_seeing.new.reader c.take_turn_seeing.new.writer)
    (g.W.Write.contents (inner_of c.send_query.new.writer)) c.is_again-goes.result c.last_moment-now.result
    c.in-Ok.ensures.turned c.last_moment-now.ensures c.is_again-goes.ensures c.in-Ok-send_query.ensures.bytes c.take.ensures
