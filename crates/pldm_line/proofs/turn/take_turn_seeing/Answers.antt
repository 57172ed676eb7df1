-- A turn, by its parts.
use Rattle.std.proofs.Common.{◌≡◌, ◌==◌, take, rules}
use Rattle.pldm_line.proofs.Turning.{lacks_memory, none_taken, turn_taken}
use Rattle.pldm_line.specs.Asked.{shown}
use Rattle.pldm_line.specs.Serving.{moment_after}
use Rattle.pldm_requester.specs.Slots.{held_of}
use Rattle.pldm_line.proofs.turn.take_turn_seeing.Goals as goal

pub returns-clause-turned : goal.returns-clause-turned
returns-clause-turned g c =
    let now = c.moment_after-now.result in
    let at : now ≡ moment_after (held_of c.args.line.now.requester).last c.in-Ok-tick.reading = search rules in
    let after = record c.args.line.now {
      frames = c.hear.new.frames;
      requester = c.send_due.new.requester;
      quiet = c.take.new.self;
      ticks = c.tick.new.self;
    } in
    turn_taken
    (shown g.C.Ticks.to_come g.R.Read.remaining g.W.Write.contents c.args.line.now c.args.reader.now c.args.writer.now)
    (shown g.C.Ticks.to_come g.R.Read.remaining g.W.Write.contents after c.read.new.self c.send_due.new.writer)
    (take c.in-Ok.count c.read.new.buf) c.in-Ok-tick.reading now (held_of c.hear.new.requester) (c.in-Ok.count == 0) c.args.wanted.now c.hear.new.wanted
    at c.in-Ok-hear.ensures.held c.in_ok-send_due.ensures.held c.in-Ok-hear.ensures.frames
    (none_taken c.in-Ok.count c.read.new.buf c.in-Ok.ensures.bound.0) c.take.ensures
    c.in-Ok.ensures.bytes.0 c.in-Ok-tick.ensures.reading c.in_ok-send_due.ensures.bytes c.in-Ok-hear.ensures.seen

pub returns-in_default-hear-clause-reason : goal.returns-in_default-hear-clause-reason
returns-in_default-hear-clause-reason g c =
    let now = c.moment_after-now.result in
    let at : now ≡ moment_after (held_of c.args.line.now.requester).last c.in-Ok-tick.reading = search rules in
    lacks_memory
    (shown g.C.Ticks.to_come g.R.Read.remaining g.W.Write.contents c.args.line.now c.args.reader.now c.args.writer.now)
    (shown g.C.Ticks.to_come g.R.Read.remaining g.W.Write.contents (record c.args.line.now { frames = c.hear.new.frames; requester = c.hear.new.requester; ticks = c.tick.new.self }) c.read.new.self c.args.writer.now)
    (take c.in-Ok.count c.read.new.buf) c.in-Ok-tick.reading now at
    c.in-Ok.ensures.bytes.0 c.in-Ok-tick.ensures.reading c.in_default-hear.ensures.memory
