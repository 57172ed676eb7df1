-- A new line listened, and nothing was written.
use Rattle.std.proofs.Common.{◌≡◌, refl, ap, ◌∙◌, rules, Err}
use Rattle.pldm_line.proofs.Going.{begun_so, stopped_so}
use Rattle.pldm_line.proofs.SameRequester.{same_held}
use Rattle.pldm_line.proofs.Silent.{listens_silent, stops_silent}
use Rattle.pldm_line.specs.Asked.{asking_of, begun_as, shown}
use Rattle.pldm_line.specs.Turns.{quiet_from}
use Rattle.pldm_line.specs.declared.ask_fault.BeginFault.TheVariants.{Line}
use Rattle.pldm_line.proofs.asking_line.begin_after.Goals as goal

pub returns-in-Ok-listen-clause-begun : goal.returns-in-Ok-listen-clause-begun
returns-in-Ok-listen-clause-begun g c =
    let none : c.unwrap.result ≡ 0 = search rules in
    begun_so c.args.span c.args.span
    (shown g.C.Ticks.to_come g.R.Read.remaining g.W.Write.contents
    (record { frames = c.new.result; requester = c.in-Ok.requester; quiet = c.new-3.result; ticks = c.args.ticks })
    c.args.reader.now c.args.writer.now)
    (begun_as g.C.Ticks.to_come g.R.Read.remaining g.W.Write.contents c.args.own c.args.device c.args.timing c.args.pace c.args.ticks c.args.reader.now c.args.writer.now)
    (shown g.C.Ticks.to_come g.R.Read.remaining g.W.Write.contents c.listen.new.line c.listen.new.reader c.listen.new.writer)
    refl (same_held c.in-Ok.ensures.held) c.new.ensures (c.new-3.ensures ∙ ap quiet_from none)
    refl refl refl c.in-Ok-listen.ensures.listened

pub returns-in-Ok-listen-clause-silent : goal.returns-in-Ok-listen-clause-silent
returns-in-Ok-listen-clause-silent g c =
    λ other.
    listens_silent c.args.span
    (shown g.C.Ticks.to_come g.R.Read.remaining g.W.Write.contents
    (record { frames = c.new.result; requester = c.in-Ok.requester; quiet = c.new-3.result; ticks = c.args.ticks })
    c.args.reader.now c.args.writer.now)
    (shown g.C.Ticks.to_come g.R.Read.remaining g.W.Write.contents c.listen.new.line c.listen.new.reader c.listen.new.writer)
    c.in-Ok.ensures.held.count c.in-Ok-listen.ensures.listened

pub returns-in-Err-listen-clause-silent : goal.returns-in-Err-listen-clause-silent
returns-in-Err-listen-clause-silent g c =
    λ other.
    stops_silent c.args.span c.in-Err-listen.fault
    (shown g.C.Ticks.to_come g.R.Read.remaining g.W.Write.contents
    (record { frames = c.new.result; requester = c.in-Ok.requester; quiet = c.new-3.result; ticks = c.args.ticks })
    c.args.reader.now c.args.writer.now)
    (shown g.C.Ticks.to_come g.R.Read.remaining g.W.Write.contents c.listen.new.line c.listen.new.reader c.listen.new.writer)
    c.in-Ok.ensures.held.count
    (c.in-Err-listen.ensures.stopped (λ e. other (λ i. Err (Line (e i)))))

pub returns-in-Err-listen-clause-stopped : goal.returns-in-Err-listen-clause-stopped
returns-in-Err-listen-clause-stopped g c =
    let none : c.unwrap.result ≡ 0 = search rules in
    λ other. (
      asking_of c.listen.new.line,
      g.C.Ticks.to_come c.listen.new.line.ticks,
      stopped_so c.args.span c.in-Err-listen.fault
          (shown g.C.Ticks.to_come g.R.Read.remaining g.W.Write.contents
          (record { frames = c.new.result; requester = c.in-Ok.requester; quiet = c.new-3.result; ticks = c.args.ticks })
          c.args.reader.now c.args.writer.now)
          (begun_as g.C.Ticks.to_come g.R.Read.remaining g.W.Write.contents c.args.own c.args.device c.args.timing c.args.pace c.args.ticks c.args.reader.now c.args.writer.now)
          (shown g.C.Ticks.to_come g.R.Read.remaining g.W.Write.contents c.listen.new.line c.listen.new.reader c.listen.new.writer)
          (same_held c.in-Ok.ensures.held) c.new.ensures (c.new-3.ensures ∙ ap quiet_from none)
          refl refl refl (c.in-Err-listen.ensures.stopped other),
    )
