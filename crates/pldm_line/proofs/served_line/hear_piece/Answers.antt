-- One byte further.
use Rattle.std.proofs.Common.{◌≡◌, Some, [], ◌∷◌, ◌++◌, ◌∙◌, ap, sym, refl, append_assoc, rules}
use Rattle.pldm_line.proofs.Hearing.{hears_nothing, hears_after, front_heard}
use Rattle.pldm_line.specs.Heard.{shown}
use Rattle.pldm_responder.specs.Performing.{rules_of}
use Rattle.pldm_line.proofs.served_line.hear_piece.Goals as goal

pub loop-first-init : goal.loop-first-init
loop-first-init g c = record {
  taken = [];
  parts = refl;
  heard =
      hears_nothing g.P.Platform.performed (rules_of g.P.Platform.answer g.P.Platform.after g.P.Platform.sensed) g.L.Watch.sees
      g.met.P.Platform.none_performed
      (shown g.C.Ticks.to_come g.W.Write.contents c.args.line.now c.args.writer.now);
  works = c.requires;
  flushed = λ was. was;
}

pub loop-first-preserved : goal.loop-first-preserved
loop-first-preserved g c =
    let i = c.loop-first.invariant in
    let first = c.in-Some.first.now in
    let split : c.loop-first.rest.now ≡ first ∷ c.in-Some.others.now = search rules in
    record {
      taken = i.taken ++ first ∷ [];
      parts = i.parts ∙ ap (λ l. i.taken ++ l) split ∙ sym (append_assoc i.taken (first ∷ []) c.in-Some.others.now);
      heard =
          hears_after g.P.Platform.performed (rules_of g.P.Platform.answer g.P.Platform.after g.P.Platform.sensed) g.L.Watch.sees
          g.met.P.Platform.performed_in_turn
          (shown g.C.Ticks.to_come g.W.Write.contents c.args.line.now c.args.writer.now) i.taken (first ∷ [])
          (shown g.C.Ticks.to_come g.W.Write.contents c.loop-first.line c.loop-first.writer)
          (shown g.C.Ticks.to_come g.W.Write.contents c.hear_byte.new.line c.hear_byte.new.writer)
          i.heard c.in-Ok.ensures.heard;
      works = search rules;
      flushed = search rules;
    }

pub returns-in-Err-clause-stopped : goal.returns-in-Err-clause-stopped
returns-in-Err-clause-stopped g c =
    let i = c.loop-first.invariant in
    λ other.
    front_heard g.P.Platform.performed (rules_of g.P.Platform.answer g.P.Platform.after g.P.Platform.sensed) g.L.Watch.sees
    g.met.P.Platform.performed_in_turn
    (shown g.C.Ticks.to_come g.W.Write.contents c.args.line.now c.args.writer.now) i.taken
    (shown g.C.Ticks.to_come g.W.Write.contents c.loop-first.line c.loop-first.writer)
    (Some c.args.piece.now) (Some c.loop-first.rest.now) c.in-Err.fault
    (shown g.C.Ticks.to_come g.W.Write.contents c.hear_byte.new.line c.hear_byte.new.writer)
    i.parts i.heard (c.in-Err.ensures.stopped other)
