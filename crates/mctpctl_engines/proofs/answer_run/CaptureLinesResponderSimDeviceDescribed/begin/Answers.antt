-- Before the first line the responder is new.
use Rattle.std.proofs.Common.{◌≡◌, ◌+◌, ap, ◌∙◌}
use Rattle.mctpctl_engines.specs.LineRuns.{lines_written}
use Rattle.mctpctl_engines.specs.HeldRuns.{held_step}
use Rattle.pldm_responder.specs.ResponderStates.{ResponderState, IsHeld}
use Rattle.pldm_responder.specs.ResponderViews.{held_of}
use Rattle.mctpctl_engines.proofs.answer_run.CaptureLinesResponderSimDeviceDescribed.begin.Goals as goal

same_held : {S : Type 0} (new held : ResponderState S) → IsHeld new held → new ≡ held
same_held new held same = λ i. record {
  own = same.own i;
  busy = same.busy i;
  window = same.window i;
  keep = same.keep i;
  open_messages = same.open_messages i;
  kept = λ source. same.kept source i;
  state = same.state i;
  serves_from = same.serves_from i;
  last = same.last i;
}

pub returns-clause-gives : goal.returns-clause-gives
returns-clause-gives c = λ is_cut lines.
    ap (λ n. lines_written held_step is_cut (n + 1) (held_of c.new.result.task) lines) c.new.ensures.ended
    ∙ ap (λ t. lines_written held_step is_cut 1 (held_of t) lines) c.new.ensures.task
    ∙ ap (λ h. lines_written held_step is_cut 1 h lines) (same_held _ _ c.bounded-responder.ensures.held)
