-- The last step has the moment of the last run.
use Rattle.std.proofs.Common.{◌-◌, List, length, sym, ap, ◌∙◌}
use Rattle.std.specs.Prelude.{slice_get}
use Rattle.schedule_text.specs.MomentRuns.{moments_in}
use Rattle.schedule_text.specs.Schedules.{last_from}
use Rattle.schedule_text.specs.StepColumns.{spelled}
use Rattle.schedule_text.specs.declared.moments.MomentRun.{MomentRun}
use Rattle.schedule_text.proofs.MomentRuns.{last_step}
use Rattle.schedule_text.proofs.steps.Steps.last_moment.Goals as goal

pub returns-in-Some : goal.returns-in-Some
returns-in-Some c =
    let i = c.self.inside in
    let runs = i.moments.items in
    let steps = spelled (moments_in runs) i.marks.items i.numbers.items i.readings.items i.commands.items in
    c.get.ensures.value ∙ c.moment.ensures
    ∙ sym (last_step steps runs c.in-Some.run'.now c.self.invariant.1.timed c.self.invariant.0
    (c.in-Some.ensures.value ∙ ap (λ (rs : List MomentRun). slice_get rs (length rs - 1)) c.deref.ensures.value))
    ∙ ap (last_from 0) c.self.view_is
