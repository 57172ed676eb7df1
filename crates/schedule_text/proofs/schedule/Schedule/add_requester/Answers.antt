-- A requester that none of the others is.
use Rattle.std.proofs.Common.{◌≡◌, false, sym, ◌∙◌}
use Rattle.schedule_text.specs.Schedules.{has_requester}
use Rattle.schedule_text.proofs.ScheduleKept.{with_requester_kept}
use Rattle.schedule_text.proofs.schedule.Schedule.add_requester.Goals as goal

pub invariant_of-self-2 : goal.invariant_of-self-2
invariant_of-self-2 c =
    let lines = c.self.inside.requesters in
    let none : has_requester lines c.args.line.eid ≡ false = sym c.has.ensures ∙ c.if-has.false in
    rw c.in_ok-push.ensures.ok (with_requester_kept (record { requesters = lines; steps = c.self.inside.steps }) c.args.line c.self.invariant none)
