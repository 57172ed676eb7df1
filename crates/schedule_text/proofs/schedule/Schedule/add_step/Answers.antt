-- A step whose moment does not go back, of a requester that has a line.
use Rattle.std.proofs.Common.{◌≡◌, ◌≤◌, true, sym, ◌∙◌, arith}
use Rattle.schedule_text.specs.Schedules.{is_known, last_from}
use Rattle.schedule_text.proofs.ScheduleKept.{with_step_kept}
use Rattle.schedule_text.proofs.schedule.Schedule.add_step.Goals as goal

pub invariant_of-self-2 : goal.invariant_of-self-2
invariant_of-self-2 c =
    let lines = c.self.inside.requesters in
    let steps = c.self.inside.steps in
    let last : c.last_moment.result ≡ last_from 0 steps = c.last_moment.ensures in
    let moment = c.get.ensures.value in
    let later : last_from 0 steps ≤ c.args.step.moment = omega arith in
    let known : is_known lines c.args.step.action ≡ true = sym c.is_known.ensures ∙ c.if-not-is_known.false in
    rw c.in_ok-push.ensures.ok (with_step_kept (record { requesters = lines; steps = steps }) c.args.step c.self.invariant later known)
