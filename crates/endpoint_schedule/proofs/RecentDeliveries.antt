-- Over a timely schedule a request comes while its requester opened at most 31 after it: what its requester was called
-- with is in order, and the log has its opening.
use Rattle.std.proofs.Common.{◌≡◌, ℕ, true, List, [], ◌∷◌, ap, ◌∙◌, subst, arith}
use Rattle.std.proofs.lemmas.Bool.{cond-true}
use Rattle.pldm_requester.specs.Asks.{Ask}
use Rattle.pldm_requester.specs.Calls.{accepts}
use Rattle.pldm_requester.specs.Laws.{IdsApart}
use Rattle.event_queue.specs.Laws.{ComesBeforeItsIdIsUsed}
use Rattle.endpoint_schedule.specs.RecentDeliveries.{ComesWhileRecent}
use Rattle.mctp_schedule.specs.Laws.{PacedLogIsTimely}
use Rattle.mctp_schedule.specs.Logs.{Happening, Opened, endpoint_of}
use Rattle.mctp_schedule.specs.RequesterHalf.{IsTimelySchedule}
use Rattle.mctp_schedule.specs.Timely.{AreApart}
use Rattle.mctp_schedule.specs.Worlds.{BothEnds, asked_by, done, requests_of, time_now, timing_of, world}
use Rattle.mctp_schedule.proofs.AnsweredWhereTaken.{sound_before}
use Rattle.mctp_schedule.proofs.TimelyLogs.{Frees, Joined, joined_none, joined_step}
use Rattle.mctp_schedule.specs.Actions.{Action}
use Rattle.mctp_schedule.specs.Actions as actions
use Rattle.mctp_schedule.specs.Actions.{Step}

module _ {S : Type 0} (setting : BothEnds S) (ids : IdsApart) (logs : PacedLogIsTimely setting) where
  -- the steps before the newest are such a schedule too
  pub schedule_before : (step : Step) (past : List Step) → IsTimelySchedule setting (step ∷ past) → IsTimelySchedule setting past
  schedule_before step past s = record {
    order = s.order.1;
    timely = s.timely.1;
    sound = sound_before setting step past s.sound;
  }

  -- in a log that is apart an accepted open finds its instance ID free
  frees_where_apart : (past : List Step) (moment e : ℕ) (ask : Ask) (action : Action)
      → AreApart S setting.window setting.keep setting.pace.lifetime (done setting (world setting past) moment action).log
      → action ≡ actions.Open e ask
      → accepts (timing_of setting e).keep setting.pace (requests_of setting (world setting past) e) moment ≡ true
      → Frees setting (world setting past) moment e ask
  frees_where_apart past moment e ask action apart is accepted k q asked s i =
      let w = world setting past in
      let new = asked_by setting w moment e ask in
      let log : (done setting w moment action).log ≡ Opened new ∷ w.log =
      ap (λ (a : Action). (done setting w moment a).log) is
      ∙ cond-true (accepts (timing_of setting e).keep setting.pace (requests_of setting w e) moment) (Opened new ∷ w.log) w.log accepted in
      let here = subst (λ (l : List Happening). AreApart S setting.window setting.keep setting.pace.lifetime l) log apart in
      (here.0 k q asked (ap (λ d. endpoint_of d) s) i).1

  -- so what the requesters were called with is joined to the log
  pub joined_so : (steps : List Step) → IsTimelySchedule setting steps → Joined setting (world setting steps) (time_now steps)
  joined_so [] s = joined_none setting
  joined_so (step ∷ past) s =
      joined_step setting ids s.sound.pace.within (world setting past) (time_now past) step.moment step.action s.sound.rested
      (λ e ask is accepted. frees_where_apart past step.moment e ask step.action (logs (step ∷ past) s).apart is accepted)
      (joined_so past (schedule_before step past s)) s.order.0 s.timely.0

  pub comes_while_recent : ComesBeforeItsIdIsUsed → ComesWhileRecent setting
  comes_while_recent before past moment k r s later timely asked =
      let j = joined_so past s in
      let m = j.matches k r asked in
      let last = j.called r.source in
      let soon = (timely r asked).soon in
      let opening = m.opening in
      before (endpoint_of r.source) setting.eid (timing_of setting r.source) setting.pace ((world setting past).calls r.source) r.own moment
      (j.calls r.source) (omega (arith, last, later)) m.within (omega (arith, soon, opening))
