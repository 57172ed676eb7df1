-- What a run holds before its first step, and that each step may come after those before it.
use Rattle.std.proofs.Common.{◌≡◌, ℕ, ◌≤◌, true, List, [], ◌∷◌, ◌++◌, length, refl, sym, ap, subst, ◌∙◌, arith}
use Rattle.std.specs.Prelude.{find, reverse, slice_get}
use Rattle.std.proofs.lemmas.List.{reverse-append}
use Rattle.pldm_wire.specs.declared.restart_policy.RestartPolicy.TheVariants.{All}
use Rattle.mctp_packet.specs.Ids.{IsEid}
use Rattle.pldm_responder.specs.ResponderStates as device_held
use Rattle.pldm_responder.specs.Laws as device_laws
use Rattle.pldm_responder.specs.ResponderViews as responder_stations
use Rattle.pldm_requester.specs.Laws.{NewLooksBack, SameIsLeft}
use Rattle.pldm_requester.specs.Slots.{held_of}
use Rattle.pldm_requester.specs.Pacing.{at_default}
use Rattle.pldm_requester.specs.Steps as requester_held
use Rattle.pldm_requester.specs.Steps.{paced_at_first}
use Rattle.mctp_schedule.specs.Logs.{endpoint_of}
use Rattle.mctp_schedule.specs.ArrivedIds.{ids_at}
use Rattle.mctp_schedule.specs.Askers.{Side}
use Rattle.mctp_schedule.specs.HeldRuns.{HeldRun}
use Rattle.mctp_schedule.specs.Places.{BeginEach, Begins}
use Rattle.mctp_schedule.specs.Running.{IsRunning, IsSide, MayCome}
use Rattle.schedule_text.specs.Schedules.{AreKnown, NeverGoBack, is_known, is_requester}
use Rattle.mctp_schedule.specs.Worlds.{BothEnds, time_now, timing_from, timing_of, world}
use Rattle.mctp_schedule.proofs.RestedRequesters.{first_there}
use Rattle.mctp_schedule.proofs.TimelyLogs.{keep_is}
use Rattle.mctp_schedule.specs.declared.journal.Journal.{Journal}
use Rattle.schedule_text.specs.declared.step.RequesterLine.{RequesterLine}
use Rattle.mctp_schedule.specs.Actions.{as_action, as_step, as_steps}
use Rattle.mctp_schedule.specs.Actions as actions
use Rattle.schedule_text.specs.declared.step.Action.{Action}
use Rattle.schedule_text.specs.declared.step.Action.TheVariants as text
use Rattle.schedule_text.specs.declared.step.Step.{Step}

-- a journal of no step
pub record IsEmpty (journal : Journal) : Type 0 where
  pub entries : journal.entries ≡ []
  pub requests : journal.requests.items ≡ []
  pub traffic : journal.traffic.items ≡ []
  pub order : journal.order.items ≡ []
  pub timely : journal.timely ≡ true

pub begins : {P S : Type 0} (setting : BothEnds S) (run : HeldRun P S) → run.keep ≡ setting.keep → run.window ≡ setting.window → setting.pace ≡ at_default setting.keep → IsEid setting.eid → device_laws.NewLooksBack setting.device → device_laws.SameIsLeft setting.device
    → NewLooksBack → SameIsLeft → device_held.IsHeld (responder_stations.held_of run.responder) (device_held.held_at_first setting.eid All setting.window setting.keep setting.start) → BeginEach setting.eid setting.keep setting.requesters run.places → IsEmpty run.journal → ((source : ℕ) → ids_at run.arrivals source ≡ [])
    → IsRunning setting [] run
begins setting run times window paced eid device_new device_same new same held each empty none_arrived = record {
  times = times;
  pace = paced;
  window = window;
  device = record {
    endpoint = eid;
    left = device_same setting.eid All setting.window setting.keep setting.start (responder_stations.held_of run.responder) (device_held.held_at_first setting.eid All setting.window setting.keep setting.start) [] held (device_new setting.eid All setting.window setting.keep setting.start);
    events = refl;
    called = let l = held.last in omega (arith, l);
  };
  sides = λ e has. let s = each e has in (s.0, s.1, side e s.0 s.2);
  opened = λ k r is. absurd (cc);
  requests = λ k. ap (λ rs. slice_get rs k) empty.requests;
  counted = ap (λ xs. length xs) empty.requests;
  traffic = λ k r is. absurd (cc);
  carried = ap (λ xs. length xs) empty.traffic;
  entries = empty.entries;
  order = empty.order;
  arrived = none_arrived;
  timely = empty.timely;
  sent = tt;
  fit = tt;
}
  where
    side : (e : ℕ) (s : Side) → Begins setting.eid setting.keep setting.requesters e s → IsSide setting (world setting []) 0 e s
    side e s b = record {
      endpoint = b.endpoint;
      other = b.other;
      left =
          let timing = timing_of setting e in
          let goes : setting.pace ≡ at_default timing.keep = paced ∙ ap at_default (sym (keep_is setting e)) in
          let first = first_there e b.endpoint in
          same (endpoint_of e) setting.eid timing setting.pace (held_of s.station) (paced_at_first (endpoint_of e) setting.eid timing setting.pace) []
          (subst (λ pace. requester_held.IsHeld (held_of s.station) (paced_at_first (endpoint_of e) setting.eid timing pace)) (sym goes)
          (subst (λ d. requester_held.IsHeld (held_of s.station) (requester_held.held_at_first d setting.eid (timing_from setting.keep (find (is_requester d) setting.requesters)))) (sym first) b.held))
          (new (endpoint_of e) setting.eid timing setting.pace);
      numbers = b.numbers;
      counted = refl;
      numbered = λ own k is. absurd (cc);
      called = let l = b.held.last in omega (arith, l);
    }

-- ---- the steps so far, and one more
pub done_more : (done : List Step) (step : Step) → as_steps (reverse (done ++ step ∷ [])) ≡ as_step step ∷ as_steps (reverse done)
done_more done step = ap (λ steps. as_steps steps) (reverse-append done (step ∷ []))

abbrev time_or : ℕ → List Step → ℕ
time_or moment [] = moment
time_or moment (step ∷ steps) = step.moment

abbrev last_of : ℕ → List Step → ℕ
last_of moment [] = moment
last_of moment (step ∷ steps) = last_of step.moment steps

-- a step that comes after these
in_order_after : (moment : ℕ) (done rest : List Step) (step : Step) → NeverGoBack moment (done ++ step ∷ rest) → last_of moment done ≤ step.moment
in_order_after moment [] rest step order = order.0
in_order_after moment (first ∷ done) rest step order = in_order_after first.moment done rest step order.1

known_after : (requesters : List RequesterLine) (done rest : List Step) (step : Step) → AreKnown requesters (done ++ step ∷ rest) → is_known requesters step.action ≡ true
known_after requesters [] rest step known = known.0
known_after requesters (first ∷ done) rest step known = known_after requesters done rest step known.1

time_last : (moment : ℕ) (steps : List Step) (step : Step) → time_or moment (steps ++ step ∷ []) ≡ time_or step.moment steps
time_last moment [] step = refl
time_last moment (first ∷ steps) step = refl

time_reversed : (moment : ℕ) (steps : List Step) → time_or moment (reverse steps) ≡ last_of moment steps
time_reversed moment [] = refl
time_reversed moment (step ∷ steps) = ap (time_or moment) (reverse-append (step ∷ []) steps) ∙ time_last moment (reverse steps) step ∙ time_reversed step.moment steps

time_is : (steps : List Step) → time_now (as_steps steps) ≡ time_or 0 steps
time_is [] = refl
time_is (step ∷ steps) = refl

same_known : (requesters : List RequesterLine) (action : Action) → actions.is_known requesters (as_action action) ≡ is_known requesters action
same_known requesters (text.Open e command) = refl
same_known requesters (text.Tick e) = refl
same_known requesters (text.Request k) = refl
same_known requesters (text.Reply j k) = refl
same_known requesters (text.Sense id value) = refl
same_known requesters text.Restart = refl
same_known requesters (text.Busy k) = refl

pub may_come : (requesters : List RequesterLine) (steps done rest : List Step) (step : Step) → steps ≡ done ++ step ∷ rest → NeverGoBack 0 steps → AreKnown requesters steps → MayCome requesters (as_steps (reverse done)) (as_step step)
may_come requesters steps done rest step all order known = record {
  later =
      let t = time_is (reverse done) ∙ time_reversed 0 done in
      let l = in_order_after 0 done rest step (subst (NeverGoBack 0) all order) in
      omega (arith, t, l);
  known = same_known requesters step.action ∙ known_after requesters done rest step (subst (AreKnown requesters) all known);
}
