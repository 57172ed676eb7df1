-- The requests of the log come from the endpoints of the steps that open them, so what holds of each of these endpoints
-- holds of each source.
use Rattle.std.proofs.Common.{◌≡◌, ◌≢◌, ℕ, List, [], ◌∷◌, Some, Bool, true, false, refl, sym, ap, ◌∙◌, subst, ⊎_elim, eqb-true}
use Rattle.std.specs.Prelude.{◌||◌, ◌==◌, if◌then◌else◌}
use Rattle.std.specs.List.{AllByRecursion}
use Rattle.pldm_requester.specs.Calls.{accepts}
use Rattle.mctp_schedule.specs.Logs.{Asked, Happening, Opened, asked_at, count_of}
use Rattle.schedule_text.specs.Schedules.{has_requester}
use Rattle.mctp_schedule.specs.Worlds.{BothEnds, World, asked_by, busy_packet, done, reply_packet, requests_of, source_of, timing_of, world}
use Rattle.schedule_text.specs.declared.step.RequesterLine.{RequesterLine}
use Rattle.mctp_schedule.specs.Actions.{Action, Step, is_known}
use Rattle.mctp_schedule.specs.Actions as actions
use Rattle.mctp_schedule.proofs.FirstPerformed.{request_opened}
use Rattle.mctp_schedule.proofs.KnownRequests.{handed_log}

-- an action that opens a request does so at an endpoint of which P holds
abbrev pub OpensAt : (ℕ → Type 0) → Action → Type 0
OpensAt P (actions.Open e ask) = P e
OpensAt P (actions.Tick e) = Unit {0}
OpensAt P (actions.Request k) = Unit {0}
OpensAt P (actions.Reply j k) = Unit {0}
OpensAt P (actions.Sense id value) = Unit {0}
OpensAt P actions.Restart = Unit {0}
OpensAt P (actions.Busy k) = Unit {0}

abbrev pub EachOpensAt : (ℕ → Type 0) → List Step → Type 0
EachOpensAt P [] = Unit {0}
EachOpensAt P (step ∷ past) = OpensAt P step.action × EachOpensAt P past

module _ {S : Type 0} (setting : BothEnds S) (P : ℕ → Type 0) where
  abbrev Sources : World → Type 0
  Sources w = (k : ℕ) (r : Asked) → asked_at w.log k ≡ Some r → P r.source

  sources_done : (w : World) (moment : ℕ) (action : Action) → OpensAt P action → Sources w → Sources (done setting w moment action)
  sources_done w moment (actions.Open e ask) here s k r is = go (accepts (timing_of setting e).keep setting.pace (requests_of setting w e) moment) is
    where
      go : (b : Bool) → asked_at (if b then Opened (asked_by setting w moment e ask) ∷ w.log else w.log) k ≡ Some r → P r.source
      go false f = s k r f
      go true f =
          ⊎_elim
          (λ (x : (k ≡ count_of w.log) × (asked_by setting w moment e ask ≡ r)). subst (λ (q : Asked). P q.source) x.1 here)
          (λ (x : (k ≢ count_of w.log) × (asked_at w.log k ≡ Some r)). s k r x.1)
          (request_opened (asked_by setting w moment e ask) w.log k r f)
  sources_done w moment (actions.Tick e) here s k r is = s k r is
  sources_done w moment (actions.Request i) here s k r is = s k r is
  sources_done w moment (actions.Sense id value) here s k r is = s k r is
  sources_done w moment actions.Restart here s k r is = s k r is
  sources_done w moment (actions.Reply j i) here s k r is =
      s k r (ap (λ (log : List Happening). asked_at log k) (sym (handed_log setting w moment (source_of (asked_at w.log i)) (reply_packet setting w i j))) ∙ is)
  sources_done w moment (actions.Busy i) here s k r is =
      s k r (ap (λ (log : List Happening). asked_at log k) (sym (handed_log setting w moment (source_of (asked_at w.log i)) (busy_packet setting w i))) ∙ is)

  pub sources_of : (steps : List Step) → EachOpensAt P steps → (k : ℕ) (r : Asked) → asked_at (world setting steps).log k ≡ Some r → P r.source
  sources_of [] each = λ k r is. absurd (cc)
  sources_of (step ∷ past) each = sources_done (world setting past) step.moment step.action each.0 (sources_of past each.1)

-- the requester of a known action is that of a line
module _ (P : ℕ → Type 0) where
  found_line : (e : ℕ) (lines : List RequesterLine) → AllByRecursion (λ (line : RequesterLine). P line.eid) lines → has_requester lines e ≡ true → P e
  found_line e [] each known = cc
  found_line e (line ∷ lines) each known = go (line.eid == e) refl (found_line e lines each.1) known
    where
      go : (b : Bool) → (line.eid == e) ≡ b → (has_requester lines e ≡ true → P e) → (b || has_requester lines e) ≡ true → P e
      go true same rest k = subst P (eqb-true line.eid e same) each.0
      go false other rest k = rest k

  known_opens_at : (lines : List RequesterLine) → AllByRecursion (λ (line : RequesterLine). P line.eid) lines → (action : Action) → is_known lines action ≡ true → OpensAt P action
  known_opens_at lines each (actions.Open e ask) known = found_line e lines each known
  known_opens_at lines each (actions.Tick e) known = tt
  known_opens_at lines each (actions.Request k) known = tt
  known_opens_at lines each (actions.Reply j k) known = tt
  known_opens_at lines each (actions.Sense id value) known = tt
  known_opens_at lines each actions.Restart known = tt
  known_opens_at lines each (actions.Busy k) known = tt

  -- where each action is known, and P holds of the endpoint of each requester line
  pub each_known_opens_at : (lines : List RequesterLine) → AllByRecursion (λ (line : RequesterLine). P line.eid) lines → (steps : List Step) → AllByRecursion (λ (step : Step). is_known lines step.action ≡ true) steps → EachOpensAt P steps
  each_known_opens_at lines each [] known = tt
  each_known_opens_at lines each (step ∷ past) known = (known_opens_at lines each step.action known.0, each_known_opens_at lines each past known.1)
