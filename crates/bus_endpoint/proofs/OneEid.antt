-- An endpoint and its control responder have one endpoint ID after each call, as before it.
use Rattle.std.proofs.Common.{◌≡◌, ℕ, ◌==◌, Bool, true, false, List, [], ◌∷◌, Option, None, Some, MatchBool, refl, sym, ap, ◌∙◌}
use Rattle.std.proofs.lemmas.Bool.{eqb-true}
use Rattle.std.specs.Prelude.{if◌then◌else◌}
use Rattle.mctp_control.specs.Dropped.{control_left, is_handed_on}
use Rattle.mctp_control.specs.Packets.{assigned_in, left_by}
use Rattle.mctp_control.specs.Responding.{left_with}
use Rattle.mctp_control.specs.declared.control_responder.ControlResponder.{ControlResponder}
use Rattle.mctp_control.specs.declared.kept_assignments.KeptAssignment.{KeptAssignment}
use Rattle.mctp_packet.specs.declared.reason.Reason.{Reason}
use Rattle.pldm_endpoint.specs.Receiving.{HasReceived}
use Rattle.pldm_endpoint.specs.TwoSteps.{EndpointView, arrival_tasks, held_in, kept_by, stepped, unasked}
use Rattle.pldm_endpoint.specs.declared.step.Step.{Step}
use Rattle.pldm_responder.specs.Arrivals.{Arrival, Drop, Part, Whole}
use Rattle.pldm_responder.specs.Asked.{gives}
use Rattle.pldm_responder.specs.Ends.{eid_or_null}
use Rattle.pldm_responder.specs.Events.{Message}
use Rattle.pldm_responder.specs.ResponderStates.{ResponderState}
use Rattle.pldm_responder.specs.Performing.{Task}
use Rattle.pldm_responder.specs.Steps.{arrival_held, received_arrival}
use Rattle.pldm_wire.specs.HandingOn.{hands_on}
use Rattle.pldm_wire.specs.declared.pass_through.PassThrough.{PassThrough}
use Rattle.bus_endpoint.specs.BusViews.{HaveOneEid}
use Rattle.bus_endpoint.specs.Coming.{IsAssigned, IsInStep, control_after, eid_in}

-- ---- the endpoint alone keeps its endpoint ID
kept_by_own : {S : Type 0} (tasks : List Task) (m : Message) (answered held : ResponderState S) → answered.own ≡ held.own → (kept_by tasks m answered held).own ≡ held.own
kept_by_own [] m answered held same = same
kept_by_own (task ∷ tasks) m answered held same = refl

stepped_own : (handed : PassThrough) (held : ResponderState (Unit {0})) (a : Arrival) → (stepped handed held a).own ≡ held.own
stepped_own handed held (Drop reason) = refl
stepped_own handed held Part = refl
stepped_own handed held (Whole m) =
    kept_by_own (arrival_tasks handed held (Whole m)) m (arrival_held (gives (hands_on handed) unasked) held (Whole m)) held refl

pub received_own : (old new : EndpointView) (now : ℕ) (bytes : List ℕ) (step : Step) → HasReceived old now bytes new step → new.end.own ≡ old.end.own
received_own old new now bytes step h =
    h.held.own ∙ stepped_own old.handed_on (held_in old) (received_arrival (held_in old) now bytes)

-- ---- both

pub one_with : (old new : EndpointView) (control : Option ControlResponder) → new.end.own ≡ old.end.own → HaveOneEid old control → HaveOneEid new control
one_with old new None same one = tt
one_with old new (Some c) same one = one ∙ sym same

-- a control responder that has no endpoint ID after a packet had none before
left_with_none : (e : ControlResponder) (new : Option KeptAssignment) → (left_with e new).eid ≡ None → e.eid ≡ None
left_with_none e None h = h
left_with_none e (Some new) h = cc

by_handed : (handed : Bool) (e left : ControlResponder) → (left.eid ≡ None → e.eid ≡ None) → (if handed then left else e).eid ≡ None → e.eid ≡ None
by_handed true e left f h = f h
by_handed false e left f h = h

left_none : (e : ControlResponder) (now : ℕ) (reason : Reason) (bytes : List ℕ) → (control_left e now reason bytes).eid ≡ None → e.eid ≡ None
left_none e now reason bytes h =
    by_handed (is_handed_on reason bytes) e (left_by e now bytes) (left_with_none e (assigned_in e now bytes)) h

-- once the endpoint is in step with it, it has this endpoint ID
module _ (taken : EndpointView) (now : ℕ) (new : EndpointView) where
  by_same : (eid : ℕ) (same : Bool) → (taken.end.own == eid) ≡ same → MatchBool same (new ≡ taken) (IsAssigned taken now eid new) → eid ≡ new.end.own
  by_same eid true e in_step = sym (eqb-true taken.end.own eid e) ∙ ap (λ (v : EndpointView). v.end.own) (sym in_step)
  by_same eid false e in_step = sym in_step.held.own

  by_eid : (eid : Option ℕ) → (eid ≡ None → taken.end.own ≡ eid_or_null None) → IsInStep taken now eid new → eid_or_null eid ≡ new.end.own
  by_eid None had in_step = sym (had refl) ∙ ap (λ (v : EndpointView). v.end.own) (sym in_step)
  by_eid (Some eid) had in_step = by_same eid (taken.end.own == eid) refl in_step

  -- after a packet that the endpoint dropped
  pub one_after_drop : (old : EndpointView) (control : Option ControlResponder) (reason : Reason) (bytes : List ℕ) → HaveOneEid old control → taken.end.own ≡ old.end.own
      → IsInStep taken now (eid_in (control_after control now (Some reason) bytes)) new → HaveOneEid new (control_after control now (Some reason) bytes)
  one_after_drop old None reason bytes one same in_step = tt
  one_after_drop old (Some c) reason bytes one same in_step =
      by_eid (control_left c now reason bytes).eid
      (λ none. same ∙ sym one ∙ ap eid_or_null (left_none c now reason bytes none)) in_step
