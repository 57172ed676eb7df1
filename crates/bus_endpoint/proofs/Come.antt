-- A packet came: the endpoint took it, or dropped it, and then the control responder may have answered it.
use Rattle.std.proofs.Common.{◌≡◌, ℕ, List, Option, None, Some, refl, sym, ap, subst, ◌∙◌}
use Rattle.mctp_control.specs.declared.control_responder.ControlResponder.{ControlResponder}
use Rattle.mctp_packet.specs.declared.reason.Reason.{Reason}
use Rattle.pldm_endpoint.specs.Receiving.{HasReceived}
use Rattle.pldm_endpoint.specs.Stepping.{stepping}
use Rattle.pldm_endpoint.specs.TwoSteps.{EndpointView}
use Rattle.pldm_endpoint.specs.declared.step.MessageStep.{MessageStep}
use Rattle.pldm_endpoint.specs.declared.step.Step.{Step}
use Rattle.bus_endpoint.specs.BusViews.{BusView}
use Rattle.bus_endpoint.specs.Coming.{HasCome, IsInStep, IsStep, control_after, control_answer, dropped_for, eid_after, eid_in}
use Rattle.bus_endpoint.specs.declared.step.BusStep.{BusStep}
use Rattle.bus_endpoint.specs.declared.step.BusStep.TheVariants.{Pldm}

unanswered : (control : Option ControlResponder) (now : ℕ) (bytes : List ℕ) → control_answer control now None bytes ≡ None
unanswered None now bytes = refl
unanswered (Some c) now bytes = refl

as_before : (control : Option ControlResponder) (now : ℕ) (bytes : List ℕ) → control_after control now None bytes ≡ control
as_before None now bytes = refl
as_before (Some c) now bytes = refl

pub come_taken : (old : BusView) (now : ℕ) (bytes reply : List ℕ) (endpoint : EndpointView) (step : MessageStep) → HasReceived old.endpoint now bytes endpoint (stepping reply step)
    → None ≡ dropped_for (stepping reply step) → HasCome old now bytes (record { endpoint = endpoint; control = old.control }) reply (Pldm step)
come_taken old now bytes reply endpoint step received none = record {
  endpoint = endpoint;
  taken = stepping reply step;
  received = received;
  step_is =
      subst (λ (d : Option Reason). IsStep reply (stepping reply step) (control_answer old.control now d bytes) (Pldm step)) none
      (subst (λ (a : Option (List ℕ)). IsStep reply (stepping reply step) a (Pldm step)) (sym (unanswered old.control now bytes)) refl);
  control =
      sym (as_before old.control now bytes) ∙ ap (λ (d : Option Reason). control_after old.control now d bytes) none;
  in_step =
      subst (λ (d : Option Reason). IsInStep endpoint now (eid_after old.control now d bytes) endpoint) none refl;
}

pub come_dropped : (old : BusView) (now : ℕ) (bytes reply : List ℕ) (endpoint new : EndpointView) (control : Option ControlResponder) (taken : Step) (reason : Reason) (answer : Option (List ℕ)) (step : BusStep)
    → HasReceived old.endpoint now bytes endpoint taken → Some reason ≡ dropped_for taken
    → IsStep reply taken answer step → answer ≡ control_answer old.control now (Some reason) bytes
    → control ≡ control_after old.control now (Some reason) bytes → IsInStep endpoint now (eid_in control) new
    → HasCome old now bytes (record { endpoint = new; control = control }) reply step
come_dropped old now bytes reply endpoint new control taken reason answer step received dropped is answer_is control_is in_step = record {
  endpoint = endpoint;
  taken = taken;
  received = received;
  step_is =
      subst (λ (d : Option Reason). IsStep reply taken (control_answer old.control now d bytes) step) dropped
      (subst (λ (a : Option (List ℕ)). IsStep reply taken a step) answer_is is);
  control = control_is ∙ ap (λ (d : Option Reason). control_after old.control now d bytes) dropped;
  in_step =
      subst (λ (d : Option Reason). IsInStep endpoint now (eid_after old.control now d bytes) new) dropped
      (subst (λ (c : Option ControlResponder). IsInStep endpoint now (eid_in c) new) control_is in_step);
}
