-- What becomes of a packet at an endpoint that also answers control messages: the endpoint takes it first; where it
-- drops it, the control responder may answer it, and where that assigns an endpoint ID, both have it (DSP0236, "MCTP
-- control protocol").
use Rattle.std.specs.Prelude.{◌≡◌, ℕ, ◌<◌, ◌==◌, MatchBool, List, length, Option, None, Some, option_and_then}
use Rattle.mctp_control.specs.Dropped.{control_left, control_reply}
use Rattle.mctp_control.specs.declared.control_responder.ControlResponder.{ControlResponder}
use Rattle.mctp_packet.specs.declared.reason.Reason.{Reason}
use Rattle.pldm_endpoint.specs.Receiving.{HasForgotten, HasReceived}
use Rattle.pldm_endpoint.specs.Stepping.{StepHasReply, stepping}
use Rattle.pldm_endpoint.specs.TwoSteps.{EndpointView, held_in}
use Rattle.pldm_endpoint.specs.declared.step.Step.{Step}
use Rattle.pldm_endpoint.specs.declared.step.Step.TheVariants as step
use Rattle.pldm_responder.specs.ResponderStates.{IsHeld}
use Rattle.pldm_responder.specs.Steps.{assigned_held}
use Rattle.pldm_responder.specs.declared.outcome.Outcome.TheVariants as outcome
use Rattle.bus_endpoint.specs.BusViews.{BusView}
use Rattle.bus_endpoint.specs.declared.step.BusStep.{BusStep}
use Rattle.bus_endpoint.specs.declared.step.BusStep.TheVariants.{Pldm, Control}

-- why the endpoint dropped a packet, if it did
abbrev pub dropped_for : Step → Option Reason
dropped_for (step.Done (outcome.Dropped reason)) = Some reason
dropped_for (step.Done outcome.Partial) = None
dropped_for (step.Done (outcome.Answered fresh changed packets)) = None
dropped_for (step.Perform handle) = None
dropped_for (step.Respond handle) = None

-- the packet that answers one that comes now and that the endpoint dropped
abbrev pub control_answer : Option ControlResponder → ℕ → Option Reason → List ℕ → Option (List ℕ)
control_answer None now dropped packet = None
control_answer (Some control) now None packet = None
control_answer (Some control) now (Some reason) packet = control_reply control now reason packet

-- what answers control messages from then on
abbrev pub control_after : Option ControlResponder → ℕ → Option Reason → List ℕ → Option ControlResponder
control_after None now dropped packet = None
control_after (Some control) now None packet = Some control
control_after (Some control) now (Some reason) packet = Some (control_left control now reason packet)

-- its endpoint ID, where it has one
abbrev pub eid_in : Option ControlResponder → Option ℕ
eid_in control = option_and_then (λ c. c.eid) control

-- the endpoint ID that the endpoint has to have once it dropped a packet, if it did and there is one
abbrev pub eid_after : Option ControlResponder → ℕ → Option Reason → List ℕ → Option ℕ
eid_after control now None packet = None
eid_after control now (Some reason) packet = eid_in (control_after control now (Some reason) packet)

-- an endpoint got this endpoint ID at a moment: what had begun, was kept and was pending is forgotten
pub record IsAssigned (old : EndpointView) (now eid : ℕ) (new : EndpointView) : Type 0 where
  pub held : IsHeld (held_in new) (assigned_held (held_in old) now eid)
  pub forgotten : HasForgotten new old

-- it has this endpoint ID from then on; where it had it already, nothing has changed
abbrev pub IsInStep : EndpointView → ℕ → Option ℕ → EndpointView → Type 0
IsInStep old now None new = new ≡ old
IsInStep old now (Some eid) new = MatchBool (old.end.own == eid) (new ≡ old) (IsAssigned old now eid new)

-- the packet is answered as a control message with this, or it is what the endpoint makes of it
abbrev pub IsStep : List ℕ → Step → Option (List ℕ) → BusStep → Type 0
IsStep reply taken None (Pldm step) = stepping reply step ≡ taken
IsStep reply taken None (Control packet) = ⊥
IsStep reply taken (Some answer) (Pldm step) = ⊥
IsStep reply taken (Some answer) (Control packet) = packet.items ≡ answer

-- the bytes of a packet came at a moment; `reply` is the message that answers one of PLDM
pub record HasCome (old : BusView) (now : ℕ) (bytes : List ℕ) (new : BusView) (reply : List ℕ) (step : BusStep)
    : Type 0 where
  -- the endpoint once it has taken it, and what became of it there
  pub endpoint : EndpointView
  pub taken : Step
  pub received : HasReceived old.endpoint now bytes endpoint taken
  -- where it dropped it, the control responder may answer it
  pub step_is : IsStep reply taken (control_answer old.control now (dropped_for taken) bytes) step
  pub control : new.control ≡ control_after old.control now (dropped_for taken) bytes
  -- and the endpoint has the endpoint ID of that from then on
  pub in_step : IsInStep endpoint now (eid_after old.control now (dropped_for taken) bytes) new.endpoint

-- where there is an answer, it has bytes
abbrev pub BusStepHasReply : List ℕ → BusStep → Type 0
BusStepHasReply reply (Pldm step) = StepHasReply reply step
BusStepHasReply reply (Control packet) = 0 < length packet.items
