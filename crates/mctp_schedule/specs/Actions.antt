-- What is done at the steps of a run of both ends. A schedule's text opens requests for commands; here a request may
-- ask for anything, of any PLDM type.
use Rattle.std.specs.Prelude.{ℕ, ℤ, Bool, true, List, map}
use Rattle.std.specs.List.{AllByRecursion}
use Rattle.pldm_requester.specs.Asks.{Ask, ask_of}
use Rattle.pldm_wire.specs.Kinds.{IsKind}
use Rattle.pldm_wire.specs.declared.command.Command.{Command}
use Rattle.schedule_text.specs.Schedules.{has_requester}
use Rattle.schedule_text.specs.declared.step.Action.{Action as TextAction}
use Rattle.schedule_text.specs.declared.step.Action.TheVariants as text
use Rattle.schedule_text.specs.declared.step.RequesterLine.{RequesterLine}
use Rattle.schedule_text.specs.declared.step.Step.{Step as TextStep}

pub data Action : Type 0 where
  -- the requester at an endpoint opens a request, or sends again and gives up what is due
  Open : (eid : ℕ) → (ask : Ask) → Action
  Tick : (eid : ℕ) → Action
  -- the packet of request k comes to the device
  Request : (k : ℕ) → Action
  -- packet j of the latest reply to request k comes to its requester, or the latest busy answer to it
  Reply : (j k : ℕ) → Action
  Busy : (k : ℕ) → Action
  -- a sensor of the device gets a reading; the device's end restarts
  Sense : (id : ℕ) → (value : ℤ) → Action
  Restart : Action

pub record Step : Type 0 where
  pub moment : ℕ
  pub action : Action

-- a request for a command
abbrev pub open_for : ℕ → Command → Action
open_for eid command = Open eid (ask_of command)

-- what a schedule's text says
abbrev pub as_action : TextAction → Action
as_action (text.Open eid command) = open_for eid command
as_action (text.Tick eid) = Tick eid
as_action (text.Request k) = Request k
as_action (text.Reply j k) = Reply j k
as_action (text.Sense id value) = Sense id value
as_action text.Restart = Restart
as_action (text.Busy k) = Busy k

abbrev pub as_step : TextStep → Step
as_step step = record { moment = step.moment; action = as_action step.action }

abbrev pub as_steps : List TextStep → List Step
as_steps steps = map as_step steps

-- a request that is opened is of a PLDM type that there is
abbrev pub IsOfKind : Action → Type 0
IsOfKind (Open eid ask) = IsKind ask.kind
IsOfKind _ = Unit {0}

abbrev pub AreOfKinds : List Step → Type 0
AreOfKinds steps = AllByRecursion (λ step. IsOfKind step.action) steps

-- the requester of an action is that of one of these lines
abbrev pub is_known : List RequesterLine → Action → Bool
is_known requesters (Open eid ask) = has_requester requesters eid
is_known requesters (Tick eid) = has_requester requesters eid
is_known requesters _ = true
