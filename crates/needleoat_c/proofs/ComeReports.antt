-- What is reported of a packet is what came of it.
use Rattle.std.proofs.Common.{◌≡◌, ℕ, ◌≤◌, ◌==◌, Bool, true, false, List, Option, None, Some, MatchBool, sym, ap, subst, ◌∙◌, inl, arith}
use Rattle.std.proofs.lemmas.Bool.{ne_eqb}
use Rattle.bus_endpoint.specs.BusViews.{BusView}
use Rattle.bus_endpoint.specs.Coming.{HasCome, IsInStep, IsStep, control_after, control_answer, dropped_for, eid_after}
use Rattle.bus_endpoint.specs.declared.step.BusStep.{BusStep}
use Rattle.bus_endpoint.specs.declared.step.BusStep.TheVariants.{Pldm, Control}
use Rattle.needleoat_c.specs.Endpoints.{IsLeftByPacket, IsReceived, ReportsAllowed, ReportsCome, ReportsControl, ReportsPacketIn, ReportsStep, ReportsTaken, is_next, reply_of, step_of}
use Rattle.needleoat_c.specs.declared.kinds.TheConstants.{STEP_REFUSED}
use Rattle.needleoat_c.specs.declared.reports.StepReport.{StepReport}
use Rattle.pldm_endpoint.specs.Refusing.{refused_by}
use Rattle.pldm_endpoint.specs.Stepping.{stepping}
use Rattle.pldm_endpoint.specs.declared.step.ReceiveRefusal.{ReceiveRefusal}
use Rattle.pldm_endpoint.specs.declared.step.Step.{Step}

-- the report of what becomes of a packet
abbrev pub ReportsBus : List ℕ → BusStep → StepReport → List (List ℕ) → Type 0
ReportsBus reply (Pldm step) r rooms = ReportsStep (stepping reply step) r rooms
ReportsBus reply (Control packet) r rooms = ReportsControl packet.items r rooms

come_by : (reply : List ℕ) (taken : Step) (answer : Option (List ℕ)) (step : BusStep) (r : StepReport) (rooms : List (List ℕ)) → IsStep reply taken answer step → ReportsBus reply step r rooms → ReportsCome taken answer r rooms
come_by reply taken None (Pldm step) r rooms is h = subst (λ (s : Step). ReportsStep s r rooms) is h
come_by reply taken None (Control packet) r rooms is h = absurd is
come_by reply taken (Some answer) (Pldm step) r rooms is h = absurd is
come_by reply taken (Some answer) (Control packet) r rooms is h = subst (λ (l : List ℕ). ReportsControl l r rooms) is h

taken_by : (old : BusView) (now : ℕ) (bytes : List ℕ) (taken : Step) (r : StepReport) (rooms : List (List ℕ)) → taken ≡ step_of now bytes old
    → ReportsCome taken (control_answer old.control now (dropped_for taken) bytes) r rooms → ReportsCome (step_of now bytes old) (reply_of now bytes old) r rooms
taken_by old now bytes taken r rooms is h =
    subst (λ (s : Step). ReportsCome s (control_answer old.control now (dropped_for s) bytes) r rooms) is h

allowed_by : (refused : Option ReceiveRefusal) (old : BusView) (now : ℕ) (bytes : List ℕ) (r : StepReport) (rooms : List (List ℕ)) → refused ≡ None → ReportsTaken now bytes r rooms old → ReportsAllowed refused now bytes r rooms old
allowed_by refused old now bytes r rooms none h =
    subst (λ (o : Option ReceiveRefusal). ReportsAllowed o now bytes r rooms old) (sym none) h

at_next : (next : Bool) (P Q : Type 0) → next ≡ true → P → MatchBool next P Q
at_next true P Q is p = p
at_next false P Q is p = let no : ⊥ = cc in absurd no

pub come_allowed : (old new : BusView) (now : ℕ) (bytes reply : List ℕ) (step : BusStep) (r : StepReport) (rooms : List (List ℕ)) → HasCome old now bytes new reply step
    → ReportsBus reply step r rooms → ReportsAllowed (refused_by old.endpoint now bytes) now bytes r rooms old
come_allowed old new now bytes reply step r rooms come h =
    allowed_by (refused_by old.endpoint now bytes) old now bytes r rooms come.received.accepted
    (inl (taken_by old now bytes come.taken r rooms come.received.step_is
    (come_by reply come.taken (control_answer old.control now (dropped_for come.taken) bytes) step r rooms come.step_is h)))

pub come_reported : (old new : BusView) (now : ℕ) (bytes reply : List ℕ) (step : BusStep) (r : StepReport) (rooms : List (List ℕ)) → HasCome old now bytes new reply step → is_next now old ≡ true
    → ReportsBus reply step r rooms → ReportsPacketIn now bytes r rooms old
come_reported old new now bytes reply step r rooms come next h =
    at_next (is_next now old) _ _ next (come_allowed old new now bytes reply step r rooms come h)

at_other : (refused : Bool) (P Q : Type 0) → refused ≡ false → Q → MatchBool refused P Q
at_other true P Q is q = let no : ⊥ = cc in absurd no
at_other false P Q is q = q

received : (old new : BusView) (now : ℕ) (bytes reply : List ℕ) (step : BusStep) → HasCome old now bytes new reply step → IsReceived now bytes old new
received old new now bytes reply step come = record {
  endpoint = come.endpoint;
  taken = record {
    held = come.received.held;
    begun = come.received.begun;
    pending = come.received.pending;
    count = come.received.count;
    room = come.received.room;
    settings = come.received.settings;
  };
  control = come.control ∙ ap (λ (s : Step). control_after old.control now (dropped_for s) bytes) come.received.step_is;
  in_step =
      subst (λ (s : Step). IsInStep come.endpoint now (eid_after old.control now (dropped_for s) bytes) new.endpoint)
      come.received.step_is come.in_step;
}

pub come_left : (old new : BusView) (now : ℕ) (bytes reply : List ℕ) (step : BusStep) (kind : ℕ) → HasCome old now bytes new reply step → 1 ≤ kind → IsLeftByPacket now bytes kind old new
come_left old new now bytes reply step kind come some =
    at_other (kind == STEP_REFUSED) _ _ (ne_eqb kind STEP_REFUSED (λ same. omega (arith, some, same))) (received old new now bytes reply step come)
