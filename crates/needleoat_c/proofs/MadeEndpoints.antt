-- An endpoint and what answers its control messages are made with one endpoint ID.
use Rattle.std.proofs.Common.{◌≡◌, ℕ, Bool, true, false, Option, None, Some, refl, sym, subst, ◌∙◌}
use Rattle.std.specs.Prelude.{if◌then◌else◌}
use Rattle.bus_endpoint.specs.BusViews.{HaveOneEid}
use Rattle.mctp_control.specs.declared.control_responder.ControlResponder.{ControlResponder}
use Rattle.needleoat_c.specs.Endpoints.{IsStarted, started}
use Rattle.needleoat_c.specs.Settings.{control_in, first_eid, handed_in, keeping_in, responder_in}
use Rattle.needleoat_c.specs.declared.settings.EndpointSettings.{EndpointSettings}
use Rattle.pldm_endpoint.specs.TwoSteps.{EndpointView}
use Rattle.pldm_responder.specs.Ends.{eid_or_null}
use Rattle.pldm_responder.specs.declared.responder_settings.ResponderSettings.{ResponderSettings}
use Rattle.pldm_wire.specs.declared.pass_through.PassThrough.{PassThrough}

started_own : (own : ℕ) (handed : PassThrough) (k : ResponderSettings) (first : Bool) (now : ℕ) → (started own handed k first now).own ≡ own
started_own own handed k true now = refl
started_own own handed k false now = refl

by_answers : (answers : Bool) (c : ControlResponder) (endpoint : EndpointView) → eid_or_null c.eid ≡ endpoint.end.own → HaveOneEid endpoint (if answers then Some c else None)
by_answers true c endpoint same = same
by_answers false c endpoint same = tt

pub one_at_start : (s : EndpointSettings) (now : ℕ) (endpoint : EndpointView) (control : Option ControlResponder) → IsStarted s now endpoint → control ≡ control_in s → HaveOneEid endpoint control
one_at_start s now endpoint control made is =
    subst (λ (c : Option ControlResponder). HaveOneEid endpoint c) (sym is)
    (by_answers s.answers_control (responder_in s) endpoint
    (sym (made.held.own ∙ started_own (eid_or_null (first_eid s)) (handed_in s) (keeping_in s) s.first_start now)))

-- it has the endpoint ID that the settings say
pub own_at_start : (s : EndpointSettings) (now : ℕ) (endpoint : EndpointView) → IsStarted s now endpoint → endpoint.end.own ≡ eid_or_null (first_eid s)
own_at_start s now endpoint made =
    made.held.own ∙ started_own (eid_or_null (first_eid s)) (handed_in s) (keeping_in s) s.first_start now
