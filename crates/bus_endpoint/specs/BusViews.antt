-- What contracts see of an endpoint and its control responder.
use Rattle.std.specs.Prelude.{◌≡◌, Option, IfSome, refl}
use Rattle.std.specs.Coded.{Coded, code_by, coded×, coded_option}
use Rattle.mctp_control.specs.contracts.control_responder.ControlResponder as control_type
use Rattle.mctp_control.specs.declared.control_responder.ControlResponder.{ControlResponder}
use Rattle.pldm_endpoint.specs.TwoSteps.{EndpointView, coded_endpoint}
use Rattle.pldm_responder.specs.Ends.{eid_or_null}

-- the endpoint, and what answers its control messages, where those are answered
pub record BusView : Type 0 where
  pub endpoint : EndpointView
  pub control : Option ControlResponder

-- it is stored as its parts
abbrev pub coded_bus : Coded BusView
coded_bus =
    code_by (EndpointView × Option ControlResponder)
    (coded× coded_endpoint (coded_option control_type.the_row.coded))
    (λ b. (b.endpoint, b.control))
    (λ c. record { endpoint = c.0; control = c.1 })
    (λ _. refl)

-- both have one endpoint ID, or none
abbrev pub HaveOneEid : EndpointView → Option ControlResponder → Type 0
HaveOneEid endpoint control = IfSome control (λ c. eid_or_null c.eid ≡ endpoint.end.own)
