-- The last moment of what answers, after a packet, is that of the packet.
use Rattle.std.proofs.Common.{◌≡◌, ℕ, Bool, true, false, List, Option, Some, None, refl, if◌then◌else◌}
use Rattle.std.specs.Prelude.{◌==◌}
use Rattle.mctp_control.specs.Dropped.{control_left}
use Rattle.mctp_control.specs.declared.control_responder.ControlResponder.{ControlResponder}
use Rattle.pldm_line.specs.Serving.{Answerers, answerers_after, packet_after, with_eid}
use Rattle.pldm_responder.specs.ResponderStates.{ResponderState}
use Rattle.pldm_responder.specs.Performing.{Rules}
use Rattle.pldm_responder.specs.Steps.{assigned_held, received_held, received_outcome}
use Rattle.pldm_responder.specs.declared.outcome.Outcome.{Outcome}
use Rattle.pldm_responder.specs.declared.outcome.Outcome.TheVariants as outcome

either_last : {S : Type 0} (t : Bool) (held : ResponderState S) (moment eid : ℕ) → held.last ≡ moment → (if t then held else assigned_held held moment eid).last ≡ moment
either_last true held moment eid last = last
either_last false held moment eid last = refl

with_eid_last : {S : Type 0} (held : ResponderState S) (moment : ℕ) (eid : Option ℕ) → held.last ≡ moment → (with_eid held moment eid).last ≡ moment
with_eid_last held moment None last = last
with_eid_last held moment (Some eid) last = either_last (held.own == eid) held moment eid last

after_by : {S : Type 0} (held : ResponderState S) (moment : ℕ) (control : ControlResponder) (packet : List ℕ) (came : Outcome) → held.last ≡ moment → (answerers_after held moment control packet came).held.last ≡ moment
after_by held moment control packet (outcome.Dropped reason) last = with_eid_last held moment (control_left control moment reason packet).eid last
after_by held moment control packet outcome.Partial last = last
after_by held moment control packet (outcome.Answered fresh changed packets) last = last

pub last_after : {S : Type 0} (device : Rules S) (a : Answerers S) (moment : ℕ) (packet : List ℕ) → (packet_after device a moment packet).held.last ≡ moment
last_after device a moment packet =
    after_by (received_held device a.held moment packet) moment a.control packet (received_outcome device a.held moment packet) refl
