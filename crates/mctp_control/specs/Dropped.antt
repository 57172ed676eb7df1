-- Packets that the responder of PLDM dropped, and what the control responder answers to them (DSP0236,
-- "MCTP control protocol").
use Rattle.std.specs.Prelude.{ℕ, ◌==◌, Bool, false, true, if◌then◌else◌, List, ◌∷◌, Option, None}
use Rattle.mctp_packet.specs.declared.TheConstants.{NULL_EID}
use Rattle.mctp_packet.specs.declared.reason.Reason.{Reason}
use Rattle.mctp_packet.specs.declared.reason.Reason.TheVariants.{BadSource, NotPldm, UnknownDestination}
use Rattle.mctp_control.specs.Packets.{left_by, reply_to}
use Rattle.mctp_control.specs.declared.control_responder.ControlResponder.{ControlResponder}

-- whether bytes are sent to the null endpoint ID
abbrev pub is_to_null : List ℕ → Bool
is_to_null (version ∷ destination ∷ more) = destination == NULL_EID
is_to_null _ = false

-- whether bytes are sent from the null endpoint ID
abbrev pub is_from_null : List ℕ → Bool
is_from_null (version ∷ destination ∷ source ∷ more) = source == NULL_EID
is_from_null _ = false

-- whether the control responder gets the packet that the responder dropped: it completes a message of another type, is
-- addressed by its physical address alone, or comes from an endpoint that has no endpoint ID yet
abbrev pub is_handed_on : Reason → List ℕ → Bool
is_handed_on NotPldm packet = true
is_handed_on UnknownDestination packet = is_to_null packet
is_handed_on BadSource packet = is_from_null packet
is_handed_on _ packet = false

-- the packet that answers one that comes now and that the responder dropped
abbrev pub control_reply : ControlResponder → ℕ → Reason → List ℕ → Option (List ℕ)
control_reply control now reason packet = if is_handed_on reason packet then reply_to control now packet else None

-- the control responder after a packet that came now and that the responder dropped
abbrev pub control_left : ControlResponder → ℕ → Reason → List ℕ → ControlResponder
control_left control now reason packet = if is_handed_on reason packet then left_by control now packet else control
