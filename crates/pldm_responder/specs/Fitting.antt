-- The answer to a message that is performed fits the packets of one message.
use Rattle.std.specs.Prelude.{◌≡◌, ℕ, ◌<◌, ◌≤◌, true, List, length}
use Rattle.mctp_packet.specs.declared.TheConstants.{MAX_MESSAGE_BYTES}
use Rattle.pldm_responder.specs.Arrivals.{Arrival, Drop, Part, Whole}
use Rattle.pldm_responder.specs.Events.{Message}
use Rattle.pldm_responder.specs.ResponderStates.{ResponderState}
use Rattle.pldm_responder.specs.Performing.{Rules, reply}
use Rattle.pldm_responder.specs.Steps.{performs, received_arrival}

-- one byte at least, and no more than a message has
abbrev pub Fits : List ℕ → Type 0
Fits answer = (0 < length answer) × (length answer ≤ MAX_MESSAGE_BYTES)

module _ {S : Type 0} (device : Rules S) (held : ResponderState S) where
  abbrev pub AnswerFits : Message → Type 0
  AnswerFits m = performs held m ≡ true → Fits (reply device held.state m.bytes)

  abbrev pub ArrivalFits : Arrival → Type 0
  ArrivalFits (Drop reason) = Unit {0}
  ArrivalFits Part = Unit {0}
  ArrivalFits (Whole m) = AnswerFits m

  -- the same, of bytes that are received at a moment
  abbrev pub ReceivedFits : ℕ → List ℕ → Type 0
  ReceivedFits moment bytes = ArrivalFits (received_arrival held moment bytes)
