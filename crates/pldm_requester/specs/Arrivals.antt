-- What one packet brings a requester: a drop, a part of a message, or the answer to a request.
use Rattle.std.specs.Prelude.{ℕ, Bool, not, ◌&&◌, ◌==◌, List, Option, Some, None, Result, Ok, Err, if◌then◌else◌}
use Rattle.mctp_packet.specs.Packets.{Packet}
use Rattle.mctp_packet.specs.declared.reason.Reason.{Reason}
use Rattle.mctp_packet.specs.declared.reason.Reason.TheVariants.{BadTag, NotMine, NotReady}
use Rattle.mctp_assembly.specs.declared.fed.Fed.{Fed}
use Rattle.mctp_assembly.specs.declared.fed.Fed.TheVariants as fed
use Rattle.pldm_wire.specs.Kinds.{TypeAndCommand}
use Rattle.pldm_wire.specs.Responses.{Response, response_of}
use Rattle.pldm_wire.specs.declared.assigned.TheConstants.{ERROR_NOT_READY}
use Rattle.pldm_requester.specs.Numbering.{id_of}
use Rattle.pldm_requester.specs.declared.results.Got.{Got}
use Rattle.pldm_requester.specs.declared.results.Got.TheVariants as got

pub data Arrival : Type 0 where
  Drop : Reason → Arrival
  Part : Arrival
  Answer : (number : ℕ) → (message : List ℕ) → Arrival

abbrev pub got_of : Arrival → Got
got_of (Drop reason) = got.Dropped reason
got_of Part = got.Partial
got_of (Answer number message) = got.Answered number

-- the response has the instance ID, the PLDM type and the command of the request with this number
abbrev pub is_response_to : ℕ → TypeAndCommand → Response → Bool
is_response_to number kind response =
    response.id == id_of number && (response.kind.pldm_type == kind.pldm_type && response.kind.command == kind.command)

-- a response of its own answers a request, but for one that says that the device is not ready (DSP0240, "Generic PLDM
-- completion codes"); `is_mine` says which are its own
abbrev pub response_arrival : (ℕ → Response → Bool) → ℕ → List ℕ → Result Response Reason → Arrival
response_arrival is_mine number message (Err reason) = Drop reason
response_arrival is_mine number message (Ok response) =
    if not (is_mine number response) then Drop NotMine
    else (if response.code == ERROR_NOT_READY then Drop NotReady else Answer number message)

abbrev pub fed_arrival : (ℕ → Response → Bool) → ℕ → Fed → Arrival
fed_arrival is_mine number (fed.Whole body) = response_arrival is_mine number body.items (response_of body.items)
fed_arrival is_mine number fed.Partial = Part
fed_arrival is_mine number (fed.Dropped reason) = Drop reason

-- `goes_to` says which request a packet comes to, and `gives` what assembly gives for it there
module _ (goes_to : Packet → Option ℕ) (gives : ℕ → Packet → Fed) (is_mine : ℕ → Response → Bool) where
  abbrev pub packet_arrival : Option ℕ → Packet → Arrival
  packet_arrival None p = Drop BadTag
  packet_arrival (Some number) p = fed_arrival is_mine number (gives number p)

  abbrev pub passed_arrival : Result Packet Reason → Arrival
  passed_arrival (Err reason) = Drop reason
  passed_arrival (Ok p) = packet_arrival (goes_to p) p
