-- A firmware device at a link: it asks its agent for the pieces of an image by a requester (DSP0267,
-- "RequestFirmwareData command"). Runs have the newest first.
use Rattle.std.specs.Prelude.{◌≡◌, ℕ, List, [], ◌∷◌, Some, Ok}
use Rattle.pldm_requester.specs.Asks.{Ask, ask_for}
use Rattle.pldm_requester.specs.Courses.{Answered as HasAnswered}
use Rattle.pldm_requester.specs.Numbering.{message_with}
use Rattle.pldm_wire.specs.Kinds.{TypeAndCommand, of_type}
use Rattle.pldm_wire.specs.Responses.{Response, response_of}
use Rattle.pldm_update.specs.declared.assigned.TheConstants.{FIRMWARE_UPDATE, REQUEST_FIRMWARE_DATA}
use Rattle.pldm_update.specs.declared.command.UpdateCommand.TheVariants.{RequestFirmwareData}
use Rattle.pldm_update.specs.declared.device_stage.DeviceRequest.TheVariants.{Piece}
use Rattle.pldm_update.specs.Commands.{command_data}
use Rattle.pldm_update.specs.DeviceCalls.{Call, Opened, Answered, Restart, machine}
use Rattle.pldm_update.specs.Machines.{wish}
use Rattle.mctp_schedule.specs.Logs.{Asked, asked_at}
use Rattle.mctp_schedule.specs.Worlds.{BothEnds, World, requests_of}

pub data UpdateStep (T : Type 0) : Type 0 where
  -- a step of the link
  OnLink : T → UpdateStep T
  -- a call of the device's machine
  AtDevice : Call → UpdateStep T

abbrev pub link_steps : {T : Type 0} → List (UpdateStep T) → List T
link_steps [] = []
link_steps (OnLink step ∷ past) = step ∷ link_steps past
link_steps (AtDevice call ∷ past) = link_steps past

abbrev pub device_calls : {T : Type 0} → List (UpdateStep T) → List Call
device_calls [] = []
device_calls (OnLink step ∷ past) = device_calls past
device_calls (AtDevice call ∷ past) = call ∷ device_calls past

-- what asks for a piece
abbrev pub piece_kind : TypeAndCommand
piece_kind = of_type FIRMWARE_UPDATE REQUEST_FIRMWARE_DATA

abbrev pub piece_ask : (offset count : ℕ) → Ask
piece_ask offset count = ask_for piece_kind (command_data (RequestFirmwareData offset count))

-- requester e opened its request of this number, which asks for this piece
pub record HasAsked (e : ℕ) (w : World) (number offset count : ℕ) : Type 0 where
  pub k : ℕ
  pub r : Asked
  pub asked : asked_at w.log k ≡ Some r
  pub source : r.source ≡ e
  pub own : r.own ≡ number
  pub message : r.message ≡ message_with number (piece_ask offset count)

-- requester e has a response with this completion code and these bytes as the answer to its request of this number
pub record HasAnswer
    {S : Type 0} (setting : BothEnds S) (e : ℕ) (w : World) (number code : ℕ) (bytes : List ℕ)
    : Type 0 where
  pub message : List ℕ
  pub progress : ((requests_of setting w e).each number).course.progress ≡ HasAnswered message
  pub response : Response
  pub read : response_of message ≡ Ok response
  pub code_is : response.code ≡ code
  pub rest_is : response.rest ≡ bytes

-- over steps of a link that leave these worlds the device's requester is e, and its own steps have numbers after
-- `latest`
module _ {S T : Type 0} (setting : BothEnds S) (world_at : List (UpdateStep T) → World) (e latest : ℕ) where
  -- a request that the device opens for the piece that it wishes for is its requester's; as the answer to a request it
  -- is told what its requester has as the answer to that very request; a device that begins anew is another run's
  abbrev pub IsUpdateStep : List (UpdateStep T) → UpdateStep T → Type 0
  IsUpdateStep past (AtDevice (Opened number now)) =
      (offset count : ℕ) → wish (machine latest (device_calls past)) now ≡ Some (Piece offset count)
      → HasAsked e (world_at past) number offset count
  IsUpdateStep past (AtDevice (Answered number now code bytes)) = HasAnswer setting e (world_at past) number code bytes
  IsUpdateStep past (AtDevice (Restart anew)) = ⊥
  IsUpdateStep past step = Unit {0}

  abbrev pub IsUpdate : List (UpdateStep T) → Type 0
  IsUpdate [] = Unit {0}
  IsUpdate (step ∷ past) = IsUpdateStep past step × IsUpdate past
