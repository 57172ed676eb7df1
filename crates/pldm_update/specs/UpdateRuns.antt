-- An update over both ends, whatever is lost, repeated, late or restarted between them. Lists have the newest first.
use Rattle.std.specs.Prelude.{◌≡◌, ℕ, Bool, false, ◌&&◌, ◌==◌, List, [], ◌∷◌, length, Option, Some, None, is_some}
use Rattle.std.specs.Prelude.{if◌then◌else◌}
use Rattle.std.specs.List.{Contains}
use Rattle.pldm_wire.specs.declared.assigned.TheConstants.{SUCCESS}
use Rattle.pldm_update.specs.declared.device_stage.DeviceRequest.{DeviceRequest}
use Rattle.pldm_update.specs.declared.device_stage.DeviceRequest.TheVariants.{Piece}
use Rattle.pldm_update.specs.declared.flash.FlashAction.TheVariants.{Verify}
use Rattle.pldm_update.specs.AgentCalls as agents
use Rattle.pldm_update.specs.AgentCalls.{first_agent}
use Rattle.pldm_update.specs.Agents.{Agent}
use Rattle.pldm_update.specs.Deeds.{image, size_begun}
use Rattle.pldm_update.specs.DeviceCalls as devices
use Rattle.pldm_update.specs.DeviceCalls.{deeds, machine}
use Rattle.pldm_update.specs.DeviceLaws.{begins}
use Rattle.pldm_update.specs.DeviceRequests.{fetch_fault}
use Rattle.pldm_update.specs.ImagePieces.{piece}
use Rattle.pldm_update.specs.Machines.{wish}

pub data Happening : Type 0 where
  -- a call of the device: also an answer that it is handed, or that it begins anew
  AtDevice : devices.Call → Happening
  -- a call of the agent: also a request for a piece of another device, of another component, or from before a restart
  AtAgent : agents.Call → Happening
  -- another agent begins in its place, as after a restart
  AgentBegins : (now total : ℕ) → Happening
  -- the agent is handed the device's request with this number, and answers it; a piece may have so many bytes
  Serves : (number now most : ℕ) → Happening

-- what the device was called
abbrev pub device_calls : List Happening → List devices.Call
device_calls [] = []
device_calls (AtDevice call ∷ past) = call ∷ device_calls past
device_calls (_ ∷ past) = device_calls past

-- a device whose steps come after a number
module _ (latest : ℕ) where
  -- the device opens its request with a number: this is the number, and there is something that it wishes for
  abbrev pub opens : List Happening → (this now number : ℕ) → Bool
  opens past this now number = (this == number) && is_some (wish (machine latest (device_calls past)) now)

  -- what the device's request with this number asks, as it was opened last
  abbrev pub question_of : List Happening → ℕ → Option DeviceRequest
  question_of [] number = None
  question_of (AtDevice (devices.Opened this now) ∷ past) number =
      if opens past this now number then wish (machine latest (device_calls past)) now else question_of past number
  question_of (_ ∷ past) number = question_of past number

-- where the agent does not refuse a piece, it gives it, beside what it gave before
abbrev pub with_piece : List ℕ → (offset count : ℕ) → Option ℕ → List (List ℕ) → List (List ℕ)
with_piece file offset count None given = piece file offset count ∷ given
with_piece file offset count (Some code) given = given

-- what it has given once it has answered this question too
abbrev pub with_answer : List ℕ → Agent → ℕ → Option DeviceRequest → List (List ℕ) → List (List ℕ)
with_answer file a most (Some (Piece offset count)) given =
    with_piece file offset count (fetch_fault a (length file) most offset count) given
with_answer file a most question given = given

-- the agent after it
abbrev pub after_question : List ℕ → Agent → ℕ → ℕ → Option DeviceRequest → Agent
after_question file a now most (Some (Piece offset count)) =
    agents.happens a (agents.Fetch now (length file) most offset count)
after_question file a now most question = a

-- and an agent that begins at a moment, brings so many components, and has this file for the one that is transferred
module _ (file : List ℕ) (latest begin total : ℕ) where
  abbrev pub agent_at : List Happening → Agent
  agent_at [] = first_agent begin total
  agent_at (AtAgent call ∷ past) = agents.happens (agent_at past) call
  agent_at (AgentBegins now total ∷ past) = first_agent now total
  agent_at (Serves number now most ∷ past) =
      after_question file (agent_at past) now most (question_of latest past number)
  agent_at (_ ∷ past) = agent_at past

  -- the pieces that the agent has given to the request with this number since it was opened, the newest first
  abbrev pub given_to : List Happening → ℕ → List (List ℕ)
  given_to [] number = []
  given_to (AtDevice (devices.Opened this now) ∷ past) number =
      if opens latest past this now number then [] else given_to past number
  given_to (Serves this now most ∷ past) number =
      if this == number
      then with_answer file (agent_at past) most (question_of latest past number) (given_to past number)
      else given_to past number
  given_to (_ ∷ past) number = given_to past number

  -- what the requester and the line promise: a piece that the device takes as the answer to the request that is open is
  -- one that the agent gave to that very request
  abbrev pub MayHappen : List Happening → Happening → Type 0
  MayHappen past (AtDevice (devices.Answered number now code bytes)) =
      (offset count : ℕ) → code ≡ SUCCESS → (machine latest (device_calls past)).asked ≡ Some number
      → question_of latest past number ≡ Some (Piece offset count) → Contains (given_to past number) bytes
  MayHappen past _ = Unit {0}

  -- the flash is told to make room for an image
  abbrev pub begins_transfer : List Happening → Happening → Bool
  begins_transfer past (AtDevice call) = begins (devices.happens (machine latest (device_calls past)) call).action
  begins_transfer past _ = false

  -- since the last transfer began, each thing might happen
  abbrev pub IsRun : List Happening → Type 0
  IsRun [] = Unit {0}
  IsRun (happening ∷ past) = begins_transfer past happening ≡ false → MayHappen past happening × IsRun past

-- what the flash is told to verify is the file, byte for byte, where the transfer began with the file's size
abbrev pub ImageIsTheOfferedOne : Type 0
ImageIsTheOfferedOne =
    (file : List ℕ) (latest begin total : ℕ) (past : List Happening) (call : devices.Call)
    → IsRun file latest begin total past
    → size_begun (deeds latest (device_calls past)) ≡ Some (length file)
    → (devices.happens (machine latest (device_calls past)) call).action ≡ Some Verify
    → image (deeds latest (device_calls past)) ≡ file
