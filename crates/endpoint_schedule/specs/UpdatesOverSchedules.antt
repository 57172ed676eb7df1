-- A firmware update over a schedule: whatever is lost, repeated or reordered, the image is the agent's file.
use Rattle.std.specs.Prelude.{◌≡◌, ℕ, ◌<◌, ◌^◌, true, List, ◌++◌, length, Some}
use Rattle.pldm_requester.specs.Numbering.{id_of, message_with}
use Rattle.pldm_responder.specs.Performing.{Response as Responded}
use Rattle.pldm_wire.specs.Requests.{request}
use Rattle.pldm_wire.specs.declared.assigned.TheConstants.{SUCCESS}
use Rattle.pldm_update.specs.declared.command.UpdateCommand.TheVariants.{RequestFirmwareData}
use Rattle.pldm_update.specs.declared.flash.FlashAction.TheVariants.{Verify}
use Rattle.pldm_update.specs.Commands.{command_data}
use Rattle.pldm_update.specs.Deeds.{image, size_begun}
use Rattle.pldm_update.specs.DeviceCalls.{Call, deeds, happens, machine}
use Rattle.pldm_update.specs.ImagePieces.{piece}
use Rattle.mctp_schedule.specs.Actions.{Step}
use Rattle.mctp_schedule.specs.FirstArrivals.{first}
use Rattle.mctp_schedule.specs.Logs.{Asked, Happening, asked_at}
use Rattle.mctp_schedule.specs.OncePerformed.{once}
use Rattle.mctp_schedule.specs.RequesterHalf.{IsTimelySchedule}
use Rattle.mctp_schedule.specs.Worlds.{BothEnds, World, world}
use Rattle.endpoint_schedule.specs.FirmwareDevices.{IsUpdate, UpdateStep, device_calls, link_steps, piece_ask, piece_kind}

-- before the device began other steps had come
abbrev pub over_schedule : {S : Type 0} → BothEnds S → List Step → List (UpdateStep Step) → World
over_schedule setting earlier past = world setting (link_steps past ++ earlier)

-- what the agent's end responds to a request for a piece that arrives there, where with SUCCESS, is that piece of its
-- file
abbrev pub GivesPieces : {S : Type 0} → BothEnds S → List ℕ → World → Type 0
GivesPieces {S} setting file w =
    (k offset count : ℕ) (r : Asked) (place : List Happening) (given : Responded)
    → offset < 2 ^ 32 → count < 2 ^ 32
    → asked_at w.log k ≡ Some r → r.message ≡ message_with r.own (piece_ask offset count)
    → first S setting.keep w.log k ≡ Some place
    → given
    ≡ setting.device.respond (once setting.device setting.keep setting.start place)
    (request (id_of r.own) piece_kind (command_data (RequestFirmwareData offset count)))
    → given.code ≡ SUCCESS → given.rest ≡ piece file offset count

-- over a timely schedule what the flash is told to verify is the file, byte for byte, where the transfer began with its
-- size, which four bytes can say
abbrev pub ImageOverSchedules : {S : Type 0} → BothEnds S → Type 0
ImageOverSchedules setting =
    (file : List ℕ) (earlier : List Step) (e latest : ℕ) (past : List (UpdateStep Step)) (call : Call)
    → IsTimelySchedule setting (link_steps past ++ earlier)
    → setting.device.hands_on piece_kind ≡ true → GivesPieces setting file (world setting (link_steps past ++ earlier))
    → IsUpdate setting (over_schedule setting earlier) e latest past → length file < 2 ^ 32
    → size_begun (deeds latest (device_calls past)) ≡ Some (length file)
    → (happens (machine latest (device_calls past)) call).action ≡ Some Verify
    → image (deeds latest (device_calls past)) ≡ file
