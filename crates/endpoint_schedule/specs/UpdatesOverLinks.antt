-- A firmware update over a link whose agent's end is an endpoint: it gives its answers when it likes, and in any order.
use Rattle.std.specs.Prelude.{◌≡◌, ℕ, ◌<◌, ◌^◌, true, List, ◌++◌, length, Some, slice_get}
use Rattle.pldm_endpoint.specs.TwoSteps.{EndpointView}
use Rattle.pldm_requester.specs.Numbering.{message_with}
use Rattle.pldm_responder.specs.Asked.{Given, response_in}
use Rattle.pldm_responder.specs.declared.bounds.Bounds.{Bounds}
use Rattle.pldm_responder.specs.declared.responder_settings.ResponderSettings.{ResponderSettings}
use Rattle.pldm_wire.specs.HandingOn.{hands_on}
use Rattle.pldm_wire.specs.declared.assigned.TheConstants.{SUCCESS}
use Rattle.pldm_update.specs.declared.flash.FlashAction.TheVariants.{Verify}
use Rattle.pldm_update.specs.Deeds.{image, size_begun}
use Rattle.pldm_update.specs.DeviceCalls.{Call, deeds, happens, machine}
use Rattle.pldm_update.specs.ImagePieces.{piece}
use Rattle.mctp_schedule.specs.Logs.{Asked, asked_at}
use Rattle.mctp_schedule.specs.Worlds.{World}
use Rattle.endpoint_schedule.specs.FirmwareDevices.{IsUpdate, UpdateStep, device_calls, link_steps, piece_ask, piece_kind}
use Rattle.endpoint_schedule.specs.Links.{IsFirst, Link, LinkSettings, LinkStep, link, over_time}
use Rattle.endpoint_schedule.specs.OverTime.{IsTimelyLink}

-- before the device began other steps had come
abbrev pub over_link :
    LinkSettings → (ℕ → Given) → EndpointView → (earlier : List LinkStep) → List (UpdateStep LinkStep) → World
over_link settings answers first earlier past = (link settings answers first (link_steps past ++ earlier)).world

-- what the agent's end gives for a request for a piece that was handed out to it, where with SUCCESS, is that piece of
-- its file
abbrev pub GivesPieces : (ℕ → Given) → List ℕ → Link → Type 0
GivesPieces answers file l =
    (n k offset count : ℕ) (r : Asked)
    → offset < 2 ^ 32 → count < 2 ^ 32
    → slice_get l.handed_out n ≡ Some k → asked_at l.world.log k ≡ Some r
    → r.message ≡ message_with r.own (piece_ask offset count)
    → (response_in (answers n)).code ≡ SUCCESS → (response_in (answers n)).rest ≡ piece file offset count

-- over a timely run of such a link what the flash is told to verify is the file, byte for byte, where the transfer
-- began with its size, which four bytes can say
abbrev pub ImageOverLinks : Type 0
ImageOverLinks =
    (settings : LinkSettings) (answers : ℕ → Given) (keeping : ResponderSettings) (limits : Bounds) (most : ℕ)
    (first : EndpointView) (file : List ℕ) (earlier : List LinkStep) (e latest : ℕ) (past : List (UpdateStep LinkStep))
    (call : Call)
    → IsFirst settings keeping limits most first
    → IsTimelyLink settings answers first (link_steps past ++ earlier)
    → hands_on settings.handed_on piece_kind ≡ true
    → GivesPieces answers file (link settings answers first (link_steps past ++ earlier))
    → IsUpdate (over_time settings answers) (over_link settings answers first earlier) e latest past
    → length file < 2 ^ 32
    → size_begun (deeds latest (device_calls past)) ≡ Some (length file)
    → (happens (machine latest (device_calls past)) call).action ≡ Some Verify
    → image (deeds latest (device_calls past)) ≡ file
