-- Over a link whose agent's end is an endpoint each piece that a firmware device takes is one of its agent's file: the run is
-- a schedule's, of a device that gives the same for each number.
use Rattle.std.proofs.Common.{◌≡◌, ℕ, ◌<◌, ◌^◌, true, List, [], ◌∷◌, ◌++◌, Some, refl, sym, ap, subst, ◌∙◌, arith}
use Rattle.std.specs.Prelude.{slice_get}
use Rattle.std.proofs.lemmas.Bool.{cond-true}
use Rattle.pldm_endpoint.specs.TwoSteps.{EndpointView}
use Rattle.pldm_requester.specs.Numbering.{id_of, message_with}
use Rattle.pldm_responder.specs.Asked.{Given, response_in}
use Rattle.pldm_responder.specs.Performing.{Respond, Response as Responded, tasks_at, tasks_in}
use Rattle.pldm_responder.specs.declared.bounds.Bounds.{Bounds}
use Rattle.pldm_responder.specs.declared.responder_settings.ResponderSettings.{ResponderSettings}
use Rattle.pldm_wire.specs.CommandReading.{command_of}
use Rattle.pldm_wire.specs.HandingOn.{hands_on}
use Rattle.pldm_wire.specs.Laws.{RequestReadBack, ResponseReadBack}
use Rattle.pldm_wire.specs.Requests.{request}
use Rattle.pldm_wire.specs.declared.assigned.TheConstants.{SUCCESS}
use Rattle.pldm_update.specs.declared.command.UpdateCommand.TheVariants.{RequestFirmwareData}
use Rattle.pldm_update.specs.Commands.{command_data}
use Rattle.pldm_update.specs.DeviceLaws.{VerifiedIsWhole}
use Rattle.pldm_update.specs.ImagePieces.{piece}
use Rattle.mctp_schedule.specs.FirstArrivals.{first}
use Rattle.mctp_schedule.specs.Logs.{asked_at}
use Rattle.mctp_schedule.specs.RequesterHalf.{AnsweredWasPerformed}
use Rattle.mctp_schedule.specs.Worlds.{BothEnds, World, world}
use Rattle.mctp_schedule.proofs.RepliesAreTaken.{request_read}
use Rattle.endpoint_schedule.specs.FirmwareDevices.{AtDevice, HasAnswer, HasAsked, OnLink, UpdateStep, link_steps, device_calls, piece_ask, piece_kind}
use Rattle.endpoint_schedule.specs.Links.{IsFirst, Link, LinkSettings, LinkStep, link, over_time}
use Rattle.endpoint_schedule.specs.OverTime.{BothEndsOverTime, IsTimelyLink, LinksAreSchedules, asks_device, is_some_task, to_hand_out}
use Rattle.endpoint_schedule.specs.UpdatesOverLinks.{GivesPieces, ImageOverLinks, over_link}
use Rattle.endpoint_schedule.specs.UpdatesOverSchedules as schedules
use Rattle.endpoint_schedule.proofs.AskedInOrder.{count_of, handed_out_at}
use Rattle.endpoint_schedule.proofs.LinkHolds.{asked_stays_after, out_stays, sound_before}
use Rattle.endpoint_schedule.proofs.OfferedImages.{IsLink, piece_given, served}

-- the laws below
pub record LinkLower : Type 0 where
  pub requests : RequestReadBack
  pub responses : ResponseReadBack
  pub performed : (setting : BothEnds ℕ) → AnsweredWasPerformed setting
  pub whole : VerifiedIsWhole
  pub over_time : BothEndsOverTime
  pub scheduled : LinksAreSchedules

module _ (lower : LinkLower) (settings : LinkSettings) (answers : ℕ → Given) (keeping : ResponderSettings) (limits : Bounds) (most : ℕ) (first_end : EndpointView) (first_is : IsFirst settings keeping limits most first_end) (handed : hands_on settings.handed_on piece_kind ≡ true) (file : List ℕ) (e : ℕ) where
  abbrev at_link : List LinkStep → Link
  at_link steps = link settings answers first_end steps

  abbrev setting : BothEnds ℕ
  setting = over_time settings answers

  -- a request for a piece asks something of the device
  asks_something : (own offset count : ℕ) (message : List ℕ) → message ≡ message_with own (piece_ask offset count) → asks_device settings.handed_on message ≡ true
  asks_something own offset count message is =
      ap (asks_device settings.handed_on) is
      ∙ ap (λ q. is_some_task (tasks_at (hands_on settings.handed_on) q)) (request_read lower.requests own (piece_ask offset count) (omega arith))
      ∙ ap is_some_task (cond-true (hands_on settings.handed_on piece_kind) (Respond (request (id_of own) piece_kind (command_data (RequestFirmwareData offset count))) ∷ []) (tasks_in (command_of piece_kind (command_data (RequestFirmwareData offset count)))) handed)

  -- so what the device gives for numbers is what the schedule's device responds
  gives_over_schedule : (l : Link) (w : World) → l.world ≡ w → l.handed_out ≡ to_hand_out settings.handed_on settings.keep l.world.log → GivesPieces answers file l → schedules.GivesPieces setting file w
  gives_over_schedule l w same out gives k offset count r place given low few is message came given_is well =
      let asked : asked_at l.world.log k ≡ Some r = ap (λ (v : World). asked_at v.log k) same ∙ is in
      let arrived : first ℕ settings.keep l.world.log k ≡ Some place = ap (λ (v : World). first ℕ settings.keep v.log k) same ∙ came in
      let number = count_of settings.handed_on answers settings.keep place in
      let listed : slice_get l.handed_out number ≡ Some k =
      ap (λ xs. slice_get xs number) out ∙ handed_out_at settings.handed_on answers settings.keep l.world.log k r place asked arrived (asks_something r.own offset count r.message message) in
      let is_given : given ≡ response_in (answers number) = given_is in
      ap (λ (x : Responded). x.rest) is_given
      ∙ gives number k offset count r low few listed asked message (ap (λ (x : Responded). x.code) (sym is_given) ∙ well)

  piece_given_over : (steps : List LinkStep) → IsTimelyLink settings answers first_end steps → GivesPieces answers file (at_link steps) → (number code offset count : ℕ) (bytes : List ℕ) → offset < 2 ^ 32 → count < 2 ^ 32
      → HasAnswer setting e (at_link steps).world number code bytes → HasAsked e (at_link steps).world number offset count → code ≡ SUCCESS → bytes ≡ piece file offset count
  piece_given_over steps t gives number code offset count bytes low few has asked well =
      let s = lower.scheduled settings answers keeping limits most first_end steps first_is t in
      let holds = lower.over_time settings answers keeping limits most first_end steps first_is t in
      let same : (at_link steps).world ≡ world setting s.0 = s.1 in
      piece_given setting (record { requests = lower.requests; responses = lower.responses; performed = lower.performed setting; whole = lower.whole }) file e handed s.0 s.2
      (gives_over_schedule (at_link steps) (world setting s.0) same holds.handed_out gives)
      number code offset count bytes low few
      (subst (λ w. HasAnswer setting e w number code bytes) same has)
      (subst (λ w. HasAsked e w number offset count) same asked) well

  gives_before : (step : LinkStep) (steps : List LinkStep) → GivesPieces answers file (at_link (step ∷ steps)) → GivesPieces answers file (at_link steps)
  gives_before step steps gives n k offset count r low few out asked message well =
      gives n k offset count r low few (out_stays settings answers (at_link steps) step n k out) (asked_stays_after settings answers (at_link steps) step k r asked) message well

  link_before : (step : LinkStep) (steps : List LinkStep) → IsTimelyLink settings answers first_end (step ∷ steps) → IsTimelyLink settings answers first_end steps
  link_before step steps t = record { run = t.run.1; order = t.order.1; in_time = t.in_time.1; sound = sound_before settings answers (at_link steps) step t.sound }

  module _ (earlier : List LinkStep) where
    abbrev IsGood : List (UpdateStep LinkStep) → Type 0
    IsGood past = IsTimelyLink settings answers first_end (link_steps past ++ earlier) × GivesPieces answers file (at_link (link_steps past ++ earlier))

    good_before : (step : UpdateStep LinkStep) (past : List (UpdateStep LinkStep)) → IsGood (step ∷ past) → IsGood past
    good_before (OnLink step) past good = (link_before step (link_steps past ++ earlier) good.0, gives_before step (link_steps past ++ earlier) good.1)
    good_before (AtDevice call) past good = good

    is_link : IsLink setting (over_link settings answers first_end earlier) e file IsGood
    is_link = record {
      stays = λ step past k r is. asked_stays_after settings answers (at_link (link_steps past ++ earlier)) step k r is;
      same = λ call past. refl;
      before = good_before;
      given = λ past good. piece_given_over (link_steps past ++ earlier) good.0 good.1;
    }

pub images_are_offered_over_time : LinkLower → ImageOverLinks
images_are_offered_over_time lower settings answers keeping limits most first_end file earlier e latest past call first_is t handed gives u small size verify =
    lower.whole file latest (device_calls past) call
    (
    served (over_time settings answers) (over_link settings answers first_end earlier) e latest file
    (IsGood lower settings answers keeping limits most first_end first_is handed file e earlier)
    (is_link lower settings answers keeping limits most first_end first_is handed file e earlier)
    past (t, gives) u small size
    )
    size verify
