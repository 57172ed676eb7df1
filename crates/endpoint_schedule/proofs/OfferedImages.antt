-- Over a link each piece that a firmware device takes is one of its agent's file: of any link whose answers are, and so over
-- a schedule.
use Rattle.std.proofs.Common.{◌≡◌, ℕ, ◌+◌, ◌^◌, ◌<◌, ◌≤◌, true, false, List, [], ◌∷◌, ◌++◌, length, Option, Some, None, Ok, refl, sym, ap, subst, ◌∙◌, arith}
use Rattle.std.specs.Prelude.{if◌then◌else◌}
use Rattle.std.proofs.lemmas.Bool.{cond-true}
use Rattle.pldm_requester.specs.Courses.{Answered as HasAnswered}
use Rattle.pldm_requester.specs.Numbering.{id_of, message_with}
use Rattle.pldm_responder.specs.Performing.{Response as Responded, answer_to, reply, reply_to, response_to}
use Rattle.pldm_wire.specs.Answers.{answer_message}
use Rattle.pldm_wire.specs.CommandReading.{command_of}
use Rattle.pldm_wire.specs.Requests.{request}
use Rattle.pldm_wire.specs.Responses.{Response, response, response_of}
use Rattle.pldm_wire.specs.declared.assigned.TheConstants.{SUCCESS}
use Rattle.pldm_update.specs.declared.command.UpdateCommand.TheVariants.{RequestFirmwareData}
use Rattle.pldm_update.specs.declared.device_stage.DeviceRequest.{DeviceRequest}
use Rattle.pldm_update.specs.declared.device_stage.DeviceRequest.TheVariants.{Piece}
use Rattle.pldm_update.specs.Commands.{command_data}
use Rattle.pldm_update.specs.Deeds.{size_begun}
use Rattle.pldm_update.specs.DeviceCalls.{Call, Question, RequestUpdate, PassComponent, UpdateComponent, ActivateFirmware, CancelComponent, CancelUpdate, Opened, Answered, GaveUp, Done, Tick, Restart, deeds, last_asked, machine, or_last}
use Rattle.pldm_update.specs.DeviceLaws.{IsServed, IsServedSince, VerifiedIsWhole}
use Rattle.pldm_update.specs.ImagePieces.{piece}
use Rattle.pldm_update.specs.Machines.{wish}
use Rattle.pldm_update.proofs.DeedsInOrder.{size_where_fetching}
use Rattle.pldm_update.proofs.OfferedOne.{piece_is, piece_wished, size_before}
use Rattle.pldm_update.proofs.OwnPieces.{all_asked, question}
use Rattle.mctp_schedule.specs.Actions.{Step}
use Rattle.mctp_schedule.specs.FirstArrivals.{first}
use Rattle.mctp_schedule.specs.Logs.{Asked, Happening, asked_at}
use Rattle.mctp_schedule.specs.OncePerformed.{once}
use Rattle.mctp_schedule.specs.RequesterHalf.{AnsweredWasPerformed, IsTimelySchedule}
use Rattle.mctp_schedule.specs.Worlds.{BothEnds, World, requests_of, world}
use Rattle.mctp_schedule.proofs.AnsweredWhereTaken.{sound_before}
use Rattle.mctp_schedule.proofs.KnownRequests.{asked_stays_done, stays_done}
use Rattle.mctp_schedule.proofs.RepliesAreTaken.{answer_read, request_read}
use Rattle.mctp_schedule.proofs.UntouchedRequests.{first_more}
use Rattle.pldm_wire.specs.Laws.{RequestReadBack, ResponseReadBack}
use Rattle.endpoint_schedule.specs.FirmwareDevices.{AtDevice, HasAnswer, HasAsked, IsUpdate, IsUpdateStep, OnLink, UpdateStep, device_calls, link_steps, piece_ask, piece_kind}
use Rattle.endpoint_schedule.specs.UpdatesOverSchedules.{GivesPieces, ImageOverSchedules, over_schedule}

-- the laws below
pub record Lower {S : Type 0} (setting : BothEnds S) : Type 0 where
  pub requests : RequestReadBack
  pub responses : ResponseReadBack
  pub performed : AnsweredWasPerformed setting
  pub whole : VerifiedIsWhole

-- ---- over any steps of a link
-- what is known of a link: its requests stay, a call of the device's machine changes nothing on it, and of what is good
-- what was there before is good too; there an answer with SUCCESS to a request for a piece is that piece of the file
pub record IsLink {S T : Type 0} (setting : BothEnds S) (world_at : List (UpdateStep T) → World) (e : ℕ) (file : List ℕ) (Good : List (UpdateStep T) → Type 0) : Type 0 where
  pub stays : (step : T) (past : List (UpdateStep T)) (k : ℕ) (r : Asked) → asked_at (world_at past).log k ≡ Some r → asked_at (world_at (OnLink step ∷ past)).log k ≡ Some r
  pub same : (call : Call) (past : List (UpdateStep T)) → world_at past ≡ world_at (AtDevice call ∷ past)
  pub before : (step : UpdateStep T) (past : List (UpdateStep T)) → Good (step ∷ past) → Good past
  pub given : (past : List (UpdateStep T)) → Good past → (number code offset count : ℕ) (bytes : List ℕ) → offset < 2 ^ 32 → count < 2 ^ 32
      → HasAnswer setting e (world_at past) number code bytes → HasAsked e (world_at past) number offset count → code ≡ SUCCESS → bytes ≡ piece file offset count

module _ {S T : Type 0} (setting : BothEnds S) (world_at : List (UpdateStep T) → World) (e latest : ℕ) (file : List ℕ) (Good : List (UpdateStep T) → Type 0) (is_link : IsLink setting world_at e file Good) where
  abbrev Asks : World → ℕ → ℕ → ℕ → Type 0
  Asks w number offset count = HasAsked e w number offset count

  abbrev Updates : List (UpdateStep T) → Type 0
  Updates past = IsUpdate setting world_at e latest past

  -- ---- what the request that was opened last asks
  still_asks : (step : T) (past : List (UpdateStep T)) (number offset count : ℕ) → Asks (world_at past) number offset count → Asks (world_at (OnLink step ∷ past)) number offset count
  still_asks step past number offset count x = record { k = x.k; r = x.r; asked = is_link.stays step past x.k x.r x.asked; source = x.source; own = x.own; message = x.message }

  moved : (call : Call) (past : List (UpdateStep T)) (number offset count : ℕ) → Asks (world_at past) number offset count → Asks (world_at (AtDevice call ∷ past)) number offset count
  moved call past number offset count x = subst (λ w. Asks w number offset count) (is_link.same call past) x

  opened_asks : (past : List (UpdateStep T)) (number now : ℕ) → IsUpdateStep setting world_at e latest past (AtDevice (Opened number now)) → (n offset count : ℕ)
      → (last_asked latest (device_calls past) ≡ Some (question n (Piece offset count)) → Asks (world_at past) n offset count)
      → or_last (wish (machine latest (device_calls past)) now) number (last_asked latest (device_calls past)) ≡ Some (question n (Piece offset count)) → Asks (world_at past) n offset count
  opened_asks past number now opens n offset count before is = go (wish (machine latest (device_calls past)) now) refl is
    where
      go : (wished : Option DeviceRequest) → wish (machine latest (device_calls past)) now ≡ wished → or_last wished number (last_asked latest (device_calls past)) ≡ Some (question n (Piece offset count)) → Asks (world_at past) n offset count
      go None w is' = before is'
      go (Some asks) w is' =
          let same : question number asks ≡ question n (Piece offset count) = cc in
          subst (λ j. Asks (world_at past) j offset count) (ap (λ (q : Question). q.number) same) (opens offset count (w ∙ ap (λ (q : Question). Some q.request) same))

  last_asks : (past : List (UpdateStep T)) → Updates past → (n offset count : ℕ) → last_asked latest (device_calls past) ≡ Some (question n (Piece offset count)) → Asks (world_at past) n offset count
  last_asks [] u n offset count is = absurd (cc)
  last_asks (OnLink step ∷ past) u n offset count is = still_asks step past n offset count (last_asks past u.1 n offset count is)
  last_asks (AtDevice (Opened number now) ∷ past) u n offset count is = moved (Opened number now) past n offset count (opened_asks past number now u.0 n offset count (last_asks past u.1 n offset count) is)
  last_asks (AtDevice (Restart anew) ∷ past) u n offset count is = absurd u.0
  last_asks (AtDevice (RequestUpdate source now most total) ∷ past) u n offset count is = moved (RequestUpdate source now most total) past n offset count (last_asks past u.1 n offset count is)
  last_asks (AtDevice (PassComponent source now part) ∷ past) u n offset count is = moved (PassComponent source now part) past n offset count (last_asks past u.1 n offset count is)
  last_asks (AtDevice (UpdateComponent source now size room) ∷ past) u n offset count is = moved (UpdateComponent source now size room) past n offset count (last_asks past u.1 n offset count is)
  last_asks (AtDevice (ActivateFirmware source now) ∷ past) u n offset count is = moved (ActivateFirmware source now) past n offset count (last_asks past u.1 n offset count is)
  last_asks (AtDevice (CancelComponent source now) ∷ past) u n offset count is = moved (CancelComponent source now) past n offset count (last_asks past u.1 n offset count is)
  last_asks (AtDevice (CancelUpdate source) ∷ past) u n offset count is = moved (CancelUpdate source) past n offset count (last_asks past u.1 n offset count is)
  last_asks (AtDevice (Answered number now code bytes) ∷ past) u n offset count is = moved (Answered number now code bytes) past n offset count (last_asks past u.1 n offset count is)
  last_asks (AtDevice (GaveUp number) ∷ past) u n offset count is = moved (GaveUp number) past n offset count (last_asks past u.1 n offset count is)
  last_asks (AtDevice (Done number well) ∷ past) u n offset count is = moved (Done number well) past n offset count (last_asks past u.1 n offset count is)
  last_asks (AtDevice (Tick now) ∷ past) u n offset count is = moved (Tick now) past n offset count (last_asks past u.1 n offset count is)

  -- ---- so each piece that counts is of the file
  module _ (past : List (UpdateStep T)) (good : Good past) (u : Updates past) (small : length file < 2 ^ 32) (size : size_begun (deeds latest (device_calls past)) ≡ Some (length file)) where
    piece_served : (number now code : ℕ) (bytes : List ℕ) → HasAnswer setting e (world_at past) number code bytes
        → IsServed file (machine latest (device_calls past)) (last_asked latest (device_calls past)) (Answered number now code bytes)
    piece_served number now code bytes has offset count asked last well counts =
        let calls = device_calls past in
        let m = machine latest calls in
        let wished = all_asked latest calls number asked in
        let both : Some (question number wished.0) ≡ Some (question number (Piece offset count)) = sym wished.2 ∙ last in
        let same : question number wished.0 ≡ question number (Piece offset count) = cc in
        let there = piece_wished m.stage m offset count (wished.1 ∙ ap (λ (q : Question). Some q.request) same) in
        let sized = size_where_fetching latest calls there.0 in
        let sizes : Some m.size ≡ Some (length file) = sym sized.0 ∙ size in
        let long : m.size ≡ length file = cc in
        let low : offset < 2 ^ 32 = omega (arith, there.1, there.2, sized.1, long, small) in
        let few : count < 2 ^ 32 = omega (arith, there.1, there.2, sized.1, long, small) in
        let is = is_link.given past good number code offset count bytes low few has (last_asks past u number offset count last) well in
        is ∙ piece_is file offset count (omega (arith, there.1, there.2, sized.1, long))

    is_served : (call : Call) → IsUpdateStep setting world_at e latest past (AtDevice call) → IsServed file (machine latest (device_calls past)) (last_asked latest (device_calls past)) call
    is_served (Answered number now code bytes) has = piece_served number now code bytes has
    is_served (RequestUpdate source now most total) has = tt
    is_served (PassComponent source now part) has = tt
    is_served (UpdateComponent source now total room) has = tt
    is_served (ActivateFirmware source now) has = tt
    is_served (CancelComponent source now) has = tt
    is_served (CancelUpdate source) has = tt
    is_served (Opened number now) has = tt
    is_served (GaveUp number) has = tt
    is_served (Done number well) has = tt
    is_served (Tick now) has = tt
    is_served (Restart anew) has = tt

  pub served : (past : List (UpdateStep T)) → Good past → Updates past → length file < 2 ^ 32 → size_begun (deeds latest (device_calls past)) ≡ Some (length file) → IsServedSince file latest (device_calls past)
  served [] good u small size = tt
  served (OnLink step ∷ past) good u small size = served past (is_link.before (OnLink step) past good) u.1 small size
  served (AtDevice call ∷ past) good u small size = λ none.
      let before = size_before (length file) (machine latest (device_calls past)) call (deeds latest (device_calls past)) size none in
      let good_before = is_link.before (AtDevice call) past good in
      (is_served past good_before u.1 small before call u.0, served past good_before u.1 small before)

-- ---- over a schedule
module _ {S : Type 0} (setting : BothEnds S) (lower : Lower setting) (file : List ℕ) (e : ℕ) (handed : setting.device.hands_on piece_kind ≡ true) where
  -- ---- what the requester has as the answer is what the agent's end gave at the request's one arrival
  pub piece_given : (steps : List Step) → IsTimelySchedule setting steps → GivesPieces setting file (world setting steps) → (number code offset count : ℕ) (bytes : List ℕ) → offset < 2 ^ 32 → count < 2 ^ 32
      → HasAnswer setting e (world setting steps) number code bytes → HasAsked e (world setting steps) number offset count → code ≡ SUCCESS → bytes ≡ piece file offset count
  piece_given steps s gives number code offset count bytes low few a q well =
      let w = world setting steps in
      let progress : ((requests_of setting w q.r.source).each q.r.own).course.progress ≡ HasAnswered a.message = (λ i. ((requests_of setting w (q.source i)).each (q.own i)).course.progress) ∙ a.progress in
      let performed = lower.performed steps q.k q.r a.message s q.asked progress in
      let state = once setting.device setting.keep setting.start performed.place in
      let id = id_of q.r.own in
      let asks = request id piece_kind (command_data (RequestFirmwareData offset count)) in
      let given : Responded = setting.device.respond state asks in
      let message : q.r.message ≡ message_with q.r.own (piece_ask offset count) = q.message ∙ ap (λ n. message_with n (piece_ask offset count)) (sym q.own) in
      let read = request_read lower.requests q.r.own (piece_ask offset count) (omega arith) in
      let replied : reply setting.device state q.r.message ≡ response_to asks given =
      ap (reply setting.device state) message ∙ ap (reply_to setting.device state) read
      ∙ cond-true (setting.device.hands_on piece_kind) (response_to asks given) (answer_message id piece_kind (answer_to setting.device state (command_of piece_kind (command_data (RequestFirmwareData offset count))))) handed in
      let back = answer_read lower.responses q.r.own (piece_ask offset count) (omega arith) given.code given.rest in
      let both : Ok a.response ≡ Ok (response id piece_kind given.code given.rest) = sym a.read ∙ ap (λ m. response_of m) (performed.answer ∙ replied) ∙ back in
      let same : a.response ≡ response id piece_kind given.code given.rest = cc in
      let success : given.code ≡ SUCCESS = ap (λ (x : Response). x.code) (sym same) ∙ a.code_is ∙ well in
      sym a.rest_is ∙ ap (λ (x : Response). x.rest) same ∙ gives q.k offset count q.r performed.place given low few q.asked message performed.arrived refl success

  gives_before : (step : Step) (steps : List Step) → GivesPieces setting file (world setting (step ∷ steps)) → GivesPieces setting file (world setting steps)
  gives_before step steps gives k offset count r place given low few is message came =
      gives k offset count r place given low few
      (asked_stays_done setting (world setting steps) step.moment step.action k r is)
      message
      (stays_done setting (λ (log : List Happening). first S setting.keep log k ≡ Some place) (λ h log f. first_more S setting.keep h log k place f) (world setting steps) step.moment step.action came)

  schedule_before : (step : Step) (steps : List Step) → IsTimelySchedule setting (step ∷ steps) → IsTimelySchedule setting steps
  schedule_before step steps s = record { order = s.order.1; timely = s.timely.1; sound = sound_before setting step steps s.sound }

  module _ (earlier : List Step) where
    abbrev IsGood : List (UpdateStep Step) → Type 0
    IsGood past = IsTimelySchedule setting (link_steps past ++ earlier) × GivesPieces setting file (world setting (link_steps past ++ earlier))

    good_before : (step : UpdateStep Step) (past : List (UpdateStep Step)) → IsGood (step ∷ past) → IsGood past
    good_before (OnLink step) past good = (schedule_before step (link_steps past ++ earlier) good.0, gives_before step (link_steps past ++ earlier) good.1)
    good_before (AtDevice call) past good = good

    is_schedule_link : IsLink setting (over_schedule setting earlier) e file IsGood
    is_schedule_link = record {
      stays = λ step past k r is. asked_stays_done setting (over_schedule setting earlier past) step.moment step.action k r is;
      same = λ call past. refl;
      before = good_before;
      given = λ past good. piece_given (link_steps past ++ earlier) good.0 good.1;
    }

pub images_are_offered : {S : Type 0} (setting : BothEnds S) → Lower setting → ImageOverSchedules setting
images_are_offered setting lower file earlier e latest past call s handed gives u small size verify =
    lower.whole file latest (device_calls past) call
    (served setting (over_schedule setting earlier) e latest file (IsGood setting lower file e handed earlier) (is_schedule_link setting lower file e handed earlier) past (s, gives) u small size) size verify
