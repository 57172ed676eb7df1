-- Over both ends: what is verified is the file that the agent gave pieces of.
use Rattle.std.proofs.Common.{◌≡◌, ℕ, ◌+◌, ◌≤◌, Bool, true, false, cond, List, [], ◌∷◌, length, Option, Some, None, is_some, refl, sym, ap, subst, ◌∙◌, arith, eq-eqb}
use Rattle.std.specs.Prelude.{◌==◌, ◌&&◌, take, drop, replicate, if◌then◌else◌}
use Rattle.std.proofs.Math.Bool.{and-false}
use Rattle.std.proofs.lemmas.Bool.{cond-true, cond-false}
use Rattle.std.proofs.lemmas.List.{take-append-le, length-drop}
use Rattle.std.proofs.lemmas.List.Elements.{All-nil, All-cons, All-contains}
use Rattle.std.specs.List.{All}
use Rattle.pldm_update.specs.declared.flash.FlashAction.{FlashAction}
use Rattle.pldm_update.specs.declared.flash.FlashAction.TheVariants.{Store, Begin, Verify, Apply, Activate, Abandon, AbandonUpdate}
use Rattle.pldm_update.specs.declared.device_stage.DeviceRequest.{DeviceRequest}
use Rattle.pldm_update.specs.declared.device_stage.DeviceRequest.TheVariants.{Piece}
use Rattle.pldm_update.specs.declared.device_stage.Stage.{Stage}
use Rattle.pldm_update.specs.declared.device_stage.Stage.TheVariants.{Idle, Learning, Ready, Beginning, Fetching, Storing, Fetched, Failed, Verifying, Verified, Applying, Applied, Activating}
use Rattle.pldm_update.specs.Agents.{Agent}
use Rattle.pldm_update.specs.Deeds.{Deed, Reports, size_begun}
use Rattle.pldm_update.specs.DeviceCalls as devices
use Rattle.pldm_update.specs.DeviceCalls.{Question, added, deeds, happens, last_asked, machine, or_last, with_deed}
use Rattle.pldm_update.specs.DeviceLaws.{IsServed, IsServedSince, VerifiedIsWhole, begins}
use Rattle.pldm_update.specs.DeviceRequests.{fetch_fault}
use Rattle.pldm_update.specs.ImagePieces.{piece}
use Rattle.pldm_update.specs.Machines.{Machine, piece_length, wish, wish_at}
use Rattle.pldm_update.specs.UpdateRuns.{AtDevice, Happening, ImageIsTheOfferedOne, IsRun, MayHappen, Serves, agent_at, device_calls, given_to, opens, question_of, with_answer, with_piece}
use Rattle.pldm_update.proofs.DeedsInOrder.{size_where_fetching}
use Rattle.pldm_update.proofs.OwnPieces.{all_asked, question}

-- ---- which pieces are asked for
pub piece_wished : (stage : Stage) (m : Machine) (offset count : ℕ) → wish_at stage m ≡ Some (Piece offset count) → (stage ≡ Fetching) × (offset ≡ m.stored) × (count ≡ piece_length m)
piece_wished Fetching m offset count e = (refl, cc, cc)
piece_wished Idle m offset count e = absurd (cc)
piece_wished Learning m offset count e = absurd (cc)
piece_wished Ready m offset count e = absurd (cc)
piece_wished Beginning m offset count e = absurd (cc)
piece_wished (Storing n) m offset count e = absurd (cc)
piece_wished Fetched m offset count e = absurd (cc)
piece_wished Failed m offset count e = absurd (cc)
piece_wished Verifying m offset count e = absurd (cc)
piece_wished (Verified good) m offset count e = absurd (cc)
piece_wished Applying m offset count e = absurd (cc)
piece_wished (Applied well) m offset count e = absurd (cc)
piece_wished Activating m offset count e = absurd (cc)

-- ---- the size of the image that is under way
deed_size : (size : ℕ) (action : Option FlashAction) (bytes : List ℕ) (past : List Deed) → size_begun (with_deed action bytes past) ≡ Some size → begins action ≡ false → size_begun past ≡ Some size
deed_size size None bytes past e none = e
deed_size size (Some (Begin begun)) bytes past e none = absurd (cc)
deed_size size (Some (Store offset)) bytes past e none = e
deed_size size (Some Verify) bytes past e none = e
deed_size size (Some Apply) bytes past e none = e
deed_size size (Some Activate) bytes past e none = absurd (cc)
deed_size size (Some Abandon) bytes past e none = absurd (cc)
deed_size size (Some AbandonUpdate) bytes past e none = absurd (cc)

report_size : (size : ℕ) (b well : Bool) (past : List Deed) → size_begun (if b then Reports well ∷ past else past) ≡ Some size → size_begun past ≡ Some size
report_size size true well past e = e
report_size size false well past e = e

-- before a call that begins no transfer it was the same
pub size_before : (size : ℕ) (m : Machine) (call : devices.Call) (past : List Deed) → size_begun (added m call past) ≡ Some size → begins (happens m call).action ≡ false → size_begun past ≡ Some size
size_before size m (devices.Answered number now code bytes) past e none = deed_size size (happens m (devices.Answered number now code bytes)).action bytes past e none
size_before size m (devices.Done number well) past e none = report_size size _ well past e
size_before size m (devices.Restart anew) past e none = absurd (cc)
size_before size m call past e none = deed_size size (happens m call).action [] past e none

-- ---- a piece within the file has no zeros of its own
pub piece_is : (file : List ℕ) (offset count : ℕ) → offset + count ≤ length file → piece file offset count ≡ take count (drop offset file)
piece_is file offset count fits =
    let long = length-drop offset file in
    take-append-le count (drop offset file) (replicate count 0) (omega (arith, long, fits))

-- ---- what the request that was opened last asks
opened_question : (n : ℕ) (request : DeviceRequest) (this : ℕ) (wished : Option DeviceRequest) (last : Option Question) (before : Option DeviceRequest)
    → (last ≡ Some (question n request) → before ≡ Some request) → or_last wished this last ≡ Some (question n request)
    → (if (this == n) && is_some wished then wished else before) ≡ Some request
opened_question n request this None last before same e = cond-false ((this == n) && false) None before (and-false (this == n)) ∙ same e
opened_question n request this (Some wished) last before same e =
    let same : question this wished ≡ question n request = cc in
    cond-true ((this == n) && true) (Some wished) before (ap (λ b. b && true) (eq-eqb this n (ap (λ (q : Question). q.number) same))) ∙ ap (λ (q : Question). Some q.request) same

last_question : (latest : ℕ) (past : List Happening) (n : ℕ) (request : DeviceRequest) → last_asked latest (device_calls past) ≡ Some (question n request) → question_of latest past n ≡ Some request
last_question latest [] n request e = absurd (cc)
last_question latest (AtDevice (devices.Opened this now) ∷ past) n request e =
    opened_question n request this (wish (machine latest (device_calls past)) now) (last_asked latest (device_calls past)) (question_of latest past n) (last_question latest past n request) e
last_question latest (_ ∷ past) n request e = last_question latest past n request e

-- ---- what the agent gives to a request for a piece is this piece
module _ (file : List ℕ) (offset count : ℕ) where
  abbrev IsPiece : List ℕ → Type 0
  IsPiece bytes = bytes ≡ piece file offset count

  with_piece_too : (fault : Option ℕ) (given : List (List ℕ)) → All IsPiece given → All IsPiece (with_piece file offset count fault given)
  with_piece_too None given all = All-cons IsPiece (piece file offset count) given refl all
  with_piece_too (Some code) given all = all

  with_answer_too : (a : Agent) (most : ℕ) (asks : Option DeviceRequest) (given : List (List ℕ)) → asks ≡ Some (Piece offset count) → All IsPiece given → All IsPiece (with_answer file a most asks given)
  with_answer_too a most asks given is all =
      subst (λ asks. All IsPiece (with_answer file a most asks given)) (sym is) (with_piece_too (fetch_fault a (length file) most offset count) given all)

  module _ (latest begin total : ℕ) where
    all_pieces : (past : List Happening) (n : ℕ) → question_of latest past n ≡ Some (Piece offset count) → All IsPiece (given_to file latest begin total past n)
    all_pieces [] n q = All-nil IsPiece
    all_pieces (AtDevice (devices.Opened this now) ∷ past) n q = go (opens latest past this now n) q (all_pieces past n)
      where
        go : (b : Bool) → cond b (wish (machine latest (device_calls past)) now) (question_of latest past n) ≡ Some (Piece offset count)
            → (question_of latest past n ≡ Some (Piece offset count) → All IsPiece (given_to file latest begin total past n)) → All IsPiece (cond b [] (given_to file latest begin total past n))
        go true q before = All-nil IsPiece
        go false q before = before q
    all_pieces (Serves this now most ∷ past) n q = go (this == n) (all_pieces past n q)
      where
        go : (b : Bool) → All IsPiece (given_to file latest begin total past n)
            → All IsPiece (cond b (with_answer file (agent_at file latest begin total past) most (question_of latest past n) (given_to file latest begin total past n)) (given_to file latest begin total past n))
        go true all = with_answer_too (agent_at file latest begin total past) most (question_of latest past n) (given_to file latest begin total past n) q all
        go false all = all
    all_pieces (_ ∷ past) n q = all_pieces past n q

-- ---- so each piece that counts is of the file
module _ (file : List ℕ) (latest begin total : ℕ) where
  piece_is_served : (past : List Happening) (number now code : ℕ) (bytes : List ℕ) → MayHappen file latest begin total past (AtDevice (devices.Answered number now code bytes))
      → size_begun (deeds latest (device_calls past)) ≡ Some (length file)
      → IsServed file (machine latest (device_calls past)) (last_asked latest (device_calls past)) (devices.Answered number now code bytes)
  piece_is_served past number now code bytes may size offset count asked last well counts =
      let calls = device_calls past in
      let m = machine latest calls in
      let asks = last_question latest past number (Piece offset count) last in
      let given = may offset count well asked asks in
      let is : bytes ≡ piece file offset count = All-contains (IsPiece file offset count) _ bytes (all_pieces file offset count latest begin total past number asks) given in
      let wished = all_asked latest calls number asked in
      let both : Some (question number wished.0) ≡ Some (question number (Piece offset count)) = sym wished.2 ∙ last in
      let same : question number wished.0 ≡ question number (Piece offset count) = cc in
      let at = piece_wished m.stage m offset count (wished.1 ∙ ap (λ (q : Question). Some q.request) same) in
      let sized = size_where_fetching latest calls at.0 in
      let sizes : Some m.size ≡ Some (length file) = sym sized.0 ∙ size in
      let long : m.size ≡ length file = cc in
      is ∙ piece_is file offset count (omega (arith, at.1, at.2, sized.1, long))

  is_served : (past : List Happening) (call : devices.Call) → MayHappen file latest begin total past (AtDevice call) → size_begun (deeds latest (device_calls past)) ≡ Some (length file)
      → IsServed file (machine latest (device_calls past)) (last_asked latest (device_calls past)) call
  is_served past (devices.Answered number now code bytes) may size = piece_is_served past number now code bytes may size
  is_served past _ may size = tt

  served : (past : List Happening) → IsRun file latest begin total past → size_begun (deeds latest (device_calls past)) ≡ Some (length file) → IsServedSince file latest (device_calls past)
  served [] run size = tt
  served (AtDevice call ∷ past) run size = λ none.
      let before = size_before (length file) (machine latest (device_calls past)) call (deeds latest (device_calls past)) size none in
      (is_served past call (run none).0 before, served past (run none).1 before)
  served (_ ∷ past) run size = served past (run refl).1 size

pub image_is_the_offered_one : VerifiedIsWhole → ImageIsTheOfferedOne
image_is_the_offered_one whole file latest begin total past call run size e =
    whole file latest (device_calls past) call (served file latest begin total past run size) size e
