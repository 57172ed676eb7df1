-- What is stored is the beginning of the image that the pieces were answered from.
use Rattle.std.proofs.Common.{◌≡◌, ℕ, ◌+◌, Bool, true, false, List, [], ◌∷◌, ◌++◌, length, Option, Some, None, refl, sym, ap, subst, ◌∙◌, length-append, arith}
use Rattle.std.specs.Prelude.{take, drop, if◌then◌else◌}
use Rattle.pldm_wire.specs.declared.assigned.TheConstants.{SUCCESS}
use Rattle.std.proofs.Math.Seq.{take-add}
use Rattle.std.proofs.lemmas.List.{take_all}
use Rattle.pldm_update.specs.declared.flash.FlashAction.{FlashAction}
use Rattle.pldm_update.specs.declared.flash.FlashAction.TheVariants.{Store, Begin, Verify, Apply, Activate, Abandon, AbandonUpdate}
use Rattle.pldm_update.specs.Machines.{Machine, is_some_number}
use Rattle.pldm_update.specs.DeviceAnswers.{Outcome, answered, answered_at, only}
use Rattle.pldm_update.proofs.DeedsInOrder.{by_test}
use Rattle.pldm_update.proofs.OwnPieces.{asked_number}
use Rattle.pldm_update.specs.Deeds.{AreInOrder, Deed, MayCome, deed_of, image}
use Rattle.pldm_update.specs.DeviceCalls.{Call, RequestUpdate, PassComponent, UpdateComponent, ActivateFirmware, CancelComponent, CancelUpdate, Opened, Answered, GaveUp, Done, Tick, Restart, added, deeds, happens, last_asked, machine, with_deed}
use Rattle.pldm_update.specs.DeviceLaws.{FlashIsInOrder, ImageIsTheOffered, IsOwnPiece, IsServed, IsServedSince, PiecesAreOwn, VerifiedIsWhole, begins}

abbrev bytes_of : Call → List ℕ
bytes_of (Answered number now code bytes) = bytes
bytes_of call = []

-- what a call has the flash do may come
may_come : (m : Machine) (call : Call) (action : FlashAction) (past : List Deed) → (happens m call).action ≡ Some action → AreInOrder (added m call past) → MayCome past (deed_of action (bytes_of call))
may_come m (RequestUpdate source now most total) action past e o = (subst (λ a. AreInOrder (with_deed a [] past)) e o).0
may_come m (PassComponent source now part) action past e o = (subst (λ a. AreInOrder (with_deed a [] past)) e o).0
may_come m (UpdateComponent source now size room) action past e o = (subst (λ a. AreInOrder (with_deed a [] past)) e o).0
may_come m (ActivateFirmware source now) action past e o = (subst (λ a. AreInOrder (with_deed a [] past)) e o).0
may_come m (CancelComponent source now) action past e o = (subst (λ a. AreInOrder (with_deed a [] past)) e o).0
may_come m (CancelUpdate source) action past e o = (subst (λ a. AreInOrder (with_deed a [] past)) e o).0
may_come m (Opened number now) action past e o = absurd (cc)
may_come m (Answered number now code bytes) action past e o = (subst (λ a. AreInOrder (with_deed a bytes past)) e o).0
may_come m (GaveUp number) action past e o = (subst (λ a. AreInOrder (with_deed a [] past)) e o).0
may_come m (Done number well) action past e o = absurd (cc)
may_come m (Tick now) action past e o = (subst (λ a. AreInOrder (with_deed a [] past)) e o).0
may_come m (Restart latest) action past e o = absurd (cc)

-- the list is the beginning of the file
abbrev IsFront : List ℕ → List ℕ → Type 0
IsFront file bytes = bytes ≡ take (length bytes) file

longer_front : (file bytes more : List ℕ) (offset : ℕ) → IsFront file bytes → offset ≡ length bytes → more ≡ take (length more) (drop offset file) → IsFront file (bytes ++ more)
longer_front file bytes more offset front at is =
    let joined : take (length bytes + length more) file ≡ take (length bytes) file ++ take (length more) (drop (length bytes) file) = take-add (length bytes) (length more) file in
    let here : more ≡ take (length more) (drop (length bytes) file) = is ∙ ap (λ o. take (length more) (drop o file)) at in
    ap (λ (front : List ℕ). front ++ more) front
    ∙ ap (λ (back : List ℕ). take (length bytes) file ++ back) here
    ∙ sym joined
    ∙ ap (λ n. take n file) (sym (length-append bytes more))

-- with what one more step adds
deed_front : (file : List ℕ) (action : Option FlashAction) (bytes : List ℕ) (past : List Deed) → (begins action ≡ false → IsFront file (image past))
    → ((offset : ℕ) → action ≡ Some (Store offset) → (offset ≡ length (image past)) × (bytes ≡ take (length bytes) (drop offset file)))
    → IsFront file (image (with_deed action bytes past))
deed_front file None bytes past before piece = before refl
deed_front file (Some (Begin size)) bytes past before piece = refl
deed_front file (Some (Store offset)) bytes past before piece =
    let is = piece offset refl in
    longer_front file (image past) bytes offset (before refl) is.0 is.1
deed_front file (Some Verify) bytes past before piece = before refl
deed_front file (Some Apply) bytes past before piece = before refl
deed_front file (Some Activate) bytes past before piece = before refl
deed_front file (Some Abandon) bytes past before piece = before refl
deed_front file (Some AbandonUpdate) bytes past before piece = before refl

report_front : (file : List ℕ) (reported : Bool) (deed : Deed) (past : List Deed) → image (deed ∷ past) ≡ image past → IsFront file (image past) → IsFront file (image (if reported then deed ∷ past else past))
report_front file true deed past same front = same ∙ front ∙ ap (λ (bytes : List ℕ). take (length bytes) file) (sym same)
report_front file false deed past same front = front

-- only an answer to the request that is open has anything stored
stored_asked : (m : Machine) (number now code bytes offset : ℕ) → (answered m number now code bytes).action ≡ Some (Store offset) → m.asked ≡ Some number
stored_asked m number now code bytes offset =
    by_test (λ (o : Outcome). o.action ≡ Some (Store offset) → m.asked ≡ Some number) (is_some_number m.asked number) (answered_at m.stage (record m { asked = None; heard = now }) code bytes) (only m)
    (λ t e. asked_number m.asked number t) (λ _ e. absurd (cc))

-- a piece that is stored stands in the image at its offset
own_piece : (file : List ℕ) (latest : ℕ) (past : List Call) (call : Call) → FlashIsInOrder → PiecesAreOwn
    → (begins (happens (machine latest past) call).action ≡ false → IsServed file (machine latest past) (last_asked latest past) call × IsServedSince file latest past)
    → (offset : ℕ) → (happens (machine latest past) call).action ≡ Some (Store offset)
    → (offset ≡ length (image (deeds latest past))) × (bytes_of call ≡ take (length (bytes_of call)) (drop offset file))
own_piece file latest past call ordered own served offset e =
    let piece = own latest past call offset e in
    let may = may_come (machine latest past) call (Store offset) (deeds latest past) e (ordered latest (call ∷ past)) in
    let given = (served (ap begins e)).0 in
    (may.2, bytes_are call piece given e)
  where
    bytes_are : (call : Call) → (piece : IsOwnPiece latest past call offset) → IsServed file (machine latest past) (last_asked latest past) call → (happens (machine latest past) call).action ≡ Some (Store offset) → bytes_of call ≡ take (length (bytes_of call)) (drop offset file)
    bytes_are (Answered number now code bytes) piece given e =
        let same : Answered number now code bytes ≡ Answered piece.number piece.now SUCCESS piece.bytes = piece.call_is in
        let numbers : number ≡ piece.number = cc in
        let codes : code ≡ SUCCESS = cc in
        let contents : bytes ≡ piece.bytes = cc in
        given offset (length bytes) (stored_asked (machine latest past) number now code (length bytes) offset e) (rw (numbers, contents) piece.asked) codes refl
    bytes_are (RequestUpdate source now most total) piece given e = absurd (let x = piece.call_is in cc)
    bytes_are (PassComponent source now part) piece given e = absurd (let x = piece.call_is in cc)
    bytes_are (UpdateComponent source now size room) piece given e = absurd (let x = piece.call_is in cc)
    bytes_are (ActivateFirmware source now) piece given e = absurd (let x = piece.call_is in cc)
    bytes_are (CancelComponent source now) piece given e = absurd (let x = piece.call_is in cc)
    bytes_are (CancelUpdate source) piece given e = absurd (let x = piece.call_is in cc)
    bytes_are (Opened number now) piece given e = absurd (let x = piece.call_is in cc)
    bytes_are (GaveUp number) piece given e = absurd (let x = piece.call_is in cc)
    bytes_are (Done number well) piece given e = absurd (let x = piece.call_is in cc)
    bytes_are (Tick now) piece given e = absurd (let x = piece.call_is in cc)
    bytes_are (Restart anew) piece given e = absurd (let x = piece.call_is in cc)

-- with one more call
with_call : (file : List ℕ) (latest : ℕ) (past : List Call) (call : Call) → (IsServedSince file latest past → IsFront file (image (deeds latest past)))
    → (begins (happens (machine latest past) call).action ≡ false → IsServed file (machine latest past) (last_asked latest past) call × IsServedSince file latest past)
    → ((offset : ℕ) → (happens (machine latest past) call).action ≡ Some (Store offset) → (offset ≡ length (image (deeds latest past))) × (bytes_of call ≡ take (length (bytes_of call)) (drop offset file)))
    → IsFront file (image (added (machine latest past) call (deeds latest past)))
with_call file latest past (RequestUpdate source now most total) front served piece = deed_front file (happens (machine latest past) (RequestUpdate source now most total)).action [] (deeds latest past) (λ none. front (served none).1) piece
with_call file latest past (PassComponent source now part) front served piece = deed_front file (happens (machine latest past) (PassComponent source now part)).action [] (deeds latest past) (λ none. front (served none).1) piece
with_call file latest past (UpdateComponent source now size room) front served piece = deed_front file (happens (machine latest past) (UpdateComponent source now size room)).action [] (deeds latest past) (λ none. front (served none).1) piece
with_call file latest past (ActivateFirmware source now) front served piece = deed_front file (happens (machine latest past) (ActivateFirmware source now)).action [] (deeds latest past) (λ none. front (served none).1) piece
with_call file latest past (CancelComponent source now) front served piece = deed_front file (happens (machine latest past) (CancelComponent source now)).action [] (deeds latest past) (λ none. front (served none).1) piece
with_call file latest past (CancelUpdate source) front served piece = deed_front file (happens (machine latest past) (CancelUpdate source)).action [] (deeds latest past) (λ none. front (served none).1) piece
with_call file latest past (Opened number now) front served piece = front (served refl).1
with_call file latest past (Answered number now code bytes) front served piece = deed_front file (happens (machine latest past) (Answered number now code bytes)).action bytes (deeds latest past) (λ none. front (served none).1) piece
with_call file latest past (GaveUp number) front served piece = deed_front file (happens (machine latest past) (GaveUp number)).action [] (deeds latest past) (λ none. front (served none).1) piece
with_call file latest past (Done number well) front served piece = report_front file _ _ (deeds latest past) refl (front (served refl).1)
with_call file latest past (Tick now) front served piece = deed_front file (happens (machine latest past) (Tick now)).action [] (deeds latest past) (λ none. front (served none).1) piece
with_call file latest past (Restart anew) front served piece = front (served refl).1

pub image_is_the_offered : FlashIsInOrder → PiecesAreOwn → ImageIsTheOffered
image_is_the_offered ordered own file latest [] served = refl
image_is_the_offered ordered own file latest (call ∷ past) served =
    with_call file latest past call (λ earlier. image_is_the_offered ordered own file latest past earlier) served
    (own_piece file latest past call ordered own served)

pub verified_is_whole : FlashIsInOrder → ImageIsTheOffered → VerifiedIsWhole
verified_is_whole ordered offered file latest past call served begun e =
    let may = may_come (machine latest past) call Verify (deeds latest past) e (ordered latest (call ∷ past)) in
    let front = offered file latest past served in
    let both : Some (length (image (deeds latest past))) ≡ Some (length file) = sym may.0 ∙ begun in
    let long : length (image (deeds latest past)) ≡ length file = cc in
    front ∙ ap (λ n. take n file) long ∙ take_all (length file) file (omega arith)
