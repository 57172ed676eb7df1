-- The request that is open is the last one that was opened, and it asks for what the device wishes for.
use Rattle.std.proofs.Common.{◌≡◌, ℕ, ◌+◌, Bool, true, false, List, [], ◌∷◌, length, Option, Some, None, is_some, refl, sym, ap, subst, ◌∙◌}
use Rattle.std.specs.Prelude.{◌==◌, ◌&&◌, ◌||◌, not, nat_lt, nat_le, if◌then◌else◌}
use Rattle.std.proofs.lemmas.Bool.{eqb-true, and_parts}
use Rattle.pldm_wire.specs.declared.assigned.TheConstants.{SUCCESS}
use Rattle.pldm_update.specs.declared.assigned.TheConstants.{COMMAND_NOT_EXPECTED, INVALID_STATE_FOR_COMMAND, NOT_IN_UPDATE_MODE}
use Rattle.pldm_update.specs.declared.times.TheConstants.{IDLE_TIME, MAX_ATTEMPTS, RETRY_TIME}
use Rattle.pldm_update.specs.declared.flash.FlashAction.TheVariants.{Store, AbandonUpdate}
use Rattle.pldm_update.specs.declared.device_stage.DeviceRequest.{DeviceRequest}
use Rattle.pldm_update.specs.declared.device_stage.DeviceRequest.TheVariants.{Piece}
use Rattle.pldm_update.specs.declared.device_stage.Stage.{Stage}
use Rattle.pldm_update.specs.declared.device_stage.Stage.TheVariants.{Idle, Learning, Ready, Beginning, Fetching, Storing, Fetched, Failed, Verifying, Verified, Applying, Applied, Activating}
use Rattle.pldm_update.specs.DeviceStages.{is_between, is_idle, is_ready, is_learning, is_in_transfer, is_activating}
use Rattle.pldm_update.specs.Machines.{Machine, first_machine, is_agent, is_some_number, piece_length, refusal, wish, wish_at}
use Rattle.pldm_update.specs.DeviceCommands.{activating, activation_fault, begun, closed, component_cancelled, pass_fault, passed, transfer_fault, transferring, update_cancelled, update_fault}
use Rattle.pldm_update.specs.DeviceAnswers.{Outcome, answered_at, done_at, given_up_transfer, hands, only, stores, tried}
use Rattle.pldm_update.specs.DeviceCalls.{Call, Question, RequestUpdate, PassComponent, UpdateComponent, ActivateFirmware, CancelComponent, CancelUpdate, Opened, Answered, GaveUp, Done, Tick, Restart, happens, last_asked, machine, or_last, unless_refused}
use Rattle.pldm_update.specs.DeviceLaws.{IsOwnPiece, PiecesAreOwn}
use Rattle.pldm_update.proofs.DeedsInOrder.{by_test, none_later, none_both}

abbrev pub question : ℕ → DeviceRequest → Question
question number request = record { number = number; request = request }

-- ---- the open request
abbrev pub IsAskedAs : Machine → Option Question → Type 0
IsAskedAs m last =
    (n : ℕ) → m.asked ≡ Some n
    → (request : DeviceRequest) × (wish_at m.stage m ≡ Some request) × (last ≡ Some (question n request))

none_asked : (m : Machine) (last : Option Question) → m.asked ≡ None → IsAskedAs m last
none_asked m last none n some = absurd (cc)

-- a stage that wishes for nothing has no request open
nothing_asked : (m : Machine) (last : Option Question) → IsAskedAs m last → wish_at m.stage m ≡ None → m.asked ≡ None
nothing_asked m last h none = go m.asked refl
  where
    go : (asked : Option ℕ) → m.asked ≡ asked → asked ≡ None
    go None e = refl
    go (Some n) e = let x = h n e in let y = x.1 in absurd (cc)

learning_wishes_nothing : (stage : Stage) (m : Machine) → is_learning stage ≡ true → wish_at stage m ≡ None
learning_wishes_nothing Learning m h = refl
learning_wishes_nothing Idle m h = absurd (cc)
learning_wishes_nothing Ready m h = absurd (cc)
learning_wishes_nothing Beginning m h = absurd (cc)
learning_wishes_nothing Fetching m h = absurd (cc)
learning_wishes_nothing (Storing count) m h = absurd (cc)
learning_wishes_nothing Fetched m h = absurd (cc)
learning_wishes_nothing Failed m h = absurd (cc)
learning_wishes_nothing Verifying m h = absurd (cc)
learning_wishes_nothing (Verified good) m h = absurd (cc)
learning_wishes_nothing Applying m h = absurd (cc)
learning_wishes_nothing (Applied well) m h = absurd (cc)
learning_wishes_nothing Activating m h = absurd (cc)

ready_wishes_nothing : (stage : Stage) (m : Machine) → is_ready stage ≡ true → wish_at stage m ≡ None
ready_wishes_nothing Ready m h = refl
ready_wishes_nothing Idle m h = absurd (cc)
ready_wishes_nothing Learning m h = absurd (cc)
ready_wishes_nothing Beginning m h = absurd (cc)
ready_wishes_nothing Fetching m h = absurd (cc)
ready_wishes_nothing (Storing count) m h = absurd (cc)
ready_wishes_nothing Fetched m h = absurd (cc)
ready_wishes_nothing Failed m h = absurd (cc)
ready_wishes_nothing Verifying m h = absurd (cc)
ready_wishes_nothing (Verified good) m h = absurd (cc)
ready_wishes_nothing Applying m h = absurd (cc)
ready_wishes_nothing (Applied well) m h = absurd (cc)
ready_wishes_nothing Activating m h = absurd (cc)

-- a command that was not refused came at a stage that fits it
it_fits : (m : Machine) (source : ℕ) (fits : Bool) → refusal m source fits ≡ None → fits ≡ true
it_fits m source fits h =
    let agent = none_later (is_idle m.stage) NOT_IN_UPDATE_MODE (if not (is_agent m source) then Some COMMAND_NOT_EXPECTED else if not fits then Some INVALID_STATE_FOR_COMMAND else None) h in
    let stage = none_later (not (is_agent m source)) COMMAND_NOT_EXPECTED (if not fits then Some INVALID_STATE_FOR_COMMAND else None) agent.1 in
    go fits (none_later (not fits) INVALID_STATE_FOR_COMMAND None stage.1).0
  where
    go : (fits : Bool) → not fits ≡ false → fits ≡ true
    go true h = refl
    go false h = absurd (cc)

same_wish : (stage : Stage) (m : Machine) (asked : Option ℕ) → wish_at stage (record m { asked = asked }) ≡ wish_at stage m
same_wish Idle m asked = refl
same_wish Learning m asked = refl
same_wish Ready m asked = refl
same_wish Beginning m asked = refl
same_wish Fetching m asked = refl
same_wish (Storing count) m asked = refl
same_wish Fetched m asked = refl
same_wish Failed m asked = refl
same_wish Verifying m asked = refl
same_wish (Verified good) m asked = refl
same_wish Applying m asked = refl
same_wish (Applied well) m asked = refl
same_wish Activating m asked = refl

-- ---- answers leave no request open
tried_asks_nothing : (m : Machine) (rest : ℕ) → m.asked ≡ None → (tried m rest).machine.asked ≡ None
tried_asks_nothing m rest h =
    by_test (λ (o : Outcome). o.machine.asked ≡ None) (nat_lt (m.attempts + 1) MAX_ATTEMPTS) (only (record m { attempts = m.attempts + 1; rest = rest })) (given_up_transfer m)
    (λ _. h) (λ _. refl)

answer_asks_nothing : (stage : Stage) (m : Machine) (code bytes : ℕ) → m.asked ≡ None → (answered_at stage m code bytes).machine.asked ≡ None
answer_asks_nothing Fetching m code bytes h =
    by_test (λ (o : Outcome). o.machine.asked ≡ None) ((code == SUCCESS) && (bytes == piece_length m)) (stores m bytes) (tried m (m.heard + RETRY_TIME))
    (λ _. h) (λ _. tried_asks_nothing m (m.heard + RETRY_TIME) h)
answer_asks_nothing Fetched m code bytes h =
    by_test (λ (o : Outcome). o.machine.asked ≡ None) (code == SUCCESS) _ (tried m (m.heard + RETRY_TIME)) (λ _. h) (λ _. tried_asks_nothing m (m.heard + RETRY_TIME) h)
answer_asks_nothing Failed m code bytes h = refl
answer_asks_nothing (Verified true) m code bytes h =
    by_test (λ (o : Outcome). o.machine.asked ≡ None) (code == SUCCESS) _ (tried m (m.heard + RETRY_TIME)) (λ _. h) (λ _. tried_asks_nothing m (m.heard + RETRY_TIME) h)
answer_asks_nothing (Verified false) m code bytes h = refl
answer_asks_nothing (Applied well) m code bytes h =
    by_test (λ (o : Outcome). o.machine.asked ≡ None) (code == SUCCESS) _ (tried m (m.heard + RETRY_TIME)) (λ _. refl) (λ _. tried_asks_nothing m (m.heard + RETRY_TIME) h)
answer_asks_nothing Idle m code bytes h = h
answer_asks_nothing Learning m code bytes h = h
answer_asks_nothing Ready m code bytes h = h
answer_asks_nothing Beginning m code bytes h = h
answer_asks_nothing (Storing count) m code bytes h = h
answer_asks_nothing Verifying m code bytes h = h
answer_asks_nothing Applying m code bytes h = h
answer_asks_nothing Activating m code bytes h = h

-- ---- a report of the flash
quiet_at : (stage : Stage) (m : Machine) (last : Option Question) → m.stage ≡ stage → wish_at stage m ≡ None → IsAskedAs m last → m.asked ≡ None
quiet_at stage m last e none h = nothing_asked m last h (ap (λ s. wish_at s m) e ∙ none)

report_asks : (stage : Stage) (m : Machine) (well : Bool) (last : Option Question) → m.stage ≡ stage → IsAskedAs m last → IsAskedAs (done_at stage m well) last
report_asks Beginning m well last e h = none_asked (done_at Beginning m well) last (quiet_at Beginning m last e refl h)
report_asks (Storing count) m true last e h = none_asked (done_at (Storing count) m true) last (quiet_at (Storing count) m last e refl h)
report_asks (Storing count) m false last e h = none_asked (done_at (Storing count) m false) last (quiet_at (Storing count) m last e refl h)
report_asks Verifying m well last e h = none_asked (done_at Verifying m well) last (quiet_at Verifying m last e refl h)
report_asks Applying m well last e h = none_asked (done_at Applying m well) last (quiet_at Applying m last e refl h)
report_asks Activating m well last e h = none_asked (done_at Activating m well) last refl
report_asks Idle m well last e h = h
report_asks Learning m well last e h = h
report_asks Ready m well last e h = h
report_asks Fetching m well last e h = h
report_asks Fetched m well last e h = h
report_asks Failed m well last e h = h
report_asks (Verified good) m well last e h = h
report_asks (Applied done) m well last e h = h

-- ---- each call
command_asks : (fault : Option ℕ) (m : Machine) (outcome : Outcome) (last : Option Question) → IsAskedAs m last → (fault ≡ None → IsAskedAs outcome.machine last) → IsAskedAs (unless_refused fault m outcome).machine last
command_asks None m outcome last h ok = ok refl
command_asks (Some code) m outcome last h ok = h

opened_asks : (m : Machine) (number now : ℕ) (last : Option Question) → IsAskedAs m last → IsAskedAs (if is_some (wish m now) then record m { asked = Some number } else m) (or_last (wish m now) number last)
opened_asks m number now last h = go (is_some m.asked || nat_lt now m.rest) (wish_at m.stage m) refl
  where
    go : (open_one : Bool) → (w : Option DeviceRequest) → wish_at m.stage m ≡ w
        → IsAskedAs (if is_some (if open_one then None else w) then record m { asked = Some number } else m) (or_last (if open_one then None else w) number last)
    go true w e = h
    go false None e = h
    go false (Some request) e = λ n is. (
      request,
      same_wish m.stage m (Some number) ∙ e,
      ap (λ k. Some (question k request)) (let x : Some number ≡ Some n = is in cc),
    )

abbrev last_after : Machine → Call → Option Question → Option Question
last_after m (Opened number now) last = or_last (wish m now) number last
last_after m call last = last

call_asks : (m : Machine) (call : Call) (last : Option Question) → IsAskedAs m last → IsAskedAs (happens m call).machine (last_after m call last)
call_asks m (RequestUpdate source now most total) last h =
    command_asks (update_fault m most total) m _ last h (λ _. none_asked (begun m source now most total) last refl)
call_asks m (PassComponent source now part) last h =
    command_asks (pass_fault m source part) m _ last h
    (λ none. none_asked (passed m now) last (nothing_asked m last h (learning_wishes_nothing m.stage m (it_fits m source (is_learning m.stage) (none_both _ _ none).0))))
call_asks m (UpdateComponent source now size room) last h =
    command_asks (transfer_fault m source room size) m _ last h (λ _. none_asked (transferring m now size) last refl)
call_asks m (ActivateFirmware source now) last h =
    command_asks (activation_fault m source) m _ last h
    (λ none. none_asked (activating m now) last (nothing_asked m last h (ready_wishes_nothing m.stage m (it_fits m source (is_ready m.stage) (none_both _ _ none).0))))
call_asks m (CancelComponent source now) last h =
    command_asks (refusal m source (is_in_transfer m.stage)) m _ last h (λ _. none_asked (component_cancelled m now) last refl)
call_asks m (CancelUpdate source) last h =
    command_asks (refusal m source (not (is_activating m.stage))) m _ last h (λ _. none_asked (update_cancelled m) last refl)
call_asks m (Opened number now) last h = opened_asks m number now last h
call_asks m (Answered number now code bytes) last h =
    by_test (λ (o : Outcome). IsAskedAs o.machine last) (is_some_number m.asked number) (answered_at m.stage (record m { asked = None; heard = now }) code (length bytes)) (only m)
    (λ _. none_asked (answered_at m.stage (record m { asked = None; heard = now }) code (length bytes)).machine last (answer_asks_nothing m.stage (record m { asked = None; heard = now }) code (length bytes) refl))
    (λ _. h)
call_asks m (GaveUp number) last h =
    by_test (λ (o : Outcome). IsAskedAs o.machine last) (is_some_number m.asked number) (tried (record m { asked = None }) 0) (only m)
    (λ _. none_asked (tried (record m { asked = None }) 0).machine last (tried_asks_nothing (record m { asked = None }) 0 refl))
    (λ _. h)
call_asks m (Done number well) last h =
    by_test (λ new. IsAskedAs new last) (number == m.latest) (done_at m.stage m well) m
    (λ _. report_asks m.stage m well last refl h)
    (λ _. h)
call_asks m (Tick now) last h =
    by_test (λ (o : Outcome). IsAskedAs o.machine last) (is_between m.stage && nat_le (m.heard + IDLE_TIME) now) (hands (closed m) AbandonUpdate) (only m)
    (λ _. none_asked (hands (closed m) AbandonUpdate).machine last refl)
    (λ _. h)
call_asks m (Restart latest) last h = none_asked (first_machine latest) last refl

same_last : (latest : ℕ) (call : Call) (past : List Call) → last_asked latest (call ∷ past) ≡ last_after (machine latest past) call (last_asked latest past)
same_last latest (RequestUpdate source now most total) past = refl
same_last latest (PassComponent source now part) past = refl
same_last latest (UpdateComponent source now size room) past = refl
same_last latest (ActivateFirmware source now) past = refl
same_last latest (CancelComponent source now) past = refl
same_last latest (CancelUpdate source) past = refl
same_last latest (Opened number now) past = refl
same_last latest (Answered number now code bytes) past = refl
same_last latest (GaveUp number) past = refl
same_last latest (Done number well) past = refl
same_last latest (Tick now) past = refl
same_last latest (Restart anew) past = refl

pub all_asked : (latest : ℕ) (calls : List Call) → IsAskedAs (machine latest calls) (last_asked latest calls)
all_asked latest [] = none_asked (first_machine latest) None refl
all_asked latest (call ∷ past) =
    subst (IsAskedAs (machine latest (call ∷ past))) (sym (same_last latest call past))
    (call_asks (machine latest past) call (last_asked latest past) (all_asked latest past))

-- ---- which call has a piece stored
tried_stores_nothing : (m : Machine) (rest offset : ℕ) → (tried m rest).action ≡ Some (Store offset) → ⊥
tried_stores_nothing m rest offset =
    by_test (λ (o : Outcome). o.action ≡ Some (Store offset) → ⊥) (nat_lt (m.attempts + 1) MAX_ATTEMPTS) (only (record m { attempts = m.attempts + 1; rest = rest })) (given_up_transfer m)
    (λ _ e. cc) (λ _ e. cc)

record IsStored (stage : Stage) (m : Machine) (code bytes offset : ℕ) : Type 0 where
  stage_is : stage ≡ Fetching
  success : code ≡ SUCCESS
  long : bytes ≡ piece_length m
  at : offset ≡ m.stored

which_answer : (stage : Stage) (m : Machine) (code bytes offset : ℕ) → (answered_at stage m code bytes).action ≡ Some (Store offset) → IsStored stage m code bytes offset
which_answer Fetching m code bytes offset =
    by_test (λ (o : Outcome). o.action ≡ Some (Store offset) → IsStored Fetching m code bytes offset) ((code == SUCCESS) && (bytes == piece_length m)) (stores m bytes) (tried m (m.heard + RETRY_TIME))
    (λ t e. let both = and_parts (code == SUCCESS) (bytes == piece_length m) t in
    record {
      stage_is = refl;
      success = eqb-true code SUCCESS both.0;
      long = eqb-true bytes (piece_length m) both.1;
      at = cc;
    })
    (λ _ e. absurd (tried_stores_nothing m (m.heard + RETRY_TIME) offset e))
which_answer Fetched m code bytes offset =
    by_test (λ (o : Outcome). o.action ≡ Some (Store offset) → IsStored Fetched m code bytes offset) (code == SUCCESS) _ (tried m (m.heard + RETRY_TIME))
    (λ _ e. absurd (cc)) (λ _ e. absurd (tried_stores_nothing m (m.heard + RETRY_TIME) offset e))
which_answer (Verified true) m code bytes offset =
    by_test (λ (o : Outcome). o.action ≡ Some (Store offset) → IsStored (Verified true) m code bytes offset) (code == SUCCESS) _ (tried m (m.heard + RETRY_TIME))
    (λ _ e. absurd (cc)) (λ _ e. absurd (tried_stores_nothing m (m.heard + RETRY_TIME) offset e))
which_answer (Applied well) m code bytes offset =
    by_test (λ (o : Outcome). o.action ≡ Some (Store offset) → IsStored (Applied well) m code bytes offset) (code == SUCCESS) _ (tried m (m.heard + RETRY_TIME))
    (λ _ e. absurd (cc)) (λ _ e. absurd (tried_stores_nothing m (m.heard + RETRY_TIME) offset e))
which_answer Failed m code bytes offset = λ e. absurd (cc)
which_answer (Verified false) m code bytes offset = λ e. absurd (cc)
which_answer Idle m code bytes offset = λ e. absurd (cc)
which_answer Learning m code bytes offset = λ e. absurd (cc)
which_answer Ready m code bytes offset = λ e. absurd (cc)
which_answer Beginning m code bytes offset = λ e. absurd (cc)
which_answer (Storing count) m code bytes offset = λ e. absurd (cc)
which_answer Verifying m code bytes offset = λ e. absurd (cc)
which_answer Applying m code bytes offset = λ e. absurd (cc)
which_answer Activating m code bytes offset = λ e. absurd (cc)

no_command : (fault : Option ℕ) (m : Machine) (outcome : Outcome) (offset : ℕ) → (outcome.action ≡ Some (Store offset) → ⊥) → (unless_refused fault m outcome).action ≡ Some (Store offset) → ⊥
no_command None m outcome offset other e = other e
no_command (Some code) m outcome offset other e = cc

pub asked_number : (asked : Option ℕ) (number : ℕ) → is_some_number asked number ≡ true → asked ≡ Some number
asked_number None number t = absurd (cc)
asked_number (Some this) number t = ap Some (eqb-true this number t)

pub pieces_are_own : PiecesAreOwn
pieces_are_own latest past call offset = go call
  where
    go : (call : Call) → (happens (machine latest past) call).action ≡ Some (Store offset) → IsOwnPiece latest past call offset
    go (RequestUpdate source now most total) = λ e. absurd (no_command (update_fault (machine latest past) most total) (machine latest past) _ offset (λ x. cc) e)
    go (PassComponent source now part) = λ e. absurd (no_command (pass_fault (machine latest past) source part) (machine latest past) _ offset (λ x. cc) e)
    go (UpdateComponent source now size room) = λ e. absurd (no_command (transfer_fault (machine latest past) source room size) (machine latest past) _ offset (λ x. cc) e)
    go (ActivateFirmware source now) = λ e. absurd (no_command (activation_fault (machine latest past) source) (machine latest past) _ offset (λ x. cc) e)
    go (CancelComponent source now) = λ e. absurd (no_command (refusal (machine latest past) source (is_in_transfer (machine latest past).stage)) (machine latest past) _ offset (λ x. cc) e)
    go (CancelUpdate source) = λ e. absurd (no_command (refusal (machine latest past) source (not (is_activating (machine latest past).stage))) (machine latest past) _ offset (λ x. cc) e)
    go (Opened number now) = λ e. absurd (cc)
    go (Answered number now code bytes) =
        by_test (λ (o : Outcome). o.action ≡ Some (Store offset) → IsOwnPiece latest past (Answered number now code bytes) offset) (is_some_number (machine latest past).asked number) (answered_at (machine latest past).stage (record (machine latest past) { asked = None; heard = now }) code (length bytes)) (only (machine latest past))
        (λ t e. let stored = which_answer (machine latest past).stage (record (machine latest past) { asked = None; heard = now }) code (length bytes) offset e in
        let asked = all_asked latest past number (asked_number (machine latest past).asked number t) in
        let wished : Some (Piece (machine latest past).stored (piece_length (machine latest past))) ≡ Some asked.0 = sym (ap (λ s. wish_at s (machine latest past)) stored.stage_is) ∙ asked.1 in
        let is : Piece (machine latest past).stored (piece_length (machine latest past)) ≡ asked.0 = cc in
        record {
          number = number;
          now = now;
          bytes = bytes;
          call_is = ap (λ c. Answered number now c bytes) stored.success;
          asked = asked.2 ∙ ap (λ r. Some (question number r)) (sym is ∙ ap (λ o. Piece o (piece_length (machine latest past))) (sym stored.at) ∙ ap (λ l. Piece offset l) (sym stored.long));
        })
        (λ _ e. absurd (cc))
    go (GaveUp number) =
        by_test (λ (o : Outcome). o.action ≡ Some (Store offset) → IsOwnPiece latest past (GaveUp number) offset) (is_some_number (machine latest past).asked number) (tried (record (machine latest past) { asked = None }) 0) (only (machine latest past))
        (λ _ e. absurd (tried_stores_nothing (record (machine latest past) { asked = None }) 0 offset e))
        (λ _ e. absurd (cc))
    go (Done number well) = λ e. absurd (cc)
    go (Tick now) =
        by_test (λ (o : Outcome). o.action ≡ Some (Store offset) → IsOwnPiece latest past (Tick now) offset) (is_between (machine latest past).stage && nat_le ((machine latest past).heard + IDLE_TIME) now) _ (only (machine latest past))
        (λ _ e. absurd (cc))
        (λ _ e. absurd (cc))
    go (Restart anew) = λ e. absurd (cc)
