-- What holds after each call: what the flash was told last fits the stage.
use Rattle.std.proofs.Common.{◌≡◌, ℕ, zero, suc, ◌+◌, ◌<◌, ◌≤◌, Bool, true, false, List, [], ◌∷◌, length, Option, Some, None, is_some, refl, sym, ap, subst, ◌∙◌, length-append, arith}
use Rattle.std.specs.Prelude.{◌==◌, ◌&&◌, ◌||◌, not, nat_lt, nat_le, if◌then◌else◌}
use Rattle.std.proofs.lemmas.Bool.{eqb-true, eqb-false, ltb-false, and_parts}
use Rattle.pldm_wire.specs.declared.assigned.TheConstants.{SUCCESS}
use Rattle.pldm_update.specs.declared.assigned.TheConstants.{MIN_TRANSFER_BYTES}
use Rattle.pldm_update.specs.declared.times.TheConstants.{IDLE_TIME, MAX_ATTEMPTS, RETRY_TIME}
use Rattle.pldm_update.specs.declared.device_stage.DeviceRequest.{DeviceRequest}
use Rattle.pldm_update.specs.declared.device_stage.Stage.{Stage}
use Rattle.pldm_update.specs.declared.device_stage.Stage.TheVariants.{Idle, Learning, Ready, Beginning, Fetching, Storing, Fetched, Failed, Verifying, Verified, Applying, Applied, Activating}
use Rattle.pldm_update.specs.DeviceStages.{is_idle, is_between, is_ready, is_learning, is_in_transfer, is_activating}
use Rattle.pldm_update.specs.Machines.{Machine, is_some_number, piece_length, refusal, wish, wish_at}
use Rattle.pldm_update.specs.DeviceCommands.{activation_fault, begun, first_fault, pass_fault, size_fault, transfer_fault, update_fault}
use Rattle.pldm_update.specs.DeviceAnswers.{Outcome, answered_at, done_at, given_up_transfer, only, stores, tried}
use Rattle.pldm_update.specs.Deeds.{Deed, Begins, Stores, Verifies, Applies, Reports, AreInOrder, WasDone, has_applied, has_verified, image, is_apply, size_begun}
use Rattle.pldm_update.specs.DeviceCalls.{Call, RequestUpdate, PassComponent, UpdateComponent, ActivateFirmware, CancelComponent, CancelUpdate, Opened, Answered, GaveUp, Done, Tick, Restart, added, deeds, happens, is_at_work, machine, unless_refused, with_deed}
use Rattle.pldm_update.specs.DeviceLaws.{FlashIsInOrder}

-- ---- tests
pub by_test : {A : Type 0} (P : A → Type 0) (test : Bool) (a b : A) → (test ≡ true → P a) → (test ≡ false → P b) → P (if test then a else b)
by_test P true a b passed failed = passed refl
by_test P false a b passed failed = failed refl

or_right : (a b : Bool) → b ≡ true → (a || b) ≡ true
or_right true b h = refl
or_right false b h = h

pub none_later : (test : Bool) (code : ℕ) (later : Option ℕ) → (if test then Some code else later) ≡ None → (test ≡ false) × (later ≡ None)
none_later true code later h = absurd (cc)
none_later false code later h = (refl, h)

pub none_both : (first own : Option ℕ) → first_fault first own ≡ None → (first ≡ None) × (own ≡ None)
none_both None own h = (refl, h)
none_both (Some code) own h = absurd (cc)

-- ---- what holds
record UnderWay (size stored : ℕ) (past : List Deed) : Type 0 where
  begun : size_begun past ≡ Some size
  long : length (image past) ≡ stored
  fresh : has_verified past ≡ false
  well : WasDone past

record IsStoring (size stored count : ℕ) (past : List Deed) : Type 0 where
  contents : List ℕ
  before : List Deed
  past_is : past ≡ Stores stored contents ∷ before
  many : length contents ≡ count
  begun : size_begun before ≡ Some size
  long : length (image before) ≡ stored
  fresh : has_verified before ≡ false
  within : stored + count ≤ size

abbrev At : Stage → ℕ → ℕ → List Deed → Type 0
At Idle size stored past = Unit {0}
At Learning size stored past = Unit {0}
At Ready size stored past = Unit {0}
At Failed size stored past = Unit {0}
At Activating size stored past = Unit {0}
At Beginning size stored past = (before : List Deed) × (past ≡ Begins size ∷ before) × (stored ≡ 0) × (0 < size)
At Fetching size stored past = UnderWay size stored past × (stored < size)
At (Storing count) size stored past = IsStoring size stored count past
At Fetched size stored past = UnderWay size stored past × (stored ≡ size)
At Verifying size stored past = (before : List Deed) × (past ≡ Verifies ∷ before)
At (Verified good) size stored past = (before : List Deed) × (past ≡ Reports good ∷ Verifies ∷ before)
At Applying size stored past = (before : List Deed) × (past ≡ Applies ∷ before)
At (Applied well) size stored past = (before : List Deed) × (past ≡ Reports well ∷ Applies ∷ before)

record Holds (m : Machine) (past : List Deed) : Type 0 where
  at : At m.stage m.size m.stored past
  applied : m.is_applied ≡ true → has_applied past ≡ true
  most : is_idle m.stage ≡ false → 0 < m.most
  quiet : is_idle m.stage ≡ true → m.asked ≡ None
  order : AreInOrder past

abbrev HoldsAfter : List ℕ → List Deed → Outcome → Type 0
HoldsAfter bytes past outcome = Holds outcome.machine (with_deed outcome.action bytes past)

-- ---- the transfer is given up
give_up_holds : (m : Machine) (bytes : List ℕ) (past : List Deed) → Holds m past → 0 < m.most → HoldsAfter bytes past (given_up_transfer m)
give_up_holds m bytes past h some = record {
  at = tt;
  applied = h.applied;
  most = λ _. some;
  quiet = λ _. refl;
  order = (tt, h.order);
}

tried_holds : (m : Machine) (rest : ℕ) (bytes : List ℕ) (past : List Deed) → Holds m past → 0 < m.most → HoldsAfter bytes past (tried m rest)
tried_holds m rest bytes past h some =
    by_test (HoldsAfter bytes past) (nat_lt (m.attempts + 1) MAX_ATTEMPTS) (only (record m { attempts = m.attempts + 1; rest = rest })) (given_up_transfer m)
    (λ _. record { at = h.at; applied = h.applied; most = h.most; quiet = h.quiet; order = h.order })
    (λ _. give_up_holds m bytes past h some)

-- ---- an answer
piece_fits : (m : Machine) (count : ℕ) → count ≡ piece_length m → 0 < m.most → m.stored < m.size → (0 < count) × (m.stored + count ≤ m.size)
piece_fits m count is some less = (omega (arith, is), omega (arith, is))

stores_holds : (m : Machine) (bytes : List ℕ) (past : List Deed) → Holds m past → UnderWay m.size m.stored past → m.stored < m.size → 0 < m.most → length bytes ≡ piece_length m → HoldsAfter bytes past (stores m (length bytes))
stores_holds m bytes past h way less some is =
    let fits = piece_fits m (length bytes) is some less in
    record {
      at = record {
        contents = bytes;
        before = past;
        past_is = refl;
        many = refl;
        begun = way.begun;
        long = way.long;
        fresh = way.fresh;
        within = fits.1;
      };
      applied = h.applied;
      most = λ _. some;
      quiet = λ idle. absurd (cc);
      order = ((m.size, way.begun, sym way.long, fits.0, fits.1, way.fresh, way.well), h.order);
    }

answer_holds : (stage : Stage) (m : Machine) (code : ℕ) (bytes : List ℕ) (past : List Deed) → m.stage ≡ stage → Holds m past → HoldsAfter bytes past (answered_at stage m code (length bytes))
answer_holds Idle m code bytes past e h = h
answer_holds Learning m code bytes past e h = h
answer_holds Ready m code bytes past e h = h
answer_holds Beginning m code bytes past e h = h
answer_holds (Storing count) m code bytes past e h = h
answer_holds Verifying m code bytes past e h = h
answer_holds Applying m code bytes past e h = h
answer_holds Activating m code bytes past e h = h
answer_holds Fetching m code bytes past e h =
    let at : At Fetching m.size m.stored past = subst (λ s. At s m.size m.stored past) e h.at in
    let some : 0 < m.most = h.most (ap is_idle e) in
    by_test (HoldsAfter bytes past) ((code == SUCCESS) && (length bytes == piece_length m)) (stores m (length bytes)) (tried m (m.heard + RETRY_TIME))
    (λ t. stores_holds m bytes past h at.0 at.1 some (eqb-true (length bytes) (piece_length m) (and_parts (code == SUCCESS) (length bytes == piece_length m) t).1))
    (λ _. tried_holds m (m.heard + RETRY_TIME) bytes past h some)
answer_holds Fetched m code bytes past e h =
    let at : At Fetched m.size m.stored past = subst (λ s. At s m.size m.stored past) e h.at in
    let some : 0 < m.most = h.most (ap is_idle e) in
    by_test (HoldsAfter bytes past) (code == SUCCESS) _ (tried m (m.heard + RETRY_TIME))
    (λ _. record {
      at = (past, refl);
      applied = h.applied;
      most = λ _. some;
      quiet = λ idle. absurd (cc);
      order = ((at.0.begun ∙ ap Some (sym at.1 ∙ sym at.0.long), at.0.fresh, at.0.well), h.order);
    })
    (λ _. tried_holds m (m.heard + RETRY_TIME) bytes past h some)
answer_holds Failed m code bytes past e h = give_up_holds m bytes past h (h.most (ap is_idle e))
answer_holds (Verified true) m code bytes past e h =
    let at : At (Verified true) m.size m.stored past = subst (λ s. At s m.size m.stored past) e h.at in
    let some : 0 < m.most = h.most (ap is_idle e) in
    by_test (HoldsAfter bytes past) (code == SUCCESS) _ (tried m (m.heard + RETRY_TIME))
    (λ _. record {
      at = (past, refl);
      applied = h.applied;
      most = λ _. some;
      quiet = λ idle. absurd (cc);
      order = ((at.0, at.1), h.order);
    })
    (λ _. tried_holds m (m.heard + RETRY_TIME) bytes past h some)
answer_holds (Verified false) m code bytes past e h = give_up_holds m bytes past h (h.most (ap is_idle e))
answer_holds (Applied well) m code bytes past e h =
    let at : At (Applied well) m.size m.stored past = subst (λ s. At s m.size m.stored past) e h.at in
    let some : 0 < m.most = h.most (ap is_idle e) in
    by_test (HoldsAfter bytes past) (code == SUCCESS) _ (tried m (m.heard + RETRY_TIME))
    (λ _. record {
      at = tt;
      applied = λ is. counts m.is_applied well past at.0 at.1 h.applied is;
      most = λ _. some;
      quiet = λ _. refl;
      order = h.order;
    })
    (λ _. tried_holds m (m.heard + RETRY_TIME) bytes past h some)
  where
    counts : (before well : Bool) (past rest : List Deed) → past ≡ Reports well ∷ Applies ∷ rest → (before ≡ true → has_applied past ≡ true) → (before || well) ≡ true → has_applied past ≡ true
    counts true well past rest e h is = h refl
    counts false true past rest e h is = rw e refl
    counts false false past rest e h is = absurd (cc)

-- ---- a report of the flash
report_holds : (stage : Stage) (m : Machine) (well : Bool) (past : List Deed) → m.stage ≡ stage → Holds m past → Holds (done_at stage m well) (if is_at_work stage then Reports well ∷ past else past)
report_holds Idle m well past e h = h
report_holds Learning m well past e h = h
report_holds Ready m well past e h = h
report_holds Fetching m well past e h = h
report_holds Fetched m well past e h = h
report_holds Failed m well past e h = h
report_holds (Verified good) m well past e h = h
report_holds (Applied done) m well past e h = h
report_holds Beginning m true past e h =
    let at : At Beginning m.size m.stored past = subst (λ s. At s m.size m.stored past) e h.at in
    record {
      at = (
        record {
          begun = rw at.1 refl;
          long = rw at.1 (sym at.2);
          fresh = rw at.1 refl;
          well = (past, refl);
        },
        omega (arith, at.2, at.3),
      );
      applied = λ is. or_right (is_apply past) (has_applied past) (h.applied is);
      most = λ _. h.most (ap is_idle e);
      quiet = λ idle. absurd (cc);
      order = (tt, h.order);
    }
report_holds Beginning m false past e h = record {
  at = tt;
  applied = h.applied;
  most = λ _. h.most (ap is_idle e);
  quiet = λ idle. absurd (cc);
  order = (tt, h.order);
}
report_holds (Storing count) m true past e h =
    let at : IsStoring m.size m.stored count past = subst (λ s. At s m.size m.stored past) e h.at in
    let way : UnderWay m.size (m.stored + count) (Reports true ∷ past) = record {
      begun = rw at.past_is at.begun;
      long = rw at.past_is (length-append (image at.before) at.contents ∙ omega (arith, at.long, at.many));
      fresh = rw at.past_is at.fresh;
      well = (past, refl);
    } in
    record {
      at = by_test (λ stage. At stage m.size (m.stored + count) (Reports true ∷ past)) (m.stored + count == m.size) Fetched Fetching
          (λ t. (way, eqb-true (m.stored + count) m.size t))
          (λ f. let other = eqb-false (m.stored + count) m.size f in (way, omega (arith, other, at.within)));
      applied = λ is. or_right (is_apply past) (has_applied past) (h.applied is);
      most = λ _. h.most (ap is_idle e);
      quiet = λ idle. absurd (by_test (λ stage. is_idle stage ≡ true → ⊥) (m.stored + count == m.size) Fetched Fetching (λ _ i. cc) (λ _ i. cc) idle);
      order = (tt, h.order);
    }
report_holds (Storing count) m false past e h = record {
  at = tt;
  applied = h.applied;
  most = λ _. h.most (ap is_idle e);
  quiet = λ idle. absurd (cc);
  order = (tt, h.order);
}
report_holds Verifying m well past e h =
    let at : At Verifying m.size m.stored past = subst (λ s. At s m.size m.stored past) e h.at in
    record {
      at = (at.0, ap (λ (rest : List Deed). Reports well ∷ rest) at.1);
      applied = λ is. or_right (well && is_apply past) (has_applied past) (h.applied is);
      most = λ _. h.most (ap is_idle e);
      quiet = λ idle. absurd (cc);
      order = (tt, h.order);
    }
report_holds Applying m well past e h =
    let at : At Applying m.size m.stored past = subst (λ s. At s m.size m.stored past) e h.at in
    record {
      at = (at.0, ap (λ (rest : List Deed). Reports well ∷ rest) at.1);
      applied = λ is. or_right (well && is_apply past) (has_applied past) (h.applied is);
      most = λ _. h.most (ap is_idle e);
      quiet = λ idle. absurd (cc);
      order = (tt, h.order);
    }
report_holds Activating m well past e h = record {
  at = tt;
  applied = λ is. absurd (cc);
  most = λ busy. absurd (cc);
  quiet = λ _. refl;
  order = (tt, h.order);
}

-- ---- a command
command_holds : (fault : Option ℕ) (m : Machine) (outcome : Outcome) (past : List Deed) → Holds m past → (fault ≡ None → HoldsAfter [] past outcome) → HoldsAfter [] past (unless_refused fault m outcome)
command_holds None m outcome past h ok = ok refl
command_holds (Some code) m outcome past h ok = h

not_idle : (m : Machine) (source : ℕ) (fits : Bool) → refusal m source fits ≡ None → is_idle m.stage ≡ false
not_idle m source fits h = (none_later (is_idle m.stage) _ _ h).0

some_size : (room : Option ℕ) (size : ℕ) → size_fault room size ≡ None → 0 < size
some_size None size h = absurd (cc)
some_size (Some room) size h = go size (none_later _ _ _ h).0
  where
    go : (size : ℕ) → ((size == 0) || nat_lt room size) ≡ false → 0 < size
    go zero h = absurd (cc)
    go (suc n) h = omega arith

is_applied_of : (applied : Bool) (code : ℕ) → (if applied then None else Some code) ≡ None → applied ≡ true
is_applied_of true code h = refl
is_applied_of false code h = absurd (cc)

enough : (m : Machine) (most total : ℕ) → update_fault m most total ≡ None → 0 < most
enough m most total h =
    let later = (none_later (not (is_idle m.stage)) _ _ h).1 in
    let few = (none_later (nat_lt most MIN_TRANSFER_BYTES) _ _ later).0 in
    let least : MIN_TRANSFER_BYTES ≤ most = ltb-false most MIN_TRANSFER_BYTES few in
    omega (arith, least)

-- ---- each call
wishes_nothing : (stage : Stage) (m : Machine) → is_idle stage ≡ true → wish_at stage m ≡ None
wishes_nothing Idle m h = refl
wishes_nothing Learning m h = absurd (cc)
wishes_nothing Ready m h = absurd (cc)
wishes_nothing Beginning m h = absurd (cc)
wishes_nothing Fetching m h = absurd (cc)
wishes_nothing (Storing count) m h = absurd (cc)
wishes_nothing Fetched m h = absurd (cc)
wishes_nothing Failed m h = absurd (cc)
wishes_nothing Verifying m h = absurd (cc)
wishes_nothing (Verified good) m h = absurd (cc)
wishes_nothing Applying m h = absurd (cc)
wishes_nothing (Applied well) m h = absurd (cc)
wishes_nothing Activating m h = absurd (cc)

no_wish : (test : Bool) (wished : Option DeviceRequest) → is_some (if test then None else wished) ≡ true → wished ≡ None → ⊥
no_wish true wished some none = cc
no_wish false wished some none = cc

is_asked : (m : Machine) (number : ℕ) → is_some_number m.asked number ≡ true → (is_idle m.stage ≡ true → m.asked ≡ None) → is_idle m.stage ≡ false
is_asked m number some quiet = go (is_idle m.stage) m.asked some quiet
  where
    go : (idle : Bool) (asked : Option ℕ) → is_some_number asked number ≡ true → (idle ≡ true → asked ≡ None) → idle ≡ false
    go false asked some quiet = refl
    go true None some quiet = absurd (cc)
    go true (Some this) some quiet = absurd (let e = quiet refl in cc)

call_holds : (m : Machine) (call : Call) (past : List Deed) → Holds m past → Holds (happens m call).machine (added m call past)
call_holds m (RequestUpdate source now most total) past h =
    command_holds (update_fault m most total) m (only (begun m source now most total)) past h
    (λ none. record {
      at = tt;
      applied = λ is. absurd (cc);
      most = λ _. enough m most total none;
      quiet = λ _. refl;
      order = h.order;
    })
call_holds m (PassComponent source now part) past h =
    command_holds (pass_fault m source part) m _ past h
    (λ none. let busy = not_idle m source (is_learning m.stage) (none_both _ _ none).0 in
    record {
      at = by_test (λ stage. At stage m.size m.stored past) (m.left == 1) Ready Learning (λ _. tt) (λ _. tt);
      applied = h.applied;
      most = λ _. h.most busy;
      quiet = λ idle. absurd (by_test (λ stage. is_idle stage ≡ true → ⊥) (m.left == 1) Ready Learning (λ _ i. cc) (λ _ i. cc) idle);
      order = h.order;
    })
call_holds m (UpdateComponent source now size room) past h =
    command_holds (transfer_fault m source room size) m _ past h
    (λ none. let both = none_both _ _ none in
    let busy = not_idle m source (is_ready m.stage) both.0 in
    let some = some_size room size both.1 in
    record {
      at = (past, refl, refl, some);
      applied = h.applied;
      most = λ _. h.most busy;
      quiet = λ idle. absurd (cc);
      order = (some, h.order);
    })
call_holds m (ActivateFirmware source now) past h =
    command_holds (activation_fault m source) m _ past h
    (λ none. let both = none_both _ _ none in
    let busy = not_idle m source (is_ready m.stage) both.0 in
    record {
      at = tt;
      applied = λ is. absurd (cc);
      most = λ _. h.most busy;
      quiet = λ idle. absurd (cc);
      order = (h.applied (is_applied_of m.is_applied _ both.1), h.order);
    })
call_holds m (CancelComponent source now) past h =
    command_holds (refusal m source (is_in_transfer m.stage)) m _ past h
    (λ none. let busy = not_idle m source (is_in_transfer m.stage) none in
    record {
      at = tt;
      applied = h.applied;
      most = λ _. h.most busy;
      quiet = λ idle. absurd (cc);
      order = (tt, h.order);
    })
call_holds m (CancelUpdate source) past h =
    command_holds (refusal m source (not (is_activating m.stage))) m _ past h
    (λ none. record {
      at = tt;
      applied = λ is. absurd (cc);
      most = λ busy. absurd (cc);
      quiet = λ _. refl;
      order = (tt, h.order);
    })
call_holds m (Opened number now) past h =
    by_test (λ new. Holds new past) (is_some (wish m now)) (record m { asked = Some number }) m
    (λ some. record {
      at = h.at;
      applied = h.applied;
      most = h.most;
      quiet = λ idle. absurd (no_wish (is_some m.asked || nat_lt now m.rest) (wish_at m.stage m) some (wishes_nothing m.stage m idle));
      order = h.order;
    })
    (λ _. h)
call_holds m (Answered number now code bytes) past h =
    by_test (HoldsAfter bytes past) (is_some_number m.asked number) (answered_at m.stage (record m { asked = None; heard = now }) code (length bytes)) (only m)
    (λ _. answer_holds m.stage (record m { asked = None; heard = now }) code bytes past refl
    (record { at = h.at; applied = h.applied; most = h.most; quiet = λ _. refl; order = h.order }))
    (λ _. h)
call_holds m (GaveUp number) past h =
    by_test (HoldsAfter [] past) (is_some_number m.asked number) (tried (record m { asked = None }) 0) (only m)
    (λ some. tried_holds (record m { asked = None }) 0 [] past
    (record { at = h.at; applied = h.applied; most = h.most; quiet = λ _. refl; order = h.order })
    (h.most (is_asked m number some h.quiet)))
    (λ _. h)
call_holds m (Done number well) past h = go (number == m.latest)
  where
    go : (last : Bool) → Holds (if last then done_at m.stage m well else m) (if last && is_at_work m.stage then Reports well ∷ past else past)
    go true = report_holds m.stage m well past refl h
    go false = h
call_holds m (Tick now) past h =
    by_test (HoldsAfter [] past) (is_between m.stage && nat_le (m.heard + IDLE_TIME) now) _ (only m)
    (λ _. record {
      at = tt;
      applied = λ is. absurd (cc);
      most = λ busy. absurd (cc);
      quiet = λ _. refl;
      order = (tt, h.order);
    })
    (λ _. h)
call_holds m (Restart latest) past h = record {
  at = tt;
  applied = λ is. absurd (cc);
  most = λ busy. absurd (cc);
  quiet = λ _. refl;
  order = (tt, h.order);
}

all_hold : (latest : ℕ) (calls : List Call) → Holds (machine latest calls) (deeds latest calls)
all_hold latest [] = record {
  at = tt;
  applied = λ is. absurd (cc);
  most = λ busy. absurd (cc);
  quiet = λ _. refl;
  order = tt;
}
all_hold latest (call ∷ past) = call_holds (machine latest past) call (deeds latest past) (all_hold latest past)

-- while pieces are fetched, the image that was begun has the machine's size, and is not whole
pub size_where_fetching : (latest : ℕ) (calls : List Call) → (machine latest calls).stage ≡ Fetching
    → (size_begun (deeds latest calls) ≡ Some (machine latest calls).size) × ((machine latest calls).stored < (machine latest calls).size)
size_where_fetching latest calls e =
    let m = machine latest calls in
    let at : At Fetching m.size m.stored (deeds latest calls) = subst (λ s. At s m.size m.stored (deeds latest calls)) e (all_hold latest calls).at in
    (at.0.begun, at.1)

pub flash_is_in_order : FlashIsInOrder
flash_is_in_order latest calls = (all_hold latest calls).order
