-- Which request is the one of a number: over a log the state of a device that gives an answer for each number is how many
-- requests asked something of it.
use Rattle.std.proofs.Common.{◌≡◌, ◌⊎◌, inl, inr, ℕ, ◌+◌, Bool, true, false, List, [], ◌∷◌, ◌++◌, length, Option, Some, None, Result, Ok, Err, refl, sym, ap, ◌∙◌, ⊎_elim, arith}
use Rattle.std.specs.Prelude.{◌&&◌, not, is_some, slice_get, if◌then◌else◌}
use Rattle.std.proofs.lemmas.Bool.{and_parts, cases_eq, cond-true, not-true}
use Rattle.mctp_packet.specs.declared.reason.Reason.{Reason}
use Rattle.pldm_endpoint.specs.Histories.{in_turn}
use Rattle.pldm_endpoint.specs.TwoSteps.{unasked}
use Rattle.pldm_responder.specs.Asked.{Given, gives, response_in}
use Rattle.pldm_responder.specs.Events.{is_busy}
use Rattle.pldm_responder.specs.Performing.{Respond, Rules, answer_to, next, next_after, after_command, reply, reply_to, response_to, tasks_at, tasks_in}
use Rattle.pldm_wire.specs.Answers.{answer_message}
use Rattle.pldm_wire.specs.CommandReading.{command_of}
use Rattle.pldm_wire.specs.HandingOn.{hands_on}
use Rattle.pldm_wire.specs.declared.pass_through.PassThrough.{PassThrough}
use Rattle.pldm_wire.specs.Requests.{Request, request_of}
use Rattle.pldm_wire.specs.declared.command.Command.{Command}
use Rattle.mctp_schedule.specs.FirstArrivals.{arrives, first, is_first}
use Rattle.mctp_schedule.specs.Logs.{Asked, Happening, Opened, Delivered, Sensed, WentDown, asked_at, reached}
use Rattle.mctp_schedule.specs.OncePerformed.{bytes_of, once, reply_from, the_reply}
use Rattle.mctp_schedule.proofs.FirstPerformed.{first_below, first_busy, first_here, first_other, first_stays, is_first_of, never_first, request_older}
use Rattle.mctp_schedule.proofs.ListPlaces.{get_front, get_last, get_pushed, get_within, length_pushed}
use Rattle.mctp_schedule.proofs.UntouchedRequests.{first_more}
use Rattle.endpoint_schedule.specs.OverTime.{asks_at, asks_by, asks_device, is_some_task, reply_of, to_hand_out}

abbrev pub device : PassThrough → (ℕ → Given) → Rules ℕ
device handed answers = in_turn handed answers

-- ---- what the device gives says what a request is answered
by_command : (handed : PassThrough) (answers : ℕ → Given) (count : ℕ) (r : Result Command ℕ) → answer_to (device handed answers) count r ≡ answer_to (gives (hands_on handed) (answers count)) tt r
by_command handed answers count (Ok command) = refl
by_command handed answers count (Err code) = refl

by_request : (handed : PassThrough) (answers : ℕ → Given) (count : ℕ) (q : Result Request Reason) → reply_to (device handed answers) count q ≡ reply_to (gives (hands_on handed) (answers count)) tt q
by_request handed answers count (Ok request) = ap (λ a. if hands_on handed request.kind then response_to request (response_in (answers count)) else answer_message request.id request.kind a) (by_command handed answers count (command_of request.kind request.rest))
by_request handed answers count (Err reason) = refl

pub reply_is : (handed : PassThrough) (answers : ℕ → Given) (count : ℕ) (bytes : List ℕ) → reply (device handed answers) count bytes ≡ reply_of handed (answers count) bytes
reply_is handed answers count bytes = by_request handed answers count (request_of bytes)

-- and where it asks nothing of it, whatever it gives
refused_command : (handed : PassThrough) (answers : ℕ → Given) (count : ℕ) (r : Result Command ℕ) → is_some_task (tasks_in r) ≡ false → answer_to (device handed answers) count r ≡ answer_to (gives (hands_on handed) unasked) tt r
refused_command handed answers count (Ok command) none = absurd (cc)
refused_command handed answers count (Err code) none = refl

refused_request : (handed : PassThrough) (answers : ℕ → Given) (count : ℕ) (q : Result Request Reason) → is_some_task (tasks_at (hands_on handed) q) ≡ false → reply_to (device handed answers) count q ≡ reply_to (gives (hands_on handed) unasked) tt q
refused_request handed answers count (Err reason) none = refl
refused_request handed answers count (Ok request) none = go (hands_on handed request.kind) none
  where
    go : (t : Bool) → is_some_task (if t then Respond request ∷ [] else tasks_in (command_of request.kind request.rest)) ≡ false
        → (if t then response_to request (response_in (answers count)) else answer_message request.id request.kind (answer_to (device handed answers) count (command_of request.kind request.rest)))
        ≡ (if t then response_to request (response_in unasked) else answer_message request.id request.kind (answer_to (gives (hands_on handed) unasked) tt (command_of request.kind request.rest)))
    go true is = absurd (cc)
    go false is = ap (answer_message request.id request.kind) (refused_command handed answers count (command_of request.kind request.rest) is)

pub refusal_is : (handed : PassThrough) (answers : ℕ → Given) (count : ℕ) (bytes : List ℕ) → asks_device handed bytes ≡ false → reply (device handed answers) count bytes ≡ reply_of handed unasked bytes
refusal_is handed answers count bytes none = refused_request handed answers count (request_of bytes) none

-- ---- its state counts what was asked
counts_command : (handed : PassThrough) (answers : ℕ → Given) (count : ℕ) (r : Result Command ℕ) → after_command (device handed answers) count r ≡ (if is_some_task (tasks_in r) then count + 1 else count)
counts_command handed answers count (Ok command) = refl
counts_command handed answers count (Err code) = refl

counts_request : (handed : PassThrough) (answers : ℕ → Given) (count : ℕ) (q : Result Request Reason) → next_after (device handed answers) count q ≡ (if is_some_task (tasks_at (hands_on handed) q) then count + 1 else count)
counts_request handed answers count (Err reason) = refl
counts_request handed answers count (Ok request) = go (hands_on handed request.kind)
  where
    go : (t : Bool) → (if t then count + 1 else after_command (device handed answers) count (command_of request.kind request.rest)) ≡ (if is_some_task (if t then Respond request ∷ [] else tasks_in (command_of request.kind request.rest)) then count + 1 else count)
    go true = refl
    go false = counts_command handed answers count (command_of request.kind request.rest)

one_more : (asks : Bool) (n k : ℕ) (xs : List ℕ) → n ≡ length xs → (if asks then n + 1 else n) ≡ length (if asks then xs ++ k ∷ [] else xs)
one_more true n k xs same = let l = length_pushed xs k in omega (arith, same, l)
one_more false n k xs same = same

module _ (handed : PassThrough) (answers : ℕ → Given) (keep : ℕ) where
  abbrev pub count_of : List Happening → ℕ
  count_of log = once (device handed answers) keep 0 log

  counted : (n k : ℕ) (xs : List ℕ) → n ≡ length xs → (o : Option Asked) (place : Option (List Happening)) (busy : Bool)
      → (if is_first_of o place busy then next (device handed answers) n (bytes_of o) else n) ≡ length (if is_first_of o place busy && asks_by handed o then xs ++ k ∷ [] else xs)
  counted n k xs same None place busy =
      (λ i. if never_first place busy i then next (device handed answers) n [] else n) ∙ same ∙ sym (λ i. length (if never_first place busy i && false then xs ++ k ∷ [] else xs))
  counted n k xs same (Some r) place busy = go (is_first_of (Some r) place busy)
    where
      go : (b : Bool) → (if b then next (device handed answers) n r.message else n) ≡ length (if b && asks_device handed r.message then xs ++ k ∷ [] else xs)
      go true = counts_request handed answers n (request_of r.message) ∙ one_more (asks_device handed r.message) n k xs same
      go false = same

  -- the state is how many were to be handed out
  pub count_is : (log : List Happening) → count_of log ≡ length (to_hand_out handed keep log)
  count_is [] = refl
  count_is (Opened r ∷ past) = count_is past
  count_is (Sensed moment id value ∷ past) = count_is past
  count_is (WentDown moment ∷ past) = count_is past
  count_is (Delivered moment k ∷ past) =
      counted (count_of past) k (to_hand_out handed keep past) (count_is past) (asked_at past k) (first ℕ keep past k) (is_busy keep (reached {S = ℕ} past) moment)

  -- at a first arrival what had happened before is its place
  pub first_place : (past : List Happening) (moment k : ℕ) → is_first ℕ keep past moment k ≡ true → first ℕ keep (Delivered moment k ∷ past) k ≡ Some past
  first_place past moment k on = go (first ℕ keep past k) (asked_at past k) refl refl
    where
      go : (f : Option (List Happening)) (o : Option Asked) → first ℕ keep past k ≡ f → asked_at past k ≡ o → first ℕ keep (Delivered moment k ∷ past) k ≡ Some past
      go (Some place) o f e = absurd (let wrong : true ≡ false = sym on ∙ ap (λ p. not (is_some p) && arrives (asked_at past k) (is_busy keep (reached {S = ℕ} past) moment)) f in cc)
      go None None f e = absurd (let wrong : true ≡ false = sym on ∙ ap (λ p. is_first_of p (first ℕ keep past k) (is_busy keep (reached {S = ℕ} past) moment)) e ∙ never_first (first ℕ keep past k) (is_busy keep (reached {S = ℕ} past) moment) in cc)
      go None (Some r) f e =
          let serves : not (is_busy keep (reached {S = ℕ} past) moment) ≡ true = sym (λ i. is_first_of (e i) (f i) (is_busy keep (reached {S = ℕ} past) moment)) ∙ on in
          first_here ℕ keep past moment k r e (not-true (is_busy keep (reached {S = ℕ} past) moment) serves) f

  -- one more delivery
  by_delivery : (past : List Happening) (moment j n k : ℕ) (b : Bool) → (is_first ℕ keep past moment j && asks_at handed past j) ≡ b → slice_get (if b then to_hand_out handed keep past ++ j ∷ [] else to_hand_out handed keep past) n ≡ Some k
      → (slice_get (to_hand_out handed keep past) n ≡ Some k → (place : List Happening) × (first ℕ keep past k ≡ Some place) × (count_of place ≡ n))
      → (place : List Happening) × (first ℕ keep (Delivered moment j ∷ past) k ≡ Some place) × (count_of place ≡ n)
  by_delivery past moment j n k false off e before = let x = before e in (x.0, first_more ℕ keep (Delivered moment j) past k x.0 x.1, x.2)
  by_delivery past moment j n k true on e before =
      let parts = and_parts (is_first ℕ keep past moment j) (asks_at handed past j) on in
      ⊎_elim
      (λ (x : slice_get (to_hand_out handed keep past) n ≡ Some k). let y = before x in (y.0, first_more ℕ keep (Delivered moment j) past k y.0 y.1, y.2))
      (λ (x : (n ≡ length (to_hand_out handed keep past)) × (k ≡ j)). (past, ap (first ℕ keep (Delivered moment j ∷ past)) x.1 ∙ first_place past moment j parts.0, count_is past ∙ sym x.0))
      (get_pushed (to_hand_out handed keep past) j n k e)

  -- the one of a number arrived first when that many had asked
  pub numbered : (log : List Happening) (n k : ℕ) → slice_get (to_hand_out handed keep log) n ≡ Some k → (place : List Happening) × (first ℕ keep log k ≡ Some place) × (count_of place ≡ n)
  numbered [] n k is = absurd (cc)
  numbered (Opened r ∷ past) n k is = let x = numbered past n k is in (x.0, first_more ℕ keep (Opened r) past k x.0 x.1, x.2)
  numbered (Sensed moment id value ∷ past) n k is = let x = numbered past n k is in (x.0, first_more ℕ keep (Sensed moment id value) past k x.0 x.1, x.2)
  numbered (WentDown moment ∷ past) n k is = let x = numbered past n k is in (x.0, first_more ℕ keep (WentDown moment) past k x.0 x.1, x.2)
  numbered (Delivered moment j ∷ past) n k is = by_delivery past moment j n k (is_first ℕ keep past moment j && asks_at handed past j) refl is (λ e. numbered past n k e)

  -- and one that asks something is handed out as the one of that number
  listed_by : (past : List Happening) (moment j k : ℕ) (r : Asked) (place : List Happening) → asked_at past k ≡ Some r → first ℕ keep (Delivered moment j ∷ past) k ≡ Some place → asks_device handed r.message ≡ true
      → (first ℕ keep past k ≡ Some place → slice_get (to_hand_out handed keep past) (count_of place) ≡ Some k)
      → slice_get (to_hand_out handed keep (Delivered moment j ∷ past)) (count_of place) ≡ Some k
  listed_by past moment j k r place e f asks before = go (first ℕ keep past k) refl (cases_eq j k)
    where
      listed : List ℕ
      listed = to_hand_out handed keep past

      still : (b : Bool) → slice_get listed (count_of place) ≡ Some k → slice_get (if b then listed ++ j ∷ [] else listed) (count_of place) ≡ Some k
      still true is = get_front listed j (count_of place) (get_within listed (count_of place) k is) ∙ is
      still false is = is

      now : first ℕ keep past k ≡ None → (j ≡ k) → (busy : Bool) → is_busy keep (reached {S = ℕ} past) moment ≡ busy → slice_get (if is_first ℕ keep past moment j && asks_at handed past j then listed ++ j ∷ [] else listed) (count_of place) ≡ Some k
      now none same true busy = absurd (let wrong : None ≡ Some place = sym none ∙ sym (first_busy ℕ keep past moment j k busy) ∙ f in cc)
      now none same false idle =
          let came : first ℕ keep (Delivered moment j ∷ past) k ≡ Some past = ap (λ n. first ℕ keep (Delivered moment n ∷ past) k) same ∙ first_here ℕ keep past moment k r e idle none in
          let both : Some past ≡ Some place = sym came ∙ f in
          let there : place ≡ past = cc in
          let on : (is_first ℕ keep past moment j && asks_at handed past j) ≡ true =
          ap (λ n. is_first ℕ keep past moment n && asks_at handed past n) same
          ∙ (λ i. is_first_of (e i) (none i) (idle i) && asks_by handed (e i))
          ∙ asks in
          ap (λ xs. slice_get xs (count_of place)) (cond-true (is_first ℕ keep past moment j && asks_at handed past j) (listed ++ j ∷ []) listed on)
          ∙ ap (slice_get (listed ++ j ∷ [])) (ap count_of there ∙ count_is past)
          ∙ get_last listed j
          ∙ ap Some same

      go : (x : Option (List Happening)) → first ℕ keep past k ≡ x → (j ≡ k) ⊎ (j ≡ k → ⊥) → slice_get (if is_first ℕ keep past moment j && asks_at handed past j then listed ++ j ∷ [] else listed) (count_of place) ≡ Some k
      go (Some p) x _ = still (is_first ℕ keep past moment j && asks_at handed past j) (before (sym (first_stays ℕ keep past moment j k p x) ∙ f))
      go None x (inr other) = absurd (let wrong : None ≡ Some place = sym x ∙ sym (first_other ℕ keep past moment j k other) ∙ f in cc)
      go None x (inl same) = now x same (is_busy keep (reached {S = ℕ} past) moment) refl

  pub handed_out_at : (log : List Happening) (k : ℕ) (r : Asked) (place : List Happening) → asked_at log k ≡ Some r → first ℕ keep log k ≡ Some place → asks_device handed r.message ≡ true → slice_get (to_hand_out handed keep log) (count_of place) ≡ Some k
  handed_out_at [] k r place e f asks = absurd (cc)
  handed_out_at (Opened q ∷ past) k r place e f asks = handed_out_at past k r place (sym (request_older q past k (first_below ℕ keep past k place f)) ∙ e) f asks
  handed_out_at (Sensed moment id value ∷ past) k r place e f asks = handed_out_at past k r place e f asks
  handed_out_at (WentDown moment ∷ past) k r place e f asks = handed_out_at past k r place e f asks
  handed_out_at (Delivered moment j ∷ past) k r place e f asks = listed_by past moment j k r place e f asks (λ before. handed_out_at past k r place e before asks)

  -- what an arrived request is answered, by its number
  pub reply_at : (log : List Happening) (k : ℕ) (r : Asked) (place : List Happening) → asked_at log k ≡ Some r → first ℕ keep log k ≡ Some place → the_reply (device handed answers) keep 0 log k ≡ reply (device handed answers) (count_of place) r.message
  reply_at log k r place e f =
      (λ i. reply_from (device handed answers) keep 0 (bytes_of (e i)) (f i))

  pub given_is : (log : List Happening) (n k : ℕ) (r : Asked) → asked_at log k ≡ Some r → slice_get (to_hand_out handed keep log) n ≡ Some k → the_reply (device handed answers) keep 0 log k ≡ reply_of handed (answers n) r.message
  given_is log n k r e is =
      let x = numbered log n k is in
      reply_at log k r x.0 e x.1 ∙ ap (λ c. reply (device handed answers) c r.message) x.2 ∙ reply_is handed answers n r.message

  pub refused_is : (log : List Happening) (k : ℕ) (r : Asked) (place : List Happening) → asked_at log k ≡ Some r → first ℕ keep log k ≡ Some place → asks_device handed r.message ≡ false → the_reply (device handed answers) keep 0 log k ≡ reply_of handed unasked r.message
  refused_is log k r place e f none = reply_at log k r place e f ∙ refusal_is handed answers (count_of place) r.message none
