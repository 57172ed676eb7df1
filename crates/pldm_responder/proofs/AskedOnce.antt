-- What the platform is asked, read by looking back; and what stands between two askings of one request.
use Rattle.std.proofs.Common.{◌≡◌, ℕ, ◌+◌, ◌≤◌, Bool, true, false, not, ◌&&◌, ◌||◌, ◌==◌, nat_lt, ◌⊎◌, ⊎_elim, inl, inr, List, [], ◌∷◌, ◌++◌, length, Option, Some, if◌then◌else◌, refl, sym, ap, ◌∙◌, eq-eqb}
use Rattle.std.specs.Prelude.{bytes_eq}
use borrow.Author.Tests.{ltb-false}
use Rattle.mctp_assembly.specs.Laws as assembly
use Rattle.pldm_wire.specs.Headers.{id_at}
use Rattle.pldm_wire.specs.Requests.{request_of}
use Rattle.pldm_wire.specs.declared.restart_policy.RestartPolicy.TheVariants.{All, Sets}
use Rattle.pldm_responder.specs.Arrivals.{Arrival, Drop, Part, Whole, request_packet}
use Rattle.pldm_responder.specs.Calls.{Call, arrived, events, fed}
use Rattle.pldm_wire.specs.declared.restart_policy.RestartPolicy.{RestartPolicy}
use Rattle.pldm_wire.specs.declared.pass_through.PassThrough.{PassThrough}
use Rattle.pldm_responder.specs.Events.{Message, Event, Came, Set, Restarted, Changed, Place, busy_until, is_busy, is_copy, is_copy_of, is_fresh, is_of, is_refused, refuses_bytes, sets_in}
use Rattle.pldm_responder.specs.Performing.{Rules, commands_of, tasks_of}
use Rattle.pldm_responder.specs.Askings.{AskedApart, CommandsLookBack, Covers, SetsAfterBusyTime, TasksLookBack, asked_by, is_renewed}
use Rattle.pldm_responder.specs.ResponderStates.{ResponderState}
use Rattle.pldm_responder.specs.Laws.{IsLeftBy}
use Rattle.pldm_responder.specs.Steps.{arrival_asks, received_arrival}
use Rattle.pldm_responder.specs.TheRule.{latest_fresh, others_since}
use Rattle.pldm_responder.proofs.CallsLookBack.{held_is, left_by, passed_brings, copies_is}
use Rattle.pldm_responder.proofs.CopiesByTheRule.{copies_by_the_rule}

-- ---- what is asked is what looking back says
module _ {S A : Type 0} (device : Rules S) (asks : List ℕ → List A) where
  asked_is : (own : ℕ) (busy : RestartPolicy) (window keep : ℕ) (start : S) (held : ResponderState S) (h : List (Event S)) (a : Arrival)
      → arrival_asks (left_by device own busy window keep start held.open_messages held.last h) asks a ≡ asked_by asks busy window keep h a
  asked_is own busy window keep start held h (Drop reason) = refl
  asked_is own busy window keep start held h Part = refl
  asked_is own busy window keep start held h (Whole m) =
      ap (λ r. if not (is_refused busy keep h m) && not r then asks m.bytes else [])
      (copies_is device own busy window keep start h m)

  pub asks_look_back : assembly.FeedLooksBack → (own : ℕ) (busy : RestartPolicy) (window keep : ℕ) (start : S) (held : ResponderState S) (calls : List (Call S)) (moment : ℕ) (bytes : List ℕ)
      → IsLeftBy device own busy window keep start held calls
      → arrival_asks held asks (received_arrival held moment bytes) ≡ asked_by asks busy window keep (events own calls) (arrived own calls moment bytes)
  asks_look_back looks own busy window keep start held calls moment bytes left =
      let h = events own calls in
      ap (λ (x : ResponderState S). arrival_asks x asks (received_arrival x moment bytes)) (held_is device own busy window keep start held calls left)
      ∙ ap (arrival_asks (left_by device own busy window keep start held.open_messages held.last h) asks)
      (passed_brings looks held.open_messages (fed own calls) moment (request_packet own bytes) left.open_messages)
      ∙ asked_is own busy window keep start held h (arrived own calls moment bytes)

pub commands_look_back : {S : Type 0} (device : Rules S) → assembly.FeedLooksBack → CommandsLookBack device
commands_look_back device = asks_look_back device commands_of

pub tasks_look_back : {S : Type 0} (device : Rules S) → assembly.FeedLooksBack → TasksLookBack device
tasks_look_back device looks hands_on = asks_look_back device (tasks_of hands_on) looks

-- ---- between two askings
where_none : {S : Type 0} (t : Bool) (place : Place S) (rest : Option (Place S)) (more : Bool) → (t || more) ≡ false → (if t then Some place else rest) ≡ rest
where_none true place rest more h = cc
where_none false place rest more h = refl

later_none : (t more : Bool) → (t || more) ≡ false → more ≡ false
later_none true more h = cc
later_none false more h = h

-- with nothing to renew it, the origin stays
origin_stays : {S : Type 0} (busy : RestartPolicy) (window keep : ℕ) (before later : List (Event S)) (source id : ℕ) → is_renewed busy window keep before later source id ≡ false → latest_fresh busy window keep (later ++ before) source id ≡ latest_fresh busy window keep before source id
origin_stays busy window keep before [] source id h = refl
origin_stays busy window keep before (Restarted moment ∷ later) source id h = cc
origin_stays busy window keep before (Set i value ∷ later) source id h = origin_stays busy window keep before later source id h
origin_stays busy window keep before (Changed state ∷ later) source id h = origin_stays busy window keep before later source id h
origin_stays busy window keep before (Came m ∷ later) source id h =
    where_none (is_of m source id && is_fresh busy window keep (later ++ before) m) (record { before = later ++ before; message = m }) (latest_fresh busy window keep (later ++ before) source id) (is_renewed busy window keep before later source id) h
    ∙ origin_stays busy window keep before later source id (later_none (is_of m source id && is_fresh busy window keep (later ++ before) m) (is_renewed busy window keep before later source id) h)

where_is : {A : Type 0} (t : Bool) (x y : A) → t ≡ true → (if t then x else y) ≡ x
where_is true x y h = refl
where_is false x y h = cc

both_true : (a b : Bool) → a ≡ true → b ≡ true → (a && b) ≡ true
both_true true b h g = g
both_true false b h g = cc

is_its_own : (m : Message) → is_of m m.source (id_at m.bytes) ≡ true
is_its_own m = both_true (m.source == m.source) (id_at m.bytes == id_at m.bytes) (eq-eqb m.source m.source refl) (eq-eqb (id_at m.bytes) (id_at m.bytes) refl)

origin_here : {S : Type 0} (busy : RestartPolicy) (window keep : ℕ) (before : List (Event S)) (m : Message) → is_fresh busy window keep before m ≡ true → latest_fresh busy window keep (Came m ∷ before) m.source (id_at m.bytes) ≡ Some (record { before = before; message = m })
origin_here busy window keep before m fresh =
    where_is (is_of m m.source (id_at m.bytes) && is_fresh busy window keep before m) _ _ (both_true (is_of m m.source (id_at m.bytes)) (is_fresh busy window keep before m) (is_its_own m) fresh)

same_bytes : (bytes : List ℕ) → bytes_eq bytes bytes ≡ true
same_bytes [] = refl
same_bytes (b ∷ bytes) = both_true (b == b) (bytes_eq bytes bytes) (eq-eqb b b refl) (same_bytes bytes)

no_copy_of : (busy copy : Bool) → (not busy && not copy) ≡ true → copy ≡ false
no_copy_of true copy h = cc
no_copy_of false true h = cc
no_copy_of false false h = refl

second_false : (a b : Bool) → (a && b) ≡ false → a ≡ true → b ≡ false
second_false true b h e = h
second_false false b h e = cc

both_or : (a b : Bool) → (a && b) ≡ false → (a ≡ false) ⊎ (b ≡ false)
both_or true b h = inr h
both_or false b h = inl refl

by_renewal : {S : Type 0} (t : Bool) (busy : RestartPolicy) (window keep : ℕ) (before later : List (Event S)) (first again : Message) → is_renewed busy window keep (Came first ∷ before) later first.source (id_at first.bytes) ≡ t
    → is_fresh busy window keep before first ≡ true → is_fresh busy window keep (later ++ Came first ∷ before) again ≡ true → again.source ≡ first.source → again.bytes ≡ first.bytes
    → (first.moment + keep ≤ again.moment) ⊎ (t ≡ true) ⊎ (window ≤ length (others_since busy window keep (later ++ Came first ∷ before) first.source (id_at first.bytes)))
by_renewal true busy window keep before later first again renewed fresh once source bytes = inr (inl refl)
by_renewal {S} false busy window keep before later first again renewed fresh once source bytes =
    let h = later ++ Came first ∷ before in
    let place : Place S = record { before = before; message = first } in
    let from : latest_fresh busy window keep h again.source (id_at again.bytes) ≡ Some place =
    ap (λ s. latest_fresh busy window keep h s (id_at again.bytes)) source ∙ ap (λ b. latest_fresh busy window keep h first.source (id_at b)) bytes
    ∙ origin_stays busy window keep (Came first ∷ before) later first.source (id_at first.bytes) renewed ∙ origin_here busy window keep before first fresh in
    let others : others_since busy window keep h again.source (id_at again.bytes) ≡ others_since busy window keep h first.source (id_at first.bytes) = λ i. others_since busy window keep h (source i) (id_at (bytes i)) in
    let copy : (is_copy_of keep again (Some place) && nat_lt (length (others_since busy window keep h first.source (id_at first.bytes))) window) ≡ false =
    sym (λ i. is_copy_of keep again (from i) && nat_lt (length (others i)) window) ∙ sym (copies_by_the_rule busy window keep h again) ∙ no_copy_of (is_refused busy keep h again) (is_copy busy window keep h again) once in
    let same : bytes_eq again.bytes first.bytes ≡ true = ap (λ b. bytes_eq b first.bytes) bytes ∙ same_bytes first.bytes in
    ⊎_elim
    (λ (late : is_copy_of keep again (Some place) ≡ false). inl (ltb-false again.moment (first.moment + keep) (second_false (bytes_eq again.bytes first.bytes) (nat_lt again.moment (first.moment + keep)) late same)))
    (λ (past : nat_lt (length (others_since busy window keep h first.source (id_at first.bytes))) window ≡ false). inr (inr (ltb-false _ window past)))
    (both_or (is_copy_of keep again (Some place)) _ copy)

pub asked_apart : {S : Type 0} → AskedApart S
asked_apart busy window keep before later first again fresh once source bytes =
    by_renewal (is_renewed busy window keep (Came first ∷ before) later first.source (id_at first.bytes)) busy window keep before later first again refl fresh once source bytes

-- ---- requests that set something
refused_where_set : (handed : PassThrough) (busy : RestartPolicy) (bytes : List ℕ) → Covers busy handed → sets_in handed (request_of bytes) ≡ true → refuses_bytes busy bytes ≡ true
refused_where_set handed All bytes covers sets = refl
refused_where_set handed (Sets own) bytes covers sets = ap (λ h. sets_in h (request_of bytes)) covers ∙ sets

not_busy : (refuses busy copy : Bool) → (not (refuses && busy) && not copy) ≡ true → refuses ≡ true → busy ≡ false
not_busy true true copy h r = cc
not_busy true false copy h r = refl
not_busy false busy copy h r = cc

pub sets_after_busy_time : {S : Type 0} → SetsAfterBusyTime S
sets_after_busy_time handed busy window keep h m covers sets fresh =
    ltb-false m.moment (busy_until keep h)
    (not_busy (refuses_bytes busy m.bytes) (is_busy keep h m.moment) (is_copy busy window keep h m) fresh (refused_where_set handed busy m.bytes covers sets))
