-- What the calls of a requester give, over what it holds.
use Rattle.std.proofs.Common.{◌≡◌, ℕ, zero, suc, ◌+◌, ◌-◌, ◌%◌, ◌<◌, ◌≤◌, Bool, true, false, List, [], ◌∷◌, ◌++◌, drop, length, map, Option, Some, None, Result, Ok, Err, refl, sym, ap, subst, ◌∙◌, arith, eq-eqb}
use Rattle.std.specs.Prelude.{◌==◌, ◌&&◌, not, nat_lt, nat_le, filter, option_map, slice_get, slice_index, if◌then◌else◌}
use Rattle.std.specs.List.{AllByRecursion, range_with_len}
use Rattle.std.proofs.Math.Seq.{drop-append_seam}
use Rattle.std.proofs.lemmas.Bool.{and_from, cond-true, le-leb, lt-ltb, ltb-true}
use Rattle.mctp_packet.specs.Packets.{Packet, packet, written}
use Rattle.mctp_packet.specs.Pieces.{piece, piece_count, written_packets}
use Rattle.mctp_packet.specs.declared.packet.Route.{Route}
use Rattle.mctp_packet.specs.declared.reason.Reason.{Reason}
use Rattle.mctp_packet.specs.declared.reason.Reason.TheVariants.{NotMine, NotReady}
use Rattle.mctp_packet.specs.declared.TheConstants.{HEADER, SEQUENCE_NUMBERS, BASELINE_UNIT}
use Rattle.mctp_assembly.specs.Steps as assembly
use Rattle.mctp_assembly.specs.declared.fed.Fed.{Fed}
use Rattle.mctp_assembly.specs.declared.fed.Fed.TheVariants as feds
use Rattle.pldm_wire.specs.Responses.{Response, response_of}
use Rattle.pldm_wire.specs.declared.assigned.TheConstants.{ERROR_NOT_READY}
use Rattle.pldm_wire.specs.declared.command.Command.{Command}
use Rattle.pldm_requester.specs.Arrivals.{Arrival, Drop, Part, Answer, fed_arrival, got_of, packet_arrival, response_arrival}
use Rattle.pldm_requester.specs.Calls.{is_from_device, open_answer}
use Rattle.pldm_requester.specs.Courses as courses
use Rattle.pldm_requester.specs.Courses.{Course, is_open}
use Rattle.pldm_requester.specs.Numbering.{message_of, opened_as, route_of}
use Rattle.pldm_requester.specs.Slots.{held_of, remembered_in}
use Rattle.pldm_requester.specs.declared.pace.Pace.{Pace}
use Rattle.pldm_requester.specs.declared.requester.TheConstants.{MAX_OPEN, MAX_REMEMBERED}
use Rattle.pldm_requester.specs.Steps.{RequesterState, IsHeld, Memo, arrived_by, at_hand, is_kept, is_recent, is_there, goes_to, got_at, is_mine, is_open_in, latest_on, new_memo, opened_held, passed, passes, received_held, recent_numbers, remembered_after, where_open, with_course}
use Rattle.pldm_requester.specs.declared.results.Got.{Got}
use Rattle.pldm_requester.specs.declared.results.Got.TheVariants as gots
use Rattle.pldm_requester.specs.declared.results.Opened.{Opened}
use Rattle.mctp_schedule.specs.Askers.{HasPacket, IsAnswered, IsOpenedAs, IsSent, ReportsReply, Side, ReportsAnswer, packet_bytes}
use Rattle.mctp_schedule.specs.declared.askers.AnsweredRequest.{AnsweredRequest}
use Rattle.mctp_schedule.specs.declared.askers.SentRequest.{SentRequest}
use Rattle.mctp_schedule.proofs.ListPlaces.{take_all}

-- ---- a message of one piece is one packet
abbrev counted : Route → List ℕ → ℕ → List (List ℕ)
counted route message n =
    map (λ i. written (packet route (i == 0) (i + 1 == n) (i % SEQUENCE_NUMBERS) (piece message i))) (range_with_len 0 n)

pub one_packet : (route : Route) (message : List ℕ) → 0 < length message → length message ≤ BASELINE_UNIT → written_packets route message ≡ written (packet route true true 0 message) ∷ []
one_packet route message some few =
    let one : piece_count message ≡ 1 = omega arith in
    ap (counted route message) one ∙ ap (λ m. written (packet route true true 0 m) ∷ []) (take_all BASELINE_UNIT message few)

-- ---- the last requests are at hand
pub kept_near : (pace : Pace) (count n : ℕ) → count ≤ n + 8 → is_kept pace count n ≡ true
kept_near pace count n near = go pace.brief
  where
    go : (b : Bool) → nat_le count (n + (if b then 8 else 32)) ≡ true
    go true = le-leb count (n + 8) near
    go false = le-leb count (n + 32) (omega (arith, near))

pub last_at_hand : (held : RequesterState) (n : ℕ) → n < held.count → held.count ≤ n + 8 → at_hand held n ≡ held.remembered n
last_at_hand held n below near =
    cond-true (is_there held n) _ _
    (and_from (is_recent held.count n) (is_kept held.pace held.count n)
    (and_from (nat_lt n held.count) (nat_le held.count (n + 32)) (lt-ltb n held.count below) (le-leb held.count (n + 32) (omega (arith, near))))
    (kept_near held.pace held.count n near))

-- ---- an accepted open
pub accepted_as : (tag id : Bool) (number : ℕ) (opened : Opened) → open_answer tag id number ≡ Ok opened → opened ≡ opened_as number
accepted_as true id number opened e = absurd (cc)
accepted_as false true number opened e = absurd (cc)
accepted_as false false number opened e = cc

pub opened_memo : (new held : RequesterState) (moment : ℕ) (command : Command) → IsHeld new (opened_held held moment command) → new.remembered held.count ≡ Some (new_memo held moment command)
opened_memo new held moment command h = h.remembered held.count ∙ cond-true (held.count == held.count) _ _ (eq-eqb held.count held.count refl)

-- it is the one packet of the request
pub opened_packet : (new held : RequesterState) (moment number : ℕ) (command : Command) → IsHeld new (opened_held held moment command) → number ≡ held.count
    → 0 < length (message_of held.count command) → length (message_of held.count command) ≤ BASELINE_UNIT
    → option_map (λ (memo : Memo). memo.packets) (at_hand new number) ≡ Some (packet_bytes held.own held.device held.count (message_of held.count command) ∷ [])
opened_packet new held moment number command h same some few =
    let count = h.count in
    ap (λ n. option_map (λ (memo : Memo). memo.packets) (at_hand new n)) same
    ∙ ap (option_map (λ (memo : Memo). memo.packets)) (last_at_hand new held.count (omega (arith, count)) (omega (arith, count)) ∙ opened_memo new held moment command h)
    ∙ ap Some (one_packet (route_of held.own held.device held.count) (message_of held.count command) some few)

pub sent_packet : (new held : RequesterState) (moment number : ℕ) (command : Command) (bytes : List ℕ) → IsHeld new (opened_held held moment command) → number ≡ held.count
    → 0 < length (message_of held.count command) → length (message_of held.count command) ≤ BASELINE_UNIT
    → option_map (λ (memo : Memo). memo.packets) (at_hand new number) ≡ Some (bytes ∷ [])
    → bytes ≡ packet_bytes held.own held.device held.count (message_of held.count command)
sent_packet new held moment number command bytes h same some few here =
    let both : Some (bytes ∷ []) ≡ Some (packet_bytes held.own held.device held.count (message_of held.count command) ∷ []) =
    sym here ∙ opened_packet new held moment number command h same some few in
    cc

-- what is reported of it is what its packet says
module _ (held new : RequesterState) (moment : ℕ) (command : Command) (own : ℕ) (after : IsHeld new (opened_held held moment command)) (is : IsOpenedAs held moment command own) (some : 0 < length (message_of held.count command)) (few : length (message_of held.count command) ≤ BASELINE_UNIT) where
  pub has_packet : HasPacket new own
  has_packet = (
    packet_bytes held.own held.device held.count (message_of held.count command),
    opened_packet new held moment own command after is.numbered some few,
    omega arith,
  )

  pub sent_is : (sent : SentRequest) → sent.own ≡ own → length sent.header ≡ HEADER → option_map (λ (memo : Memo). memo.packets) (at_hand new own) ≡ Some ((sent.header ++ sent.message.now) ∷ []) → IsSent held moment command sent
  sent_is sent same header packet =
      let bytes = sent_packet new held moment own command (sent.header ++ sent.message.now) after is.numbered some few packet in
      record {
        opened = is.opened;
        own = same ∙ is.numbered;
        message = sym (ap (λ n. drop n (sent.header ++ sent.message.now)) (sym header) ∙ drop-append_seam sent.header sent.message.now) ∙ ap (drop HEADER) bytes;
        packet = bytes;
        readable = is.readable;
      }

-- ---- an answer
response_number : (mine : ℕ → Response → Bool) (number : ℕ) (message : List ℕ) (read : Result Response Reason) (n : ℕ) (m : List ℕ) → response_arrival mine number message read ≡ Answer n m → number ≡ n
response_number mine number message (Err reason) n m e = absurd (cc)
response_number mine number message (Ok response) n m e = go (mine number response) (response.code == ERROR_NOT_READY) e
  where
    go : (b c : Bool) → (if not b then Drop NotMine else (if c then Drop NotReady else Answer number message)) ≡ Answer n m → number ≡ n
    go false c e = absurd (cc)
    go true true e = absurd (cc)
    go true false e = cc

fed_number : (mine : ℕ → Response → Bool) (number : ℕ) (fed : Fed) (n : ℕ) (m : List ℕ) → fed_arrival mine number fed ≡ Answer n m → number ≡ n
fed_number mine number (feds.Whole body) n m e = response_number mine number body.items (response_of body.items) n m e
fed_number mine number feds.Partial n m e = absurd (cc)
fed_number mine number (feds.Dropped reason) n m e = absurd (cc)

packet_number : (to : Option ℕ) (gives : ℕ → Packet → Fed) (mine : ℕ → Response → Bool) (p : Packet) (n : ℕ) (m : List ℕ) → packet_arrival (λ q. to) gives mine to p ≡ Answer n m → to ≡ Some n
packet_number None gives mine p n m e = absurd (cc)
packet_number (Some number) gives mine p n m e = ap Some (fed_number mine number (gives number p) n m e)

open_number : (opens : ℕ → Bool) (to : Option ℕ) (n : ℕ) → where_open opens to ≡ Some n → opens n ≡ true
open_number opens None n e = absurd (cc)
open_number opens (Some number) n e = go (opens number) refl e
  where
    go : (b : Bool) → opens number ≡ b → (if b then Some number else None) ≡ Some n → opens n ≡ true
    go true o e = let same : number ≡ n = cc in ap opens (sym same) ∙ o
    go false o e = absurd (cc)

goes_open : (held : RequesterState) (p : Packet) (n : ℕ) → goes_to held p ≡ Some n → is_open_in held n ≡ true
goes_open held p n e = go (is_from_device held.device p) e
  where
    go : (b : Bool) → (if b then where_open (is_open_in held) (latest_on held.count p.route.tag) else None) ≡ Some n → is_open_in held n ≡ true
    go true e = open_number (is_open_in held) (latest_on held.count p.route.tag) n e
    go false e = absurd (cc)

-- it is one of the last
latest_near : (count tag n : ℕ) → latest_on count tag ≡ Some n → (n < count) × (count ≤ n + 8)
latest_near count tag n e = go (nat_lt tag count) refl e
  where
    go : (b : Bool) → nat_lt tag count ≡ b → (if b then Some (count - 1 - (count - 1 - tag) % 8) else None) ≡ Some n → (n < count) × (count ≤ n + 8)
    go true t e = let i = ltb-true tag count t in let same : count - 1 - (count - 1 - tag) % 8 ≡ n = cc in (omega (arith, i, same), omega (arith, i, same))
    go false t e = absurd (cc)

open_latest : (opens : ℕ → Bool) (to : Option ℕ) (n : ℕ) → where_open opens to ≡ Some n → to ≡ Some n
open_latest opens None n e = absurd (cc)
open_latest opens (Some number) n e = go (opens number) e
  where
    go : (b : Bool) → (if b then Some number else None) ≡ Some n → Some number ≡ Some n
    go true e = e
    go false e = absurd (cc)

goes_near : (held : RequesterState) (p : Packet) (n : ℕ) → goes_to held p ≡ Some n → (n < held.count) × (held.count ≤ n + 8)
goes_near held p n e = go (is_from_device held.device p) e
  where
    go : (b : Bool) → (if b then where_open (is_open_in held) (latest_on held.count p.route.tag) else None) ≡ Some n → (n < held.count) × (held.count ≤ n + 8)
    go true e = latest_near held.count p.route.tag n (open_latest (is_open_in held) (latest_on held.count p.route.tag) n e)
    go false e = absurd (cc)

pub answer_near : (held : RequesterState) (read : Result Packet Reason) (n : ℕ) (message : List ℕ) → arrived_by held read ≡ Answer n message → (n < held.count) × (held.count ≤ n + 8)
answer_near held (Err reason) n message e = absurd (cc)
answer_near held (Ok p) n message e =
    goes_near held p n (packet_number (goes_to held p) (λ number q. assembly.answer held.open_messages q) (is_mine held) p n message e)

some_memo : (test : Course → Bool) (memo : Option Memo) → passes test memo ≡ true → (m : Memo) × (memo ≡ Some m)
some_memo test None e = absurd (cc)
some_memo test (Some m) e = (m, refl)

pub answer_remembered : (held : RequesterState) (read : Result Packet Reason) (n : ℕ) (message : List ℕ) → arrived_by held read ≡ Answer n message → (memo : Memo) × (held.remembered n ≡ Some memo)
answer_remembered held (Err reason) n message e = absurd (cc)
answer_remembered held (Ok p) n message e =
    some_memo is_open (held.remembered n) (goes_open held p n (packet_number (goes_to held p) (λ number q. assembly.answer held.open_messages q) (is_mine held) p n message e))

pub answer_of_got : (arrival : Arrival) (own : ℕ) → got_of arrival ≡ gots.Answered own → (message : List ℕ) × (arrival ≡ Answer own message)
answer_of_got (Drop reason) own e = absurd (cc)
answer_of_got Part own e = absurd (cc)
answer_of_got (Answer number message) own e = let same : number ≡ own = cc in (message, ap (λ n. Answer n message) same)

-- what is held after an answer to this request
pub progress_remembered : (held new : RequesterState) (moment : ℕ) (bytes : List ℕ) (own : ℕ) (message : List ℕ) → IsHeld new (received_held held moment bytes) → arrived_by held (passed held bytes) ≡ Answer own message
    → option_map (λ (memo : Memo). memo.course.progress) (new.remembered own) ≡ Some (courses.Answered message)
progress_remembered held new moment bytes own message h e =
    let memo = answer_remembered held (passed held bytes) own message e in
    ap (option_map (λ (m : Memo). m.course.progress))
    (h.remembered own ∙ ap (λ arrival. remembered_after held arrival own) e ∙ cond-true (own == own) _ _ (eq-eqb own own refl) ∙ ap (option_map (with_course (courses.answered message))) memo.1)

pub progress_left : (held new : RequesterState) (moment : ℕ) (bytes : List ℕ) (own : ℕ) (message : List ℕ) → IsHeld new (received_held held moment bytes) → arrived_by held (passed held bytes) ≡ Answer own message
    → option_map (λ (memo : Memo). memo.course.progress) (at_hand new own) ≡ Some (courses.Answered message)
progress_left held new moment bytes own message h e =
    let near = answer_near held (passed held bytes) own message e in
    let count = h.count in
    ap (option_map (λ (memo : Memo). memo.course.progress)) (last_at_hand new own (omega (arith, near.0, count)) (omega (arith, near.1, count)))
    ∙ progress_remembered held new moment bytes own message h e

pub own_below : (count : ℕ) (slots : List Memo) (own : ℕ) (memo : Memo) → remembered_in count slots own ≡ Some memo → own < count
own_below count slots own memo e = go (nat_lt own count) refl (nat_le count (own + MAX_REMEMBERED)) e
  where
    go : (b : Bool) → nat_lt own count ≡ b → (c : Bool) → (if b && c then slice_get slots (own % MAX_REMEMBERED) else None) ≡ Some memo → own < count
    go true t c e = ltb-true own count t
    go false t c e = absurd (cc)

-- ---- the numbers that are due
pub all_filtered : (P : ℕ → Type 0) (test : ℕ → Bool) (xs : List ℕ) → AllByRecursion P xs → AllByRecursion P (filter test xs)
all_filtered P test [] h = tt
all_filtered P test (x ∷ xs) h = go (test x) (all_filtered P test xs h.1)
  where
    go : (b : Bool) → AllByRecursion P (filter test xs) → AllByRecursion P (if b then x ∷ filter test xs else filter test xs)
    go true more = (h.0, more)
    go false more = more

all_ranged : (bound start n : ℕ) → start + n ≤ bound → AllByRecursion (λ k. k < bound) (range_with_len start n)
all_ranged bound start zero h = tt
all_ranged bound start (suc n) h = (omega arith, all_ranged bound (start + 1) n (omega arith))

pub recent_below : (count : ℕ) (test : ℕ → Bool) → AllByRecursion (λ k. k < count) (filter test (recent_numbers count))
recent_below count test = all_filtered (λ k. k < count) test (recent_numbers count) (all_ranged count (count - MAX_OPEN) (count - (count - MAX_OPEN)) (omega arith))

-- ---- what is reported of an answer
pub same_answer : (progress : Option courses.Progress) (a b : List ℕ) → progress ≡ Some (courses.Answered a) → progress ≡ Some (courses.Answered b) → a ≡ b
same_answer progress a b e f = let both : ◌≡◌ {A = Option courses.Progress} (Some (courses.Answered a)) (Some (courses.Answered b)) = sym e ∙ f in cc

module _ (old new : Side) (moment : ℕ) (bytes : List ℕ) (got : Got) (after : IsHeld (held_of new.station) (received_held (held_of old.station) moment bytes)) (gave : got ≡ got_at (held_of old.station) bytes) (same : new.numbers ≡ old.numbers) where
  abbrev held : RequesterState
  held = held_of old.station

  pub is_answered : length old.numbers ≡ held.count → IsAnswered new got
  is_answered all = go got gave
    where
      go : (g : Got) → g ≡ got_at held bytes → IsAnswered new g
      go (gots.Dropped reason) e = tt
      go gots.Partial e = tt
      go (gots.Answered own) e =
          let answer = answer_of_got (arrived_by held (passed held bytes)) own (sym e) in
          let memo = answer_remembered held (passed held bytes) own answer.0 answer.1 in
          let low = own_below old.station.count old.station.slots own memo.0 memo.1 in
          let many = ap (λ (xs : List ℕ). length xs) same in
          ((answer.0, progress_left held (held_of new.station) moment bytes own answer.0 after answer.1), omega (arith, low, many, all))

  pub reports_reply : (answered : Option AnsweredRequest) → ReportsAnswer new got answered → ReportsReply old.numbers (arrived_by held (passed held bytes)) answered
  reports_reply answered reports = go (arrived_by held (passed held bytes)) refl (subst (λ g. ReportsAnswer new g answered) gave reports)
    where
      go : (a : Arrival) → arrived_by held (passed held bytes) ≡ a → ReportsAnswer new (got_of a) answered → ReportsReply old.numbers a answered
      go (Drop reason) at t = t
      go Part at t = t
      go (Answer n m) at t =
          let progress = option_map (λ (memo : Memo). memo.course.progress) (at_hand (held_of new.station) n) in
          (t.0, t.1, t.2 ∙ ap (λ xs. slice_index xs n) same, same_answer progress t.0.message.now m t.3 (progress_left held (held_of new.station) moment bytes n m after at))
