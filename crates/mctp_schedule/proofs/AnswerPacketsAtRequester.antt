-- What a packet on the way of a request's answers does at its requester, while the request's tag was not used again: it
-- comes to that request where it is open, and to none where it is not.
use Rattle.std.proofs.Common.{◌≡◌, ◌≢◌, ℕ, ◌+◌, ◌<◌, ◌≤◌, List, [], ◌∷◌, map, slice_get, Option, Some, None, true, false, Result, Ok, Err, refl, sym, ap, ◌∙◌, subst, arith, eq-eqb, zero-add}
use Rattle.std.specs.Prelude.{◌==◌, is_some, if◌then◌else◌}
use Rattle.std.specs.List.{range_with_len}
use Rattle.std.proofs.lemmas.Bool.{ne_eqb, cond-true, cond-false}
use Rattle.std.proofs.lemmas.List.FromFn.{get_or-map-range_with_len, length-map-range_with_len}
use Rattle.std.proofs.lemmas.Option.{slice_get-get_or, slice_get_past}
use Rattle.mctp_packet.specs.Packets.{Packet, written}
use Rattle.mctp_packet.specs.Passing.{passed as where_expected}
use Rattle.mctp_packet.specs.Pieces.{packet_at, piece_count, written_packets}
use Rattle.mctp_packet.specs.Reading.{reading}
use Rattle.mctp_packet.specs.declared.packet.Route.{Route}
use Rattle.mctp_packet.specs.declared.reason.Reason.{Reason}
use Rattle.mctp_packet.specs.declared.reason.Reason.TheVariants.{BadTag}
use Rattle.mctp_packet.specs.declared.TheConstants.{TAGS}
use Rattle.pldm_requester.specs.Arrivals.{Arrival, Drop, Part, Answer, fed_arrival, packet_arrival, passed_arrival}
use Rattle.pldm_requester.specs.Calls.{Call, Request, Requests, answered_by, arrived, fed_by, fed_to, gives, goes_to, is_from_device, is_mine, is_open_at, open_on, passed, put, received, requests, with_request}
use Rattle.pldm_requester.specs.Courses.{Course, answered}
use Rattle.pldm_requester.specs.Laws.{FoundOnItsTag}
use Rattle.pldm_requester.specs.Numbering.{tag_of}
use Rattle.pldm_requester.specs.declared.pace.Pace.{Pace}
use Rattle.pldm_requester.specs.declared.timing.Timing.{Timing}

-- ---- the packets of a message by place
pub packet_there : (route : Route) (message : List ℕ) (j : ℕ) → j < piece_count message → slice_get (written_packets route message) j ≡ Some (written (packet_at route message j))
packet_there route message j l =
    let f : ℕ → List ℕ = λ i. written (packet_at route message i) in
    let n = piece_count message in
    slice_get-get_or (map f (range_with_len 0 n)) j [] (omega (arith, length-map-range_with_len f 0 n))
    ∙ ap Some (get_or-map-range_with_len f 0 n j j [] l (zero-add j))

pub packet_past : (route : Route) (message : List ℕ) (j : ℕ) → piece_count message ≤ j → slice_get (written_packets route message) j ≡ None
packet_past route message j l =
    let f : ℕ → List ℕ = λ i. written (packet_at route message i) in
    let n = piece_count message in
    slice_get_past (map f (range_with_len 0 n)) j (omega (arith, length-map-range_with_len f 0 n))

-- ---- what an arrival makes of a request
abbrev pub course_after : Arrival → Course → Course
course_after (Drop reason) course = course
course_after Part course = course
course_after (Answer n message) course = answered message course

-- request n with one more packet, which brought this
abbrev pub with_arrival : Request → Packet → Arrival → Request
with_arrival request p arrival =
    record { ask = request.ask; course = course_after arrival request.course; fed = p ∷ request.fed }

abbrev pub IsOf : ℕ → Arrival → Type 0
IsOf n (Drop reason) = Unit {0}
IsOf n Part = Unit {0}
IsOf n (Answer m message) = m ≡ n

pub put_here : (each : ℕ → Request) (n : ℕ) (r : Request) (k : ℕ) → k ≡ n → put each n r k ≡ r
put_here each n r k e = cond-true (k == n) r (each k) (eq-eqb k n e)

pub put_other : (each : ℕ → Request) (n : ℕ) (r : Request) (k : ℕ) → k ≢ n → put each n r k ≡ each k
put_other each n r k e = cond-false (k == n) r (each k) (ne_eqb k n e)

-- only request n is another
pub record Moved (a b : Requests) (n : ℕ) (request : Request) : Type 0 where
  pub count : b.count ≡ a.count
  pub here : b.each n ≡ request
  pub others : (k : ℕ) → k ≢ n → b.each k ≡ a.each k

module _ (own device : ℕ) (timing : Timing) (pace : Pace) (calls : List Call) where
  abbrev a : Requests
  a = requests own device timing pace calls

  fed_moves : (n : ℕ) (p : Packet) (arrival : Arrival) → IsOf n arrival → Moved a (answered_by own device timing (fed_to own device timing a p (Some n)) arrival) n (with_arrival (a.each n) p arrival)
  fed_moves n p arrival is = go arrival is
    where
      new : Request
      new = record { ask = (a.each n).ask; course = (a.each n).course; fed = p ∷ (a.each n).fed }

      go : (x : Arrival) → IsOf n x → Moved a (answered_by own device timing (with_request a n new) x) n (with_arrival (a.each n) p x)
      go (Drop reason) e = record { count = refl; here = put_here a.each n new n refl; others = λ k ne. put_other a.each n new k ne }
      go Part e = record { count = refl; here = put_here a.each n new n refl; others = λ k ne. put_other a.each n new k ne }
      go (Answer m message) e = record {
        count = refl;
        here = put_here (put a.each n new) m _ n (sym e) ∙ ap (λ (r : Request). record { ask = r.ask; course = answered message r.course; fed = r.fed }) (put_here a.each n new m e);
        others = λ k ne. put_other (put a.each n new) m _ k (λ s. ne (s ∙ e)) ∙ put_other a.each n new k ne;
      }

  -- a packet from the device with request n's tag
  module _ (found : FoundOnItsTag) (n : ℕ) (within : n < a.count) (near : a.count ≤ n + TAGS) (p : Packet) (bytes : List ℕ) (reads : reading (Some own) bytes ≡ Ok p) (from : is_from_device device p ≡ true) (tag : p.route.tag ≡ tag_of n) where
    goes : goes_to own device timing a p ≡ (if is_open_at a n then Some n else None)
    goes =
        cond-true (is_from_device device p) _ _ from
        ∙ ap (open_on (is_open_at a) a.count) tag
        ∙ found own device timing pace calls n within near

    read_so : passed own device timing a bytes ≡ (if is_some (goes_to own device timing a p) then Ok p else Err BadTag)
    read_so = ap (where_expected (λ q. is_some (goes_to own device timing a q))) reads

    -- where it is not open
    module _ (shut : is_open_at a n ≡ false) where
      goes_nowhere : goes_to own device timing a p ≡ None
      goes_nowhere = goes ∙ cond-false (is_open_at a n) _ _ shut

      refused : passed own device timing a bytes ≡ Err BadTag
      refused = read_so ∙ ap (λ (o : Option ℕ). if is_some o then Ok p else Err BadTag) goes_nowhere

      pub bad_tag : arrived own device timing a bytes ≡ Drop BadTag
      bad_tag = ap (passed_arrival (goes_to own device timing a) (gives own device timing a) (is_mine own device timing a)) refused

      pub nothing_moves : received own device timing a bytes ≡ a
      nothing_moves i = answered_by own device timing (fed_by own device timing a (refused i)) (bad_tag i)

    -- where it is
    module _ (opens : is_open_at a n ≡ true) where
      goes_there : goes_to own device timing a p ≡ Some n
      goes_there = goes ∙ cond-true (is_open_at a n) _ _ opens

      taken_in : passed own device timing a bytes ≡ Ok p
      taken_in = read_so ∙ ap (λ (o : Option ℕ). if is_some o then Ok p else Err BadTag) goes_there

      pub comes_in : arrived own device timing a bytes ≡ fed_arrival (is_mine own device timing a) n (gives own device timing a n p)
      comes_in =
          ap (passed_arrival (goes_to own device timing a) (gives own device timing a) (is_mine own device timing a)) taken_in
          ∙ ap (λ (o : Option ℕ). packet_arrival (goes_to own device timing a) (gives own device timing a) (is_mine own device timing a) o p) goes_there

      pub one_moves : (arrival : Arrival) → IsOf n arrival → arrived own device timing a bytes ≡ arrival → Moved a (received own device timing a bytes) n (with_arrival (a.each n) p arrival)
      one_moves arrival is brings =
          let same : received own device timing a bytes ≡ answered_by own device timing (fed_to own device timing a p (Some n)) arrival =
          (ap (λ (read : Result Packet Reason). answered_by own device timing (fed_by own device timing a read) (arrived own device timing a bytes)) taken_in
          ∙ (λ i. answered_by own device timing (fed_to own device timing a p (goes_there i)) (brings i)))
          in
          subst (λ (b : Requests). Moved a b n (with_arrival (a.each n) p arrival)) (sym same) (fed_moves n p arrival is)
