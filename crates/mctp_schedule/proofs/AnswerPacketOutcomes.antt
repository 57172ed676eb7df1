-- What the packets of answers are, and what each brings its request: the answer where it completes it, else what
-- assembly gives.
use Rattle.std.proofs.Common.{◌≡◌, ◌⊎◌, ℕ, ◌+◌, ◌<◌, ◌≤◌, List, [], ◌∷◌, slice_get, Option, Some, None, Bool, true, false, Ok, refl, sym, ap, ◌∙◌, subst, inl, inr, arith}
use Rattle.std.specs.Prelude.{◌&&◌, ◌==◌, nat_lt, if◌then◌else◌}
use Rattle.std.proofs.lemmas.Bool.{and_left, and_right, and_from, cases_Bool, lt-ltb, cond-true, cond-false}
use Rattle.mctp_packet.specs.Laws.{IsRoute, SplitsReadBack}
use Rattle.mctp_packet.specs.Packets.{Packet}
use Rattle.mctp_packet.specs.Pieces.{packet_at, piece, piece_count}
use Rattle.mctp_packet.specs.Reading.{reading}
use Rattle.mctp_packet.specs.declared.reason.Reason.TheVariants.{NotReady}
use Rattle.mctp_packet.specs.declared.TheConstants.{MAX_PACKETS}
use Rattle.mctp_assembly.specs.Rows.{next}
use Rattle.mctp_assembly.specs.declared.fed.Fed.{Fed}
use Rattle.mctp_assembly.specs.declared.fed.Fed.TheVariants.{Whole, Partial, Dropped}
use Rattle.pldm_wire.specs.Laws.{RequestReadBack, ResponseReadBack}
use Rattle.pldm_wire.specs.Messages.{response_message}
use Rattle.pldm_wire.specs.Responses.{Response, response_of}
use Rattle.pldm_wire.specs.declared.assigned.TheConstants.{ERROR_NOT_READY}
use Rattle.pldm_responder.specs.Performing.{busy_reply, reply}
use Rattle.pldm_requester.specs.Arrivals.{Arrival, Drop, Part, Answer, fed_arrival, is_response_to, response_arrival}
use Rattle.pldm_requester.specs.Asks.{Ask}
use Rattle.pldm_requester.specs.Calls.{is_mine}
use Rattle.pldm_requester.specs.Laws.{FoundOnItsTag, IdsApart}
use Rattle.pldm_requester.specs.Numbering.{id_of}
use Rattle.mctp_schedule.specs.Logs.{Asked, Happening, asked_at, endpoint_of}
use Rattle.mctp_schedule.specs.Timely.{IsTimelyLog}
use Rattle.mctp_schedule.specs.FirstArrivals.{first}
use Rattle.mctp_schedule.specs.OncePerformed.{FitsPackets, bytes_of, given_once, once, reply_from, was_busy}
use Rattle.mctp_schedule.specs.RequesterHalf.{IsSound}
use Rattle.mctp_schedule.specs.TakenReplies.{brought, came, completes, completes_for, is_ready, is_waiting, part_count, replies, reply_of, row, way_to}
use Rattle.mctp_schedule.specs.Worlds.{BothEnds, World, answer_packets, busy_from, busy_packet, packet_of, reply_packet, requests_of, timing_of, world}
use Rattle.mctp_schedule.specs.Actions.{Step}
use Rattle.mctp_schedule.proofs.RepliesAreTaken.{AnswersRequest, answer_arrives, busy_refuses, reply_answers, whole_arrival}
use Rattle.mctp_schedule.proofs.DeliveriesExpected.{given_is_the_reply, the_reply_fits}
use Rattle.mctp_schedule.proofs.AnswerPacketsAtRequester.{IsOf, packet_past}
use Rattle.mctp_schedule.proofs.KnownRequests.{Known, all_known}
use Rattle.mctp_schedule.proofs.OneReplyGiven.{reply_at_first}
use Rattle.mctp_schedule.proofs.UntouchedRequests.{no_parts}
use Rattle.mctp_schedule.proofs.RowsOfReplies.{Below, given_alone, given_else, given_in_row}

-- what the crates below promise
pub record Lower : Type 0 where
  pub splits : SplitsReadBack
  pub found : FoundOnItsTag
  pub apart : IdsApart
  pub requests : RequestReadBack
  pub responses : ResponseReadBack

-- a packet that completes no answer that its request takes
abbrev pub arrival_by : Fed → Arrival
arrival_by (Whole body) = Drop NotReady
arrival_by Partial = Part
arrival_by (Dropped reason) = Drop reason

module _ {S : Type 0} (setting : BothEnds S) (lower : Lower) (past : List Step) (timely : IsTimelyLog S setting.window setting.keep setting.pace.lifetime (world setting past).log) (sound : IsSound setting past) (k : ℕ) (r : Asked) (is : asked_at (world setting past).log k ≡ Some r) where
  abbrev w : World
  w = world setting past

  abbrev m : List ℕ
  m = reply_of setting w k

  known : Known setting w r
  known = (all_known setting past sound.asks).known k r is

  abbrev ask : Ask
  ask = known.ask

  -- ---- the packets
  is_route : IsRoute (way_to setting r)
  is_route = ((sound.sources k r is).0, sound.device, omega arith)

  pub reads_back : (message : List ℕ) (j : ℕ) (bytes : List ℕ) → slice_get (answer_packets setting.eid r message) j ≡ Some bytes → reading (Some (endpoint_of r.source)) bytes ≡ Ok (packet_at (way_to setting r) message j)
  reads_back message j bytes at = (lower.splits (way_to setting r) message j bytes is_route at).1 (sound.sources k r is).1

  pub packet_is : (j : ℕ) → reply_packet setting w k j ≡ slice_get (answer_packets setting.eid r m) j
  packet_is j =
      (λ i. packet_of setting (is i) (given_is_the_reply setting.device setting.window setting.keep setting.pace.lifetime setting.start w.log k timely i) j)
      ∙ go (first S setting.keep w.log k) refl
    where
      go : (f : Option (List Happening)) → first S setting.keep w.log k ≡ f → packet_of setting (Some r) (given_once setting.device setting.keep setting.start w.log k) j ≡ slice_get (answer_packets setting.eid r m) j
      go None e =
          ap (λ f. packet_of setting (Some r) (reply_at_first setting.device setting.keep setting.start w.log k f) j) e
          ∙ sym (packet_past (way_to setting r) m j (let none = ap piece_count (no_parts setting w k e) in omega (arith, none)))
      go (Some place) e =
          ap (λ f. packet_of setting (Some r) (reply_at_first setting.device setting.keep setting.start w.log k f) j) e

  pub busy_is : was_busy S setting.keep w.log k ≡ true → busy_packet setting w k ≡ slice_get (answer_packets setting.eid r (busy_reply r.message)) 0
  busy_is busy i = busy_from setting (is i) (busy i)

  -- ---- the reply
  pub has_arrived : (j : ℕ) → j < part_count setting w k → (place : List Happening) × (first S setting.keep w.log k ≡ Some place)
  has_arrived j l = go (first S setting.keep w.log k) refl
    where
      go : (f : Option (List Happening)) → first S setting.keep w.log k ≡ f → (place : List Happening) × (f ≡ Some place)
      go None e = absurd (let none = ap piece_count (no_parts setting w k e) in omega (arith, none))
      go (Some place) e = (place, refl)

  pub performed_at : (place : List Happening) → first S setting.keep w.log k ≡ Some place → m ≡ reply setting.device (once setting.device setting.keep setting.start place) r.message
  performed_at place e i = reply_from setting.device setting.keep setting.start (bytes_of (is i)) (e i)

  answers : (j : ℕ) → j < part_count setting w k → AnswersRequest r.own ask m
  answers j l =
      let came_in = has_arrived j l in
      let state = once setting.device setting.keep setting.start came_in.0 in
      let own : m ≡ reply setting.device state _ = performed_at came_in.0 came_in.1 ∙ ap (reply setting.device state) known.message in
      subst (AnswersRequest r.own ask) (sym own) (reply_answers lower.requests setting.device state r.own ask known.kind)

  fits : (j : ℕ) → j < part_count setting w k → FitsPackets m
  fits j l = let came_in = has_arrived j l in the_reply_fits setting.device setting.window setting.keep setting.pace.lifetime setting.start w.log k came_in.0 timely sound.fit came_in.1

  -- ---- the busy answer
  refuses : busy_reply r.message ≡ response_message 0 (id_of r.own) ask.kind ERROR_NOT_READY []
  refuses = ap busy_reply known.message ∙ busy_refuses lower.requests r.own ask known.kind

  pub busy_is_one : piece_count (busy_reply r.message) ≡ 1
  busy_is_one = ap piece_count refuses

  abbrev busy_one : Packet
  busy_one = brought setting r m None

  busy_starts : busy_one.start ≡ true
  busy_starts = refl

  busy_ends : busy_one.end ≡ true
  busy_ends = ap (λ message. 0 + 1 == piece_count message) refuses

  busy_payload : busy_one.payload ≡ busy_reply r.message
  busy_payload = ap (λ message. piece message 0) refuses ∙ sym refuses

  abbrev pub mine : ℕ → Response → Bool
  mine n response = is_mine (endpoint_of r.source) setting.eid (timing_of setting r.source) (requests_of setting w r.source) n response

  mine_is : (response : Response) → mine r.own response ≡ is_response_to r.own ask.kind response
  mine_is response = ap (λ (a : Ask). is_response_to r.own a.kind response) known.asks

  pub busy_brings : (before : List Packet) → fed_arrival mine r.own (next before busy_one) ≡ Drop NotReady
  busy_brings before =
      ap (fed_arrival mine r.own) (given_alone MAX_PACKETS before busy_one (omega arith) busy_starts busy_ends)
      ∙ ap (λ message. response_arrival mine r.own message (response_of message)) busy_payload
      ∙ answer_arrives lower.responses mine r.own ask known.kind (busy_reply r.message) mine_is (record { code = ERROR_NOT_READY; rest = []; is = refuses })
      ∙ ap (whole_arrival r.own) refuses

  -- ---- a packet of the reply
  abbrev pub arrival_expected : ℕ → Arrival
  arrival_expected j =
      if completes setting past k j then Answer r.own m
      else arrival_by (next (came setting past k r) (brought setting r m (Some j)))

  module _ (j : ℕ) (l : j < part_count setting w k) (opens : is_waiting setting w r ≡ true) (below : Below (part_count setting w k) (replies setting past k)) where
    abbrev js : List (Option ℕ)
    js = replies setting past k

    abbrev in_row : Bool
    in_row = row (part_count setting w k) (Some j ∷ js)

    abbrev gave : Fed
    gave = next (came setting past k r) (brought setting r m (Some j))

    completes_is : completes setting past k j ≡ (nat_lt j (part_count setting w k) && (is_waiting setting w r && (in_row && is_ready m)))
    completes_is = ap (completes_for setting past k j) is

    few : piece_count m ≤ MAX_PACKETS
    few = let f = (fits j l).few in omega arith

    whole_is : in_row ≡ true → gave ≡ Whole (record { items = m })
    whole_is on = given_in_row (way_to setting r) m busy_one busy_starts busy_ends (let f = few in omega arith) MAX_PACKETS j js few (omega arith) (l, below) on

    not_whole : in_row ≡ false → (body : List ℕ) → gave ≡ Whole (record { items = body }) → ⊥
    not_whole out body e = given_else (way_to setting r) m busy_one busy_starts busy_ends (let f = few in omega arith) MAX_PACKETS j js (l, below) out body e

    same_arrival : (f : Fed) → ((body : List ℕ) → f ≡ Whole (record { items = body }) → ⊥) → fed_arrival mine r.own f ≡ arrival_by f
    same_arrival (Whole body) x = absurd (x body.items refl)
    same_arrival Partial x = refl
    same_arrival (Dropped reason) x = refl

    brings_whole : in_row ≡ true → fed_arrival mine r.own gave ≡ whole_arrival r.own m
    brings_whole on =
        ap (fed_arrival mine r.own) (whole_is on)
        ∙ answer_arrives lower.responses mine r.own ask known.kind m mine_is (answers j l)

    off : (in_row && is_ready m) ≡ false → completes setting past k j ≡ false
    off e = completes_is ∙ and_right (nat_lt j (part_count setting w k)) _ (and_right (is_waiting setting w r) _ e)

    done : in_row ≡ true → is_ready m ≡ true → completes setting past k j ≡ true
    done on ready = completes_is ∙ and_from (nat_lt j (part_count setting w k)) _ (lt-ltb j (part_count setting w k) l) (and_from (is_waiting setting w r) _ opens (and_from in_row (is_ready m) on ready))

    pub reply_brings : fed_arrival mine r.own gave ≡ arrival_expected j
    reply_brings = go (cases_Bool in_row) (cases_Bool (is_ready m))
      where
        go : (in_row ≡ true) ⊎ (in_row ≡ false) → (is_ready m ≡ true) ⊎ (is_ready m ≡ false) → fed_arrival mine r.own gave ≡ arrival_expected j
        go (inl on) (inl ready) =
            brings_whole on ∙ cond-true (is_ready m) _ _ ready
            ∙ sym (cond-true (completes setting past k j) _ _ (done on ready))
        go (inl on) (inr busy) =
            brings_whole on ∙ cond-false (is_ready m) _ _ busy
            ∙ sym (cond-false (completes setting past k j) _ _ (off (and_right in_row (is_ready m) busy)) ∙ ap arrival_by (whole_is on))
        go (inr out) _ =
            same_arrival gave (not_whole out)
            ∙ sym (cond-false (completes setting past k j) _ _ (off (and_left in_row (is_ready m) out)))

  by_is_own : (f : Fed) → IsOf r.own (arrival_by f)
  by_is_own (Whole body) = tt
  by_is_own Partial = tt
  by_is_own (Dropped reason) = tt

  pub expected_is_own : (j : ℕ) → IsOf r.own (arrival_expected j)
  expected_is_own j = go (completes setting past k j)
    where
      go : (b : Bool) → IsOf r.own (if b then Answer r.own m else arrival_by (next (came setting past k r) (brought setting r m (Some j))))
      go true = refl
      go false = by_is_own (next (came setting past k r) (brought setting r m (Some j)))
