-- A delivery: what of the given answers it changes, and that the packet of a request brings its message.
use Rattle.std.proofs.Common.{◌≡◌, ◌≢◌, ◌⊎◌, ℕ, ◌<◌, ◌≤◌, Bool, true, false, List, ◌∷◌, length, Option, Some, None, Ok, refl, sym, ap, ◌∙◌, inl, inr, arith, eq-eqb}
use Rattle.std.specs.FinMap as map
use Rattle.std.specs.Prelude.{not, is_some, ◌&&◌, ◌||◌, ◌==◌}
use Rattle.std.proofs.lemmas.Bool.{and_from, and_left, and_right, cases_eq, cond-true, cond-false, ne_eqb}
use Rattle.pldm_wire.specs.declared.restart_policy.RestartPolicy.TheVariants.{All}
use Rattle.mctp_packet.specs.Ids.{IsEid}
use Rattle.mctp_packet.specs.Laws.{SpelledIsReadFor, WrittenSpells}
use Rattle.mctp_packet.specs.Packets.{IsPacket, Packet, packet, written}
use Rattle.mctp_packet.specs.Passing.{passed}
use Rattle.mctp_packet.specs.declared.TheConstants.{BASELINE_UNIT, MAX_PACKETS}
use Rattle.mctp_assembly.specs.Histories as histories
use Rattle.mctp_assembly.specs.Keys.{key_of}
use Rattle.mctp_assembly.specs.Opened.{Opened as Began}
use Rattle.mctp_assembly.specs.Steps as assembly
use Rattle.mctp_assembly.specs.declared.fed.Fed.{Fed}
use Rattle.mctp_assembly.specs.declared.fed.Fed.TheVariants as feds
use Rattle.pldm_wire.specs.Requests as requests
use Rattle.pldm_wire.specs.Requests.{request_of}
use Rattle.pldm_responder.specs.Arrivals.{Whole, arrival, fed_arrival, headed, is_expected, passed_arrival}
use Rattle.pldm_responder.specs.Calls.{looked_back}
use Rattle.pldm_responder.specs.Events.{is_busy}
use Rattle.pldm_responder.specs.Performing.{Rules, answered}
use Rattle.pldm_requester.specs.Numbering.{route_of}
use Rattle.mctp_schedule.specs.Askers.{packet_bytes}
use Rattle.mctp_schedule.specs.FirstArrivals.{arrives, first, has_arrived, is_answered_busy}
use Rattle.mctp_schedule.specs.Logs.{Asked, Happening, Delivered, asked_at, message_at, reached, endpoint_of}
use Rattle.mctp_schedule.specs.OncePerformed.{answered_to, given, was_busy}
use Rattle.mctp_schedule.proofs.FirstPerformed.{first_busy, first_here, first_none, first_other, first_stays}

-- ---- what was given
module _ {S : Type 0} (device : Rules S) (window keep : ℕ) (start : S) (past : List Happening) (moment n : ℕ) where
  abbrev log : List Happening
  log = Delivered moment n ∷ past

  abbrev busy : Bool
  busy = is_busy keep (reached {S = S} past) moment

  pub given_other : (k : ℕ) → (n ≡ k → ⊥) → given device window keep start log k ≡ given device window keep start past k
  given_other k other = cond-false (n == k && arrives (asked_at past k) busy) _ _ (and_left (n == k) _ (ne_eqb n k other))

  pub given_none : asked_at past n ≡ None → (k : ℕ) → given device window keep start log k ≡ given device window keep start past k
  given_none none k = go (cases_eq n k)
    where
      go : (n ≡ k) ⊎ (n ≡ k → ⊥) → given device window keep start log k ≡ given device window keep start past k
      go (inl same) =
          cond-false (n == k && arrives (asked_at past k) busy) _ _ (and_right (n == k) _ (ap (λ o. arrives o busy) (sym (ap (asked_at past) same) ∙ none)))
      go (inr other) = given_other k other

  pub given_busy : (r : Asked) → asked_at past n ≡ Some r → busy ≡ true → given device window keep start log n ≡ given device window keep start past n
  given_busy r is on =
      cond-false (n == n && arrives (asked_at past n) busy) _ _ (and_right (n == n) _ (ap (λ o. arrives o busy) is ∙ ap not on))

  pub given_here : (r : Asked) → asked_at past n ≡ Some r → busy ≡ false → given device window keep start log n ≡ Some (answered device All window keep start (reached past) (message_at moment r))
  given_here r is off =
      cond-true (n == n && arrives (asked_at past n) busy) _ _ (ap (λ b. b && arrives (asked_at past n) busy) (eq-eqb n n refl) ∙ ap (λ o. arrives o busy) is ∙ ap not off)
      ∙ ap (λ o. Some (answered_to device window keep start moment past o)) is

  -- and which busy answers
  abbrev expected : ℕ → Bool
  expected k = is_answered_busy (asked_at past k) busy

  pub busy_other : (k : ℕ) → (n ≡ k → ⊥) → was_busy S keep log k ≡ was_busy S keep past k
  busy_other k other = ap (λ b. b || was_busy S keep past k) (and_left (n == k) (expected k) (ne_eqb n k other))

  pub busy_none : asked_at past n ≡ None → (k : ℕ) → was_busy S keep log k ≡ was_busy S keep past k
  busy_none none k = go (cases_eq n k)
    where
      go : (n ≡ k) ⊎ (n ≡ k → ⊥) → was_busy S keep log k ≡ was_busy S keep past k
      go (inl same) =
          ap (λ b. b || was_busy S keep past k) (and_right (n == k) (expected k) (ap (λ o. is_answered_busy o busy) (sym (ap (asked_at past) same) ∙ none)))
      go (inr other) = busy_other k other

  pub busy_here : (r : Asked) → asked_at past n ≡ Some r → busy ≡ true → was_busy S keep log n ≡ true
  busy_here r is on =
      ap (λ b. b || was_busy S keep past n) (and_from (n == n) (expected n) (eq-eqb n n refl) (ap (λ o. is_answered_busy o busy) is ∙ on))

  pub busy_served : (r : Asked) → asked_at past n ≡ Some r → busy ≡ false → was_busy S keep log n ≡ was_busy S keep past n
  busy_served r is off =
      ap (λ b. b || was_busy S keep past n) (and_right (n == n) (expected n) (ap (λ o. is_answered_busy o busy) is ∙ off))

-- ---- which requests have arrived
module _ (S : Type 0) (keep : ℕ) (past : List Happening) (moment n : ℕ) where
  pub arrived_other : (k : ℕ) → (n ≡ k → ⊥) → has_arrived S keep (Delivered moment n ∷ past) k ≡ has_arrived S keep past k
  arrived_other k other = ap is_some (first_other S keep past moment n k other)

  pub arrived_none : asked_at past n ≡ None → (k : ℕ) → has_arrived S keep (Delivered moment n ∷ past) k ≡ has_arrived S keep past k
  arrived_none none k = ap is_some (first_none S keep past moment n k none)

  pub arrived_busy : is_busy keep (reached {S = S} past) moment ≡ true → (k : ℕ) → has_arrived S keep (Delivered moment n ∷ past) k ≡ has_arrived S keep past k
  arrived_busy on k = ap is_some (first_busy S keep past moment n k on)

  pub arrived_here : (r : Asked) → asked_at past n ≡ Some r → is_busy keep (reached {S = S} past) moment ≡ false → has_arrived S keep (Delivered moment n ∷ past) n ≡ true
  arrived_here r is off = go (first S keep past n) refl
    where
      go : (f : Option (List Happening)) → first S keep past n ≡ f → has_arrived S keep (Delivered moment n ∷ past) n ≡ true
      go None none = ap is_some (first_here S keep past moment n r is off none)
      go (Some place) came = ap is_some (first_stays S keep past moment n n place came ∙ came)

-- ---- the packet of a request, which has both SOM and EOM, is a whole message after any others
abbrev pub packet_for : ℕ → Asked → Packet
packet_for eid r = packet (route_of (endpoint_of r.source) eid r.own) true true 0 r.message

pub held_whole : (held : assembly.OpenMessages) (eid : ℕ) (r : Asked) → assembly.answer held (packet_for eid r) ≡ feds.Whole (record { items = r.message })
held_whole held eid r = go (map.get held (key_of (packet_for eid r)))
  where
    go : (o : Option Began) → assembly.answer_to MAX_PACKETS o (packet_for eid r) ≡ feds.Whole (record { items = r.message })
    go None = refl
    go (Some o) = refl

pub looked_whole : (calls : List histories.Call) (eid : ℕ) (r : Asked) → looked_back calls (packet_for eid r) ≡ feds.Whole (record { items = r.message })
looked_whole calls eid r = refl

pub brings_message : WrittenSpells → SpelledIsReadFor → (gives : Packet → Fed) (eid moment : ℕ) (r : Asked) (request : requests.Request) → IsEid eid → IsEid (endpoint_of r.source) → endpoint_of r.source ≢ eid → 0 < length r.message → length r.message ≤ BASELINE_UNIT → request_of r.message ≡ Ok request
    → gives (packet_for eid r) ≡ feds.Whole (record { items = r.message }) → arrival gives eid moment (packet_bytes (endpoint_of r.source) eid r.own r.message) ≡ Whole (message_at moment r)
brings_message spells read_for gives eid moment r request own source other some few readable whole =
    let p = packet_for eid r in
    let parts : IsPacket p = record { destination = own; source = source; tag = omega arith; seq = omega arith; payload = (some, few) } in
    let read = read_for eid p (written p) (spells p parts) (refl, other) in
    ap (λ q. passed_arrival gives moment (passed is_expected q)) read
    ∙ ap (fed_arrival p.route moment) whole
    ∙ ap (headed (message_at moment r)) readable
