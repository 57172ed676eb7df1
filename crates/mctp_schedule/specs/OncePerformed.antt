-- The device's state and its replies where each request that arrived is performed once, at its first arrival.
use Rattle.std.specs.Prelude.{◌≡◌, ℕ, ◌<◌, ◌≤◌, true, false, List, [], ◌∷◌, length, Bool, ◌&&◌, ◌||◌, ◌==◌, Option, Some, None, Ok, option_map, if◌then◌else◌}
use Rattle.mctp_packet.specs.declared.TheConstants.{MAX_MESSAGE_BYTES}
use Rattle.pldm_wire.specs.Requests as requests
use Rattle.pldm_wire.specs.declared.restart_policy.RestartPolicy.TheVariants.{All}
use Rattle.pldm_platform.specs.Changes.{changed_or}
use Rattle.pldm_responder.specs.Events.{is_busy, is_fresh}
use Rattle.pldm_responder.specs.Performing.{Rules, reply, next, changes, busy_reply, performed, answered}
use Rattle.pldm_responder.specs.Arrivals.{packets_back}
use Rattle.pldm_responder.specs.declared.outcome.Outcome.{Outcome}
use Rattle.pldm_responder.specs.declared.outcome.Outcome.TheVariants.{Answered}
use Rattle.mctp_schedule.specs.Logs.{Asked, Happening, Opened, Delivered, Sensed, asked_at, message_at, reached}
use Rattle.mctp_schedule.specs.FirstArrivals.{arrives_at, first, is_first, is_answered_busy_at}

-- the bytes of a request's message
abbrev pub bytes_of : Option Asked → List ℕ
bytes_of None = []
bytes_of (Some r) = r.message

-- the device can read these bytes as a request
abbrev pub IsReadable : List ℕ → Type 0
IsReadable message = (request : requests.Request) × (requests.request_of message ≡ Ok request)

-- each request that was opened can be read
abbrev pub AreRequests : List Happening → Type 0
AreRequests [] = Unit {0}
AreRequests (Opened r ∷ past) = IsReadable r.message × AreRequests past
AreRequests (_ ∷ past) = AreRequests past

-- packets can carry this message
pub record FitsPackets (message : List ℕ) : Type 0 where
  pub some : 0 < length message
  pub few : length message ≤ MAX_MESSAGE_BYTES

module _ {S : Type 0} (device : Rules S) (keep : ℕ) (start : S) where
  -- the device's state: each request that arrived is performed once, at its first arrival, and each reading set, in
  -- order
  abbrev pub once : List Happening → S
  once [] = start
  once (Sensed _ id value ∷ past) = changed_or (once past) (device.sensed (once past) id value)
  once (Delivered moment k ∷ past) =
      if is_first S keep past moment k then next device (once past) (bytes_of (asked_at past k)) else once past
  once (_ ∷ past) = once past

  abbrev pub reply_from : List ℕ → Option (List Happening) → List ℕ
  reply_from bytes None = []
  reply_from bytes (Some past) = reply device (once past) bytes

  -- the one reply of request k: what performing it at its first arrival answers
  abbrev pub the_reply : List Happening → ℕ → List ℕ
  the_reply log k = reply_from (bytes_of (asked_at log k)) (first S keep log k)

  -- the one reply of request k, where it has arrived
  abbrev pub given_once : List Happening → ℕ → Option (List ℕ)
  given_once log k = option_map (λ place. the_reply log k) (first S keep log k)

  -- what the responder at the endpoint `own` owes to a delivery of request k, which is r, at this moment: a busy
  -- answer of code 4 after a restart, else the one reply, reported as fresh at its first arrival and as a copy later
  abbrev pub delivery_expected : ℕ → List Happening → ℕ → ℕ → Asked → Outcome
  delivery_expected own past moment k r =
      if is_busy keep (reached {S = S} past) moment
      then Answered false false (packets_back own (message_at moment r) (busy_reply r.message))
      else if is_first S keep past moment k
      then Answered true (changes device (once past) r.message)
      (packets_back own (message_at moment r) (the_reply (Delivered moment k ∷ past) k))
      else Answered false false (packets_back own (message_at moment r) (the_reply (Delivered moment k ∷ past) k))

-- what a responder with a window gave; in the busy time it refuses each request
module _ {S : Type 0} (device : Rules S) (window keep : ℕ) (start : S) where
  -- each reply that the device made fits packets: those to fresh deliveries, in the states that it was in
  abbrev pub RepliesFit : List Happening → Type 0
  RepliesFit [] = Unit {0}
  RepliesFit (Delivered moment k ∷ past) =
      ((r : Asked) → asked_at past k ≡ Some r
      → is_fresh All window keep (reached {S = S} past) (message_at moment r) ≡ true
      → FitsPackets (reply device (performed device All window keep start (reached past)) r.message))
      × RepliesFit past
  RepliesFit (_ ∷ past) = RepliesFit past

  abbrev pub answered_to : ℕ → List Happening → Option Asked → List ℕ
  answered_to moment past None = []
  answered_to moment past (Some r) = answered device All window keep start (reached past) (message_at moment r)

  -- the latest reply that the responder gave to request k, busy answers aside; `None` where it gave none yet
  abbrev pub given : List Happening → ℕ → Option (List ℕ)
  given [] k = None
  given (Delivered moment j ∷ past) k =
      if j == k && arrives_at S keep past moment k
      then Some (answered_to moment past (asked_at past k))
      else given past k
  given (_ ∷ past) k = given past k

-- over a device with states S
module _ (S : Type 0) where
  -- a busy answer was given to request k: one was expected to a delivery of it
  abbrev pub was_busy : ℕ → List Happening → ℕ → Bool
  was_busy keep [] k = false
  was_busy keep (Delivered moment j ∷ past) k =
      (j == k && is_answered_busy_at S keep past moment k) || was_busy keep past k
  was_busy keep (_ ∷ past) k = was_busy keep past k
