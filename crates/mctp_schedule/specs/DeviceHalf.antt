-- The device's half of the link: over a timely log each request that arrives is performed once, and all its
-- deliveries get its one reply.
use Rattle.std.specs.Prelude.{◌≡◌, ◌≢◌, ℕ, ◌+◌, ◌*◌, ◌<◌, ◌≤◌, false, not, List, ◌∷◌, Some}
use Rattle.pldm_wire.specs.Headers.{id_at}
use Rattle.pldm_wire.specs.declared.restart_policy.RestartPolicy.TheVariants.{All}
use Rattle.pldm_responder.specs.Calls.{answer_expected}
use Rattle.pldm_responder.specs.Events.{Place, is_busy, is_copy, is_fresh, origin}
use Rattle.pldm_responder.specs.Performing.{Rules, performed}
use Rattle.mctp_schedule.specs.Logs.{Asked, Happening, Delivered, asked_at, message_at, reached, endpoint_of}
use Rattle.mctp_schedule.specs.FirstArrivals.{IsOrderOfFirsts, first, is_first, order}
use Rattle.mctp_schedule.specs.OncePerformed.{FitsPackets, RepliesFit, delivery_expected, given, given_once, once, the_reply}
use Rattle.mctp_schedule.specs.Timely.{IsTimelyLog}

-- a request's deliveries come before its instance ID is used again: at any of them the other requests of its source
-- and instance ID were opened at least twice the lifetime before it
abbrev pub NoneOpenedSince : Type 0 → Type 0
NoneOpenedSince S =
    (window keep lifetime : ℕ) (past : List Happening) (moment k j : ℕ) (r q : Asked)
    → IsTimelyLog S window keep lifetime (Delivered moment k ∷ past)
    → asked_at past k ≡ Some r → asked_at past j ≡ Some q → k ≢ j
    → endpoint_of q.source ≡ endpoint_of r.source → id_at q.message ≡ id_at r.message
    → q.opening + 2 * lifetime ≤ r.opening

-- the fresh deliveries are the requests that arrived, in the order of their first arrivals, each once
abbrev pub FreshInOrderOfFirsts : Type 0 → Type 0
FreshInOrderOfFirsts S =
    (window keep lifetime : ℕ) (log : List Happening)
    → IsTimelyLog S window keep lifetime log → IsOrderOfFirsts S keep log (order S window keep log)

-- while the responder serves, a delivery is fresh exactly where it is the request's first arrival, else a copy; at a
-- copy what is kept for the source and instance ID is this request's own first message, and its time is not over
abbrev pub FreshWhereFirst : Type 0 → Type 0
FreshWhereFirst S =
    (window keep lifetime : ℕ) (past : List Happening) (moment k : ℕ) (r : Asked)
    → IsTimelyLog S window keep lifetime (Delivered moment k ∷ past) → asked_at past k ≡ Some r
    → is_busy keep (reached {S = S} past) moment ≡ false
    → (is_fresh All window keep (reached {S = S} past) (message_at moment r) ≡ is_first S keep past moment k)
    × (is_copy All window keep (reached {S = S} past) (message_at moment r) ≡ not (is_first S keep past moment k))
    × ((place : List Happening) → first S keep past k ≡ Some place → (p : Place S)
    × (origin All window keep (reached {S = S} past) (endpoint_of r.source) (id_at r.message) ≡ Some p) × (p.message.bytes ≡ r.message)
    × (moment < p.message.moment + keep))

module _ {S : Type 0} (device : Rules S) where
  -- the responder's state is that of performing once each request that arrived
  abbrev pub StateIsOnce : Type 0
  StateIsOnce =
      (window keep lifetime : ℕ) (start : S) (log : List Happening) → IsTimelyLog S window keep lifetime log
      → performed device All window keep start (reached log) ≡ once device keep start log

  -- what the responder gives at a delivery is what the definitions owe to it
  abbrev pub DeliveryIsExpected : Type 0
  DeliveryIsExpected =
      (own window keep lifetime : ℕ) (start : S) (past : List Happening) (moment k : ℕ) (r : Asked)
      → IsTimelyLog S window keep lifetime (Delivered moment k ∷ past) → asked_at past k ≡ Some r
      → answer_expected device own All window keep start (reached past) (message_at moment r)
      ≡ delivery_expected device keep start own past moment k r

  -- a request that was performed is not performed again, whatever restarts came since
  abbrev pub NotPerformedAgain : Type 0
  NotPerformedAgain =
      (window keep lifetime : ℕ) (start : S) (past : List Happening) (moment k : ℕ) (place : List Happening)
      → IsTimelyLog S window keep lifetime (Delivered moment k ∷ past) → first S keep past k ≡ Some place
      → performed device All window keep start (reached (Delivered moment k ∷ past))
      ≡ performed device All window keep start (reached past)

  -- the latest reply that was given to a request is its one reply, once it has arrived
  abbrev pub GivenIsTheReply : Type 0
  GivenIsTheReply =
      (window keep lifetime : ℕ) (start : S) (log : List Happening) (k : ℕ) → IsTimelyLog S window keep lifetime log
      → given device window keep start log k ≡ given_once device keep start log k

  -- where each reply that the device made fits packets, the one reply of each request that arrived does
  abbrev pub TheReplyFits : Type 0
  TheReplyFits =
      (window keep lifetime : ℕ) (start : S) (log : List Happening) (k : ℕ) (place : List Happening)
      → IsTimelyLog S window keep lifetime log
      → RepliesFit device window keep start log → first S keep log k ≡ Some place
      → FitsPackets (the_reply device keep start log k)
