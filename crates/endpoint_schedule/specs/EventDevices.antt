-- A device that keeps a queue of events in its state, however its requests spell what they ask of it, and what it posts
-- over a log, each request that arrived performed once.
use Rattle.std.specs.Prelude.{◌≡◌, ℕ, ℤ, List, [], ◌∷◌, ◌++◌, Option, Some, None, if◌then◌else◌}
use Rattle.event_queue.specs.Queues.{PlatformEvent, QueueView, acknowledged, has_room, head, new_event, one_refused, posted}
use Rattle.event_queue.specs.declared.receiver.EventRequest.{EventRequest}
use Rattle.event_queue.specs.declared.receiver.EventRequest.TheVariants.{Poll, Acknowledge}
use Rattle.mctp_schedule.specs.FirstArrivals.{is_first}
use Rattle.mctp_schedule.specs.Logs.{Happening, Delivered, Sensed, asked_at}
use Rattle.mctp_schedule.specs.OncePerformed.{bytes_of, once}
use Rattle.pldm_platform.specs.Changes.{changed_or}
use Rattle.pldm_responder.specs.Performing.{Rules, next, reply}

-- an event that is posted: its class and its data
pub record Posting : Type 0 where
  pub class : ℕ
  pub contents : List ℕ

-- where the queue stands in a state, what the message of a request asks of it, and the event that the message of a
-- response brings; what is posted in a state where a request that asks nothing of the queue is performed, and where a
-- sensor gets a reading, the oldest first
pub record EventDevice (S : Type 0) : Type 0 where
  pub queue : S → QueueView
  pub asks : List ℕ → Option EventRequest
  pub brings : List ℕ → Option PlatformEvent
  pub posts : S → List ℕ → List Posting
  pub senses : S → ℕ → ℤ → List Posting

-- what finds no room is counted
abbrev pub with_posting : QueueView → Posting → QueueView
with_posting q p = if has_room q then posted q p.class p.contents else one_refused q

abbrev pub with_postings : QueueView → List Posting → QueueView
with_postings q [] = q
with_postings q (p ∷ rest) = with_postings (with_posting q p) rest

-- the events that it makes
abbrev pub made_of_one : QueueView → Posting → List PlatformEvent
made_of_one q p = if has_room q then new_event q p.class p.contents ∷ [] else []

abbrev pub made_of : QueueView → List Posting → List PlatformEvent
made_of q [] = []
made_of q (p ∷ rest) = made_of_one q p ++ made_of (with_posting q p) rest

-- the device answers a poll with its queue's head, an acknowledgement drops that where the ID matches, and everything
-- else only posts
pub record KeepsEvents {S : Type 0} (device : Rules S) (events : EventDevice S) : Type 0 where
  pub polled :
      (state : S) (bytes : List ℕ) → events.asks bytes ≡ Some Poll
      → (events.brings (reply device state bytes) ≡ head (events.queue state).events)
      × (events.queue (next device state bytes) ≡ events.queue state)
  pub acknowledged :
      (state : S) (bytes : List ℕ) (id : ℕ) → events.asks bytes ≡ Some (Acknowledge id)
      → (events.brings (reply device state bytes) ≡ None)
      × (events.queue (next device state bytes) ≡ acknowledged (events.queue state) id)
  pub performed :
      (state : S) (bytes : List ℕ) → events.asks bytes ≡ None
      → events.queue (next device state bytes) ≡ with_postings (events.queue state) (events.posts state bytes)
  pub sensed :
      (state : S) (id : ℕ) (value : ℤ)
      → events.queue (changed_or state (device.sensed state id value))
      ≡ with_postings (events.queue state) (events.senses state id value)

module _ {S : Type 0} (device : Rules S) (events : EventDevice S) (keep : ℕ) (start : S) where
  abbrev pub made_by : S → List ℕ → Option EventRequest → List PlatformEvent
  made_by state bytes None = made_of (events.queue state) (events.posts state bytes)
  made_by state bytes (Some request) = []

  -- all events that the device posted, the oldest first
  abbrev pub posted_over : List Happening → List PlatformEvent
  posted_over [] = []
  posted_over (Sensed _ id value ∷ past) =
      posted_over past
      ++ made_of (events.queue (once device keep start past)) (events.senses (once device keep start past) id value)
  posted_over (Delivered moment k ∷ past) =
      if is_first S keep past moment k
      then posted_over past
      ++ made_by (once device keep start past) (bytes_of (asked_at past k)) (events.asks (bytes_of (asked_at past k)))
      else posted_over past
  posted_over (_ ∷ past) = posted_over past
