-- A device that keeps events and the receiver that takes them, over any order of what happens, the newest first. Each
-- request of that end has a number, counted from 0. The device performs it, at any moment or never, also after it was
-- given up; the answer that is taken is the one that performing it gave.
use Rattle.std.specs.Prelude.{ℕ, suc, ◌+◌, ◌≤◌, Bool, ◌==◌, List, [], ◌∷◌, ◌++◌, Option, Some, None, option_map, if◌then◌else◌}
use Rattle.pldm_wire.specs.declared.assigned.TheConstants.{INSTANCE_IDS}
use Rattle.event_queue.specs.Queues.{PlatformEvent, QueueView, acknowledged, begun, has_room, head, new_event, one_refused, posted}
use Rattle.event_queue.specs.Receivers.{ReceiverView, after_answer, after_giving_up, first_receiver, is_new}
use Rattle.event_queue.specs.declared.receiver.EventRequest.{EventRequest}
use Rattle.event_queue.specs.declared.receiver.EventRequest.TheVariants.{Poll, Acknowledge}

pub data EventStep : Type 0 where
  -- the device posts an event, which is refused where there is no room
  Posts : (class : ℕ) → (contents : List ℕ) → EventStep
  -- the receiver opens the request that it asks next, where it has none open
  Asks : EventStep
  -- its requester opens a request of another command
  AsksOther : EventStep
  -- the device performs the request of this number
  Performs : (number : ℕ) → EventStep
  -- the receiver takes the answer to its open request, where the device performed it
  Takes : EventStep
  -- it gives its open request up
  GivesUp : EventStep
  -- the device restarts, and keeps its queue
  Restarts : EventStep

pub record EventWorld : Type 0 where
  pub queue : QueueView
  -- the events that were posted, acknowledged and taken, each list the oldest first
  pub posted : List PlatformEvent
  pub acknowledged : List PlatformEvent
  pub taken : List PlatformEvent
  pub receiver : ReceiverView
  -- how many requests were opened, which event command each is, if it is one, and the receiver's open one
  pub count : ℕ
  pub asked : ℕ → Option EventRequest
  pub open_one : Option ℕ
  -- what performing each gave, once it was performed: the event for a poll, if there was one
  pub given : ℕ → Option (Option PlatformEvent)

abbrev pub first_world : ℕ → ℕ → EventWorld
first_world most first = record {
  queue = begun most first;
  posted = [];
  acknowledged = [];
  taken = [];
  receiver = first_receiver;
  count = 0;
  asked = λ n. None;
  open_one = None;
  given = λ n. None;
}

-- another value at a number
abbrev pub put : {A : Type 0} → (ℕ → A) → ℕ → A → ℕ → A
put each number value n = if n == number then value else each n

abbrev pub with_post : EventWorld → ℕ → List ℕ → EventWorld
with_post w class contents = record w {
  queue = posted w.queue class contents;
  posted = w.posted ++ new_event w.queue class contents ∷ [];
}

-- what finds no room is counted
abbrev pub with_refusal : EventWorld → EventWorld
with_refusal w = record w { queue = one_refused w.queue }

abbrev pub with_ask : EventWorld → Option ℕ → EventWorld
with_ask w None = record w {
  count = suc w.count;
  asked = put w.asked w.count (Some w.receiver.request);
  open_one = Some w.count;
}
with_ask w (Some number) = w

-- an event that is dropped was acknowledged
abbrev pub acknowledged_after : ℕ → List PlatformEvent → List PlatformEvent → List PlatformEvent
acknowledged_after id before [] = before
acknowledged_after id before (event ∷ rest) = if event.id == id then before ++ event ∷ [] else before

abbrev pub performed : EventWorld → ℕ → Option EventRequest → EventWorld
performed w number None = w
performed w number (Some Poll) = record w { given = put w.given number (Some (head w.queue.events)) }
performed w number (Some (Acknowledge id)) = record w {
  queue = acknowledged w.queue id;
  acknowledged = acknowledged_after id w.acknowledged w.queue.events;
  given = put w.given number (Some None);
}

-- an event that is new is taken
abbrev pub taken_after : List PlatformEvent → Bool → Option PlatformEvent → List PlatformEvent
taken_after before new None = before
taken_after before new (Some event) = if new then before ++ event ∷ [] else before

abbrev pub id_in : Option PlatformEvent → Option ℕ
id_in event = option_map (λ e. e.id) event

abbrev pub with_answer : EventWorld → Option (Option PlatformEvent) → EventWorld
with_answer w None = w
with_answer w (Some event) = record w {
  taken = taken_after w.taken (is_new w.receiver (id_in event)) event;
  receiver = after_answer w.receiver (id_in event);
  open_one = None;
}

abbrev pub with_taking : EventWorld → Option ℕ → EventWorld
with_taking w None = w
with_taking w (Some number) = with_answer w (w.given number)

abbrev pub happens : EventWorld → EventStep → EventWorld
happens w (Posts class contents) = if has_room w.queue then with_post w class contents else with_refusal w
happens w Asks = with_ask w w.open_one
happens w AsksOther = record w { count = suc w.count }
happens w (Performs number) = performed w number (w.asked number)
happens w Takes = with_taking w w.open_one
happens w GivesUp = record w { receiver = after_giving_up w.receiver; open_one = None }
happens w Restarts = w

-- a queue with room for so many events, whose first one gets this ID
module _ (most first : ℕ) where
  abbrev pub event_world : List EventStep → EventWorld
  event_world [] = first_world most first
  event_world (step ∷ past) = happens (event_world past) step

  -- a request is performed before its instance ID is used again: at most 31 requests were opened after it
  abbrev pub IsTimelyStep : EventWorld → EventStep → Type 0
  IsTimelyStep w (Performs number) = w.count ≤ number + INSTANCE_IDS
  IsTimelyStep w _ = Unit {0}

  -- each step is, in the world that it comes to
  abbrev pub IsTimelyRun : List EventStep → Type 0
  IsTimelyRun [] = Unit {0}
  IsTimelyRun (step ∷ past) = IsTimelyStep (event_world past) step × IsTimelyRun past
