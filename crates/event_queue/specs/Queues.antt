-- The queue of a device's events: an event is posted at its end, and its head is dropped where it is acknowledged.
use Rattle.std.specs.Prelude.{◌≡◌, ℕ, suc, ◌+◌, ◌%◌, ◌<◌, ◌≤◌, Bool, false, ◌==◌, nat_lt, List, [], ◌∷◌, ◌++◌, length, drop, Option, Some, None, if◌then◌else◌, refl}
use Rattle.std.specs.Coded.{Coded, code_by, coded×, coded_ℕ, coded_list}
use Rattle.event_queue.specs.declared.event.TheConstants.{EVENT_IDS, MAX_EVENT_DATA}
use Rattle.event_queue.specs.declared.queue.PostFault.{PostFault}
use Rattle.event_queue.specs.declared.queue.PostFault.TheVariants.{Long, Full}
use Rattle.event_queue.specs.declared.queue.StartFault.{StartFault}
use Rattle.event_queue.specs.declared.queue.StartFault.TheVariants.{FirstId, Memory}

-- an event as it is posted: its ID, its class and its data
pub record PlatformEvent : Type 0 where
  pub id : ℕ
  pub class : ℕ
  pub contents : List ℕ

-- it is stored as its parts
abbrev pub coded_event : Coded PlatformEvent
coded_event =
    code_by (ℕ × (ℕ × List ℕ)) (coded× coded_ℕ (coded× coded_ℕ (coded_list coded_ℕ)))
    (λ e. (e.id, (e.class, e.contents)))
    (λ c. record { id = c.0; class = c.1.0; contents = c.1.1 })
    (λ _. refl)

-- how many events there is room for, the ID of the next one, those that were not acknowledged, the oldest first, and
-- how many were refused because there was no room
pub record QueueView : Type 0 where
  pub most : ℕ
  pub next : ℕ
  pub events : List PlatformEvent
  pub refused : ℕ

-- it is stored as its parts
abbrev pub coded_queue : Coded QueueView
coded_queue =
    code_by (ℕ × (ℕ × (List PlatformEvent × ℕ)))
    (coded× coded_ℕ (coded× coded_ℕ (coded× (coded_list coded_event) coded_ℕ)))
    (λ q. (q.most, (q.next, (q.events, q.refused))))
    (λ c. record { most = c.0; next = c.1.0; events = c.1.1.0; refused = c.1.1.1 })
    (λ _. refl)

-- an event ID
pub record IsNext (id : ℕ) : Type 0 where
  pub some : 0 < id
  pub few : id ≤ EVENT_IDS

-- an empty queue whose first event gets this ID
abbrev pub begun : ℕ → ℕ → QueueView
begun most first = record { most = most; next = first; events = []; refused = 0 }

-- the first ID is none, or else its memory was refused
abbrev pub IsWhyNotBegun : ℕ → StartFault → Type 0
IsWhyNotBegun first FirstId = IsNext first → ⊥
IsWhyNotBegun first Memory = IsNext first

-- IDs are used in turn: 1 comes after the last one
abbrev pub next_id : ℕ → ℕ
next_id id = id % EVENT_IDS + 1

abbrev pub has_room : QueueView → Bool
has_room q = nat_lt (length q.events) q.most

abbrev pub new_event : QueueView → ℕ → List ℕ → PlatformEvent
new_event q class contents = record { id = q.next; class = class; contents = contents }

-- one more event stands at the end
abbrev pub posted : QueueView → ℕ → List ℕ → QueueView
posted q class contents = record q {
  next = next_id q.next;
  events = q.events ++ new_event q class contents ∷ [];
}

-- the event has too much data, or else there is no room
abbrev pub IsWhyNotPosted : QueueView → List ℕ → PostFault → Type 0
IsWhyNotPosted q contents Long = MAX_EVENT_DATA < length contents
IsWhyNotPosted q contents Full = (length contents ≤ MAX_EVENT_DATA) × (has_room q ≡ false)

-- the count of what was refused stops at the largest number of 64 bits
abbrev pub MOST_COUNTED : ℕ
MOST_COUNTED = 18446744073709551615

abbrev pub counted : ℕ → ℕ
counted n = if nat_lt n MOST_COUNTED then suc n else n

-- an event that finds no room is counted, and nothing else changes
abbrev pub one_refused : QueueView → QueueView
one_refused q = record q { refused = counted q.refused }

abbrev pub after_refusal : QueueView → PostFault → QueueView
after_refusal q Long = q
after_refusal q Full = one_refused q

-- what a poll gets
abbrev pub head : List PlatformEvent → Option PlatformEvent
head [] = None
head (event ∷ rest) = Some event

-- an acknowledgement with this ID is of the head
abbrev pub is_head : ℕ → List PlatformEvent → Bool
is_head id [] = false
is_head id (event ∷ rest) = event.id == id

-- it drops that one, and nothing else
abbrev pub acknowledged : QueueView → ℕ → QueueView
acknowledged q id = record q { events = if is_head id q.events then drop 1 q.events else q.events }
