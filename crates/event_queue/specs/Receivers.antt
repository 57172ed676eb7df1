-- The event receiver: what it asks next, and which events it hands up.
use Rattle.std.specs.Prelude.{ℕ, Bool, false, not, ◌==◌, Option, Some, None, refl}
use Rattle.std.specs.Coded.{Coded, code_by, coded×, coded_ℕ}
use Rattle.event_queue.specs.contracts.receiver.EventRequest as request_type
use Rattle.event_queue.specs.declared.receiver.EventRequest.{EventRequest}
use Rattle.event_queue.specs.declared.receiver.EventRequest.TheVariants.{Poll, Acknowledge}

-- the ID of the last event that was taken, 0 before the first, and what is asked next
pub record ReceiverView : Type 0 where
  pub last : ℕ
  pub request : EventRequest

-- it is stored as its parts
abbrev pub coded_receiver : Coded ReceiverView
coded_receiver =
    code_by (ℕ × EventRequest) (coded× coded_ℕ request_type.the_row.coded)
    (λ r. (r.last, r.request))
    (λ c. record { last = c.0; request = c.1 })
    (λ _. refl)

abbrev pub first_receiver : ReceiverView
first_receiver = record { last = 0; request = Poll }

-- what it remembers after the answer to what it asked: an event that a poll brings is acknowledged next, whether it is
-- new or not
abbrev pub receiver_by : EventRequest → ℕ → Option ℕ → ReceiverView
receiver_by Poll last (Some id) = record { last = id; request = Acknowledge id }
receiver_by Poll last None = record { last = last; request = Poll }
receiver_by (Acknowledge id) last event = record { last = last; request = Poll }

abbrev pub after_answer : ReceiverView → Option ℕ → ReceiverView
after_answer r event = receiver_by r.request r.last event

-- an event that a poll brings is handed up where it is not the last one that was
abbrev pub is_new_by : EventRequest → ℕ → Option ℕ → Bool
is_new_by Poll last (Some id) = not (id == last)
is_new_by Poll last None = false
is_new_by (Acknowledge id) last event = false

abbrev pub is_new : ReceiverView → Option ℕ → Bool
is_new r event = is_new_by r.request r.last event

-- a request that was given up is not asked again: a poll says what the device still has
abbrev pub after_giving_up : ReceiverView → ReceiverView
after_giving_up r = record r { request = Poll }
