-- What happened on the link between requesters and a device, the newest first, and what of it reached the responder.
use Rattle.std.specs.Prelude.{◌≡◌, ◌≢◌, ℕ, suc, ◌+◌, ◌*◌, ◌%◌, ◌<◌, ◌≤◌, ℤ, List, [], ◌∷◌, ◌==◌, Option, Some, None, if◌then◌else◌}
use Rattle.mctp_packet.specs.declared.TheConstants.{TAGS}
use Rattle.pldm_wire.specs.Headers.{id_at}
use Rattle.pldm_responder.specs.Events.{Message, Event, Came, Set, Restarted}

-- A requester that begins anew at its endpoint is another one. The number of a requester is its endpoint ID, and 256 more
-- for each time that one began anew there.
abbrev pub endpoint_of : ℕ → ℕ
endpoint_of requester = requester % 256

-- a request that was opened: the requester, the request's number among that one's requests from 0 on, the moment at which
-- it was opened, and its message
pub record Asked : Type 0 where
  pub source : ℕ
  pub own : ℕ
  pub opening : ℕ
  pub message : List ℕ

-- a request was opened; the packet of the request of this number was delivered to the device; a sensor got a
-- reading; the device's end restarted
pub data Happening : Type 0 where
  Opened : Asked → Happening
  Delivered : (moment : ℕ) → (number : ℕ) → Happening
  Sensed : (moment : ℕ) → (id : ℕ) → (value : ℤ) → Happening
  WentDown : (moment : ℕ) → Happening

abbrev pub moment_of : Happening → ℕ
moment_of (Opened r) = r.opening
moment_of (Delivered moment k) = moment
moment_of (Sensed moment id value) = moment
moment_of (WentDown moment) = moment

-- the moment of the newest, 0 where nothing happened
abbrev pub last_of : List Happening → ℕ
last_of [] = 0
last_of (newest ∷ past) = moment_of newest

-- how many requests were opened
abbrev pub count_of : List Happening → ℕ
count_of [] = 0
count_of (Opened r ∷ past) = suc (count_of past)
count_of (_ ∷ past) = count_of past

-- the request of this number, counted from 0 over all requesters
abbrev pub asked_at : List Happening → ℕ → Option Asked
asked_at [] k = None
asked_at (Opened r ∷ past) k = if k == count_of past then Some r else asked_at past k
asked_at (_ ∷ past) k = asked_at past k

-- the message of a request as it comes to the device at a moment: its packet has the requester's own number as its tag
abbrev pub message_at : ℕ → Asked → Message
message_at moment r = record { source = endpoint_of r.source; tag = r.own % TAGS; moment = moment; bytes = r.message }

-- over a device of any state: nothing that happens on the link changes it from outside
module _ {S : Type 0} where
  -- a request that was never opened brings nothing
  abbrev pub with_reached : ℕ → Option Asked → List (Event S) → List (Event S)
  with_reached moment None events = events
  with_reached moment (Some r) events = Came (message_at moment r) ∷ events

  -- what reached the responder
  abbrev pub reached : List Happening → List (Event S)
  reached [] = []
  reached (Opened r ∷ past) = reached past
  reached (Delivered moment k ∷ past) = with_reached moment (asked_at past k) (reached past)
  reached (Sensed moment id value ∷ past) = Set id value ∷ reached past
  reached (WentDown moment ∷ past) = Restarted moment ∷ reached past

-- moments never go back
abbrev pub InOrder : List Happening → Type 0
InOrder [] = Unit {0}
InOrder (newest ∷ past) = (last_of past ≤ moment_of newest) × InOrder past

-- the other requests of r's source and instance ID were opened at least twice the keeping time before r
abbrev pub ComesLate : ℕ → Asked → List Happening → Type 0
ComesLate keep r past =
    (k : ℕ) (q : Asked) → asked_at past k ≡ Some q → endpoint_of q.source ≡ endpoint_of r.source → id_at q.message ≡ id_at r.message
    → q.opening + 2 * keep ≤ r.opening

-- a source uses an instance ID again after twice the keeping time, no sooner
abbrev pub Apart : ℕ → List Happening → Type 0
Apart keep [] = Unit {0}
Apart keep (Opened r ∷ past) = ComesLate keep r past × Apart keep past
Apart keep (_ ∷ past) = Apart keep past

-- r's requester is the last at its endpoint: what the ones before it opened was opened twice the keeping time before r
abbrev pub ComesRested : ℕ → Asked → List Happening → Type 0
ComesRested keep r past =
    (k : ℕ) (q : Asked) → asked_at past k ≡ Some q → endpoint_of q.source ≡ endpoint_of r.source → q.source ≢ r.source
    → (q.source < r.source) × (q.opening + 2 * keep ≤ r.opening)

-- each requester that begins anew opens nothing before twice the keeping time has passed
abbrev pub AreRested : ℕ → List Happening → Type 0
AreRested keep [] = Unit {0}
AreRested keep (Opened r ∷ past) = ComesRested keep r past × AreRested keep past
AreRested keep (_ ∷ past) = AreRested keep past
