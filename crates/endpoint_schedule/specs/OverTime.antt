-- What holds of both ends where the device answers in its own time: the headline for such a device.
use Rattle.std.specs.Prelude.{◌≡◌, ◌≢◌, ℕ, Bool, true, false, ◌&&◌, List, [], ◌∷◌, ◌++◌, Option, Some, None, slice_get, if◌then◌else◌}
use Rattle.mctp_packet.specs.Ids.{IsEid}
use Rattle.pldm_endpoint.specs.TwoSteps.{EndpointView, unasked}
use Rattle.pldm_requester.specs.Courses.{Answered}
use Rattle.pldm_responder.specs.Asked.{Given, gives}
use Rattle.pldm_responder.specs.Performing.{Task, reply, tasks_of}
use Rattle.pldm_responder.specs.declared.bounds.Bounds.{Bounds}
use Rattle.pldm_responder.specs.declared.responder_settings.ResponderSettings.{ResponderSettings}
use Rattle.pldm_wire.specs.HandingOn.{hands_on}
use Rattle.pldm_wire.specs.declared.pass_through.PassThrough.{PassThrough}
use Rattle.mctp_schedule.specs.FirstArrivals.{has_arrived, is_first}
use Rattle.mctp_schedule.specs.Logs.{Asked, Happening, Delivered, AreRested, asked_at, endpoint_of}
use Rattle.mctp_schedule.specs.OncePerformed.{FitsPackets}
use Rattle.mctp_schedule.specs.Actions.{Step}
use Rattle.mctp_schedule.specs.RequesterHalf.{IsTimelySchedule, SuitsDevice}
use Rattle.mctp_schedule.specs.Worlds.{answer_packets, requests_of, world}
use Rattle.endpoint_schedule.specs.Links.{AreInTime, IsFirst, IsRun, Link, LinkSettings, LinkStep, NeverGoesBack, link, over_time}

-- the message that answers these bytes where the device gives this; these requests are handed on as bytes
abbrev pub reply_of : PassThrough → Given → List ℕ → List ℕ
reply_of handed given bytes = reply (gives (hands_on handed) given) tt bytes

abbrev pub is_some_task : List Task → Bool
is_some_task [] = false
is_some_task (task ∷ tasks) = true

-- the request of these bytes asks something of the device: it is handed on, or its command is not refused by its code
abbrev pub asks_device : PassThrough → List ℕ → Bool
asks_device handed bytes = is_some_task (tasks_of (hands_on handed) bytes)

abbrev pub asks_by : PassThrough → Option Asked → Bool
asks_by handed None = false
asks_by handed (Some r) = asks_device handed r.message

abbrev pub asks_at : PassThrough → List Happening → ℕ → Bool
asks_at handed log k = asks_by handed (asked_at log k)

-- the requests that arrived, each at its first arrival, the oldest first, but for those that are refused by their code
abbrev pub to_hand_out : PassThrough → ℕ → List Happening → List ℕ
to_hand_out handed keep [] = []
to_hand_out handed keep (Delivered moment k ∷ past) =
    if is_first ℕ keep past moment k && asks_at handed past k
    then to_hand_out handed keep past ++ k ∷ []
    else to_hand_out handed keep past
to_hand_out handed keep (_ ∷ past) = to_hand_out handed keep past

-- this is the one message for request k, which is r: made of what the device gives for the number as which it was
-- handed out, or of the code that refuses it
pub record IsItsAnswer
    (handed : PassThrough) (answers : ℕ → Given) (l : Link) (k : ℕ) (r : Asked) (message : List ℕ)
    : Type 0 where
  pub given : (n : ℕ) → slice_get l.handed_out n ≡ Some k → message ≡ reply_of handed (answers n) r.message
  pub refused : asks_device handed r.message ≡ false → message ≡ reply_of handed unasked r.message

module _ (settings : LinkSettings) (answers : ℕ → Given) where
  -- the device's end and each requester that opened a request have endpoint IDs, not the same one; what the device
  -- gives fits packets; the requesters' pace suits the device's end, and one that begins anew rests first
  pub record IsSoundLink (l : Link) : Type 0 where
    pub device : IsEid settings.eid
    pub sources :
        (k : ℕ) (r : Asked) → asked_at l.world.log k ≡ Some r
        → IsEid (endpoint_of r.source) × (endpoint_of r.source ≢ settings.eid)
    pub fit :
        (n k : ℕ) (r : Asked) → slice_get l.handed_out n ≡ Some k → asked_at l.world.log k ≡ Some r
        → FitsPackets (reply_of settings.handed_on (answers n) r.message)
    pub pace : SuitsDevice (over_time settings answers)
    pub rested : AreRested settings.keep l.world.log

  pub record IsTimelyLink (first : EndpointView) (steps : List LinkStep) : Type 0 where
    pub run : IsRun settings answers first steps
    pub order : NeverGoesBack steps
    pub in_time : AreInTime settings answers first steps
    pub sound : IsSoundLink (link settings answers first steps)

  pub record HoldsOverTime (l : Link) : Type 0 where
    -- handed out are the requests that arrived, in order, each at its first arrival, but for those that are refused by
    -- their code; and none of them twice
    pub handed_out : l.handed_out ≡ to_hand_out settings.handed_on settings.keep l.world.log
    pub once : (i n k : ℕ) → slice_get l.handed_out i ≡ Some k → slice_get l.handed_out n ≡ Some k → i ≡ n
    -- whatever goes out to a request is its one message, 'not ready' aside
    pub sent :
        (k : ℕ) (r : Asked) (packets : List (List ℕ)) → asked_at l.world.log k ≡ Some r → l.sent k ≡ Some packets
        → (message : List ℕ) × (packets ≡ answer_packets settings.eid r message)
        × IsItsAnswer settings.handed_on answers l k r message
    -- an answer that a requester took is the one message of that very request, which has arrived
    pub taken :
        (k : ℕ) (r : Asked) (message : List ℕ) → asked_at l.world.log k ≡ Some r
        → ((requests_of (over_time settings answers) l.world r.source).each r.own).course.progress ≡ Answered message
        → (has_arrived ℕ settings.keep l.world.log k ≡ true) × IsItsAnswer settings.handed_on answers l k r message

abbrev pub BothEndsOverTime : Type 0
BothEndsOverTime =
    (settings : LinkSettings) (answers : ℕ → Given) (keeping : ResponderSettings) (limits : Bounds) (most : ℕ)
    (first : EndpointView) (steps : List LinkStep)
    → IsFirst settings keeping limits most first
    → IsTimelyLink settings answers first steps
    → HoldsOverTime settings answers (link settings answers first steps)

-- what the requesters did in a timely run, and what happened on the link, is that of a timely schedule of them and of a
-- device that answers at once, with what this device gives for each number
abbrev pub LinksAreSchedules : Type 0
LinksAreSchedules =
    (settings : LinkSettings) (answers : ℕ → Given) (keeping : ResponderSettings) (limits : Bounds) (most : ℕ)
    (first : EndpointView) (steps : List LinkStep)
    → IsFirst settings keeping limits most first
    → IsTimelyLink settings answers first steps
    → (scheduled : List Step)
    × ((link settings answers first steps).world ≡ world (over_time settings answers) scheduled)
    × IsTimelySchedule (over_time settings answers) scheduled
