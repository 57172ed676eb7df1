-- The requester's half of the link: over a timely schedule each requester takes the one reply of its own request and
-- nothing else, exactly where the packets of that reply came in a row while the request was open.
use Rattle.std.specs.Prelude.{◌≡◌, ◌≢◌, ◌⊎◌, ℕ, ◌≤◌, true, false, List, slice_get, Some}
use Rattle.mctp_packet.specs.Ids.{IsEid}
use Rattle.mctp_assembly.specs.Histories as assembly
use Rattle.pldm_responder.specs.Performing.{reply}
use Rattle.pldm_requester.specs.Calls.{answer_key, assembled}
use Rattle.pldm_requester.specs.Courses.{Progress, Waiting, Answered, GaveUp}
use Rattle.pldm_requester.specs.Numbering.{tag_of}
use Rattle.mctp_schedule.specs.Logs.{Asked, Happening, asked_at, endpoint_of, AreRested}
use Rattle.mctp_schedule.specs.FirstArrivals.{first, order}
use Rattle.mctp_schedule.specs.OncePerformed.{RepliesFit, once}
use Rattle.mctp_schedule.specs.HandedPackets.{got_of_busy, got_of_reply}
use Rattle.mctp_schedule.specs.TakenReplies.{busy_expected, came, completes, is_waiting, reply_of, reply_expected, taken}
use Rattle.mctp_schedule.specs.Worlds.{IsTimely, IsTimelyAction, NeverWentBack, BothEnds, requests_of, timing_of, world}
use Rattle.mctp_schedule.specs.Actions.{Reply, Busy}
use Rattle.mctp_schedule.specs.Actions.{AreOfKinds, Step}

-- a pace that suits the device: the line's lifetime is no longer than the keeping time, and the window that the pace
-- counts is no smaller than the device's, or the pace goes by the keeping time alone
pub record SuitsDevice {S : Type 0} (setting : BothEnds S) : Type 0 where
  pub within : setting.pace.lifetime ≤ setting.keep
  pub window : (setting.window ≤ setting.pace.window) ⊎ (setting.pace.lifetime ≡ setting.keep)

-- the device and each requester that opened a request have endpoint IDs, not the same one, each request is of a PLDM type
-- that there is, and each reply that the device made fits packets; their pace suits the device, and one that begins anew
-- rests first
pub record IsSound {S : Type 0} (setting : BothEnds S) (steps : List Step) : Type 0 where
  pub device : IsEid setting.eid
  pub sources :
      (k : ℕ) (r : Asked) → asked_at (world setting steps).log k ≡ Some r
      → IsEid (endpoint_of r.source) × (endpoint_of r.source ≢ setting.eid)
  pub fit : RepliesFit setting.device setting.window setting.keep setting.start (world setting steps).log
  pub pace : SuitsDevice setting
  pub asks : AreOfKinds steps
  pub rested : AreRested setting.keep (world setting steps).log

-- a timely schedule of such requesters and such replies
pub record IsTimelySchedule {S : Type 0} (setting : BothEnds S) (steps : List Step) : Type 0 where
  pub order : NeverWentBack steps
  pub timely : IsTimely setting steps
  pub sound : IsSound setting steps

-- request k, which is r, arrived, and performing it then gave this reply; it stands once in the order of performing
pub record WasPerformedOnce {S : Type 0}
    (setting : BothEnds S) (steps : List Step) (k : ℕ) (r : Asked) (message : List ℕ) : Type 0 where
  pub place : List Happening
  pub arrived : first S setting.keep (world setting steps).log k ≡ Some place
  pub answer : message ≡ reply setting.device (once setting.device setting.keep setting.start place) r.message
  pub index : ℕ
  pub listed : slice_get (order S setting.window setting.keep (world setting steps).log) index ≡ Some k
  pub only : (i : ℕ) → slice_get (order S setting.window setting.keep (world setting steps).log) i ≡ Some k → i ≡ index

module _ {S : Type 0} (setting : BothEnds S) where
  -- what came to an open request are the packets that were delivered to it: of its one reply, and busy answers
  abbrev pub OwnDeliveries : Type 0
  OwnDeliveries =
      (steps : List Step) (k : ℕ) (r : Asked)
      → IsTimelySchedule setting steps → asked_at (world setting steps).log k ≡ Some r
      → is_waiting setting (world setting steps) r ≡ true
      → ((requests_of setting (world setting steps) r.source).each r.own).fed ≡ came setting steps k r

  -- so these are what came to assembly on its tag since its opening
  abbrev pub OwnAssembly : Type 0
  OwnAssembly =
      (steps : List Step) (k : ℕ) (r : Asked)
      → IsTimelySchedule setting steps → asked_at (world setting steps).log k ≡ Some r
      → is_waiting setting (world setting steps) r ≡ true
      → assembly.since (answer_key setting.eid (tag_of r.own))
      (assembled (endpoint_of r.source) setting.eid (timing_of setting r.source) setting.pace ((world setting steps).calls r.source))
      ≡ came setting steps k r

  -- what the packet of a reply gives at its requester is what the definitions owe to it
  abbrev pub ReplyIsExpected : Type 0
  ReplyIsExpected =
      (past : List Step) (moment k j : ℕ)
      → IsTimelySchedule setting past → IsTimelyAction setting (world setting past) moment (Reply j k)
      → got_of_reply setting (world setting past) k j ≡ reply_expected setting past k j

  -- and so is what that of a busy answer gives
  abbrev pub BusyIsExpected : Type 0
  BusyIsExpected =
      (past : List Step) (moment k : ℕ)
      → IsTimelySchedule setting past → IsTimelyAction setting (world setting past) moment (Busy k)
      → got_of_busy setting (world setting past) k ≡ busy_expected setting past k

  -- a request that was taken is answered, by its one reply; one that was not is open or given up
  abbrev pub ProgressIs : List Step → ℕ → Progress → Type 0
  ProgressIs steps k Waiting = taken setting steps k ≡ false
  ProgressIs steps k (Answered message) =
      (taken setting steps k ≡ true) × (message ≡ reply_of setting (world setting steps) k)
  ProgressIs steps k GaveUp = taken setting steps k ≡ false

  abbrev pub AnsweredWhereTaken : Type 0
  AnsweredWhereTaken =
      (steps : List Step) (k : ℕ) (r : Asked)
      → IsTimelySchedule setting steps → asked_at (world setting steps).log k ≡ Some r
      → ProgressIs steps k ((requests_of setting (world setting steps) r.source).each r.own).course.progress

  -- it is taken once: no later packet completes it
  abbrev pub TakenOnce : Type 0
  TakenOnce =
      (steps : List Step) (k j : ℕ)
      → IsTimelySchedule setting steps → taken setting steps k ≡ true → completes setting steps k j ≡ false

  -- so an answer that a requester took is the one reply of a request that was performed exactly once
  abbrev pub AnsweredWasPerformed : Type 0
  AnsweredWasPerformed =
      (steps : List Step) (k : ℕ) (r : Asked) (message : List ℕ)
      → IsTimelySchedule setting steps → asked_at (world setting steps).log k ≡ Some r
      → ((requests_of setting (world setting steps) r.source).each r.own).course.progress ≡ Answered message
      → WasPerformedOnce setting steps k r message
