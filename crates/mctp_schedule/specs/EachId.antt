-- The link where the device keeps an answer for each instance ID of a source, with no window: which logs and which
-- schedules are timely then. A window of all instance IDs is this.
use Rattle.std.specs.Prelude.{◌≡◌, ℕ, ◌+◌, ◌<◌, ◌&&◌, ◌==◌, List, [], ◌∷◌, Option, Some, None, if◌then◌else◌}
use Rattle.pldm_responder.specs.EachId as each_id
use Rattle.pldm_responder.specs.Performing.{Rules}
use Rattle.pldm_requester.specs.Calls as requester
use Rattle.mctp_schedule.specs.FirstArrivals.{arrives_at}
use Rattle.mctp_schedule.specs.Logs.{Asked, Happening, Delivered, Sensed, WentDown, Apart, InOrder, asked_at, message_at, reached}
use Rattle.mctp_schedule.specs.Worlds.{BothEnds, World, TagIsOwn, busy_packet, handed, log_opened, packet_of, source_of, with_call}
use Rattle.mctp_schedule.specs.Actions.{Action}
use Rattle.mctp_schedule.specs.Actions.{Open, Tick, Request, Reply, Sense, Restart, Busy}
use Rattle.mctp_schedule.specs.Actions.{Step}

-- each request is delivered less than the keeping time after it was opened
abbrev pub InTime : ℕ → List Happening → Type 0
InTime keep [] = Unit {0}
InTime keep (Delivered moment k ∷ past) =
    ((r : Asked) → asked_at past k ≡ Some r → moment < r.opening + keep) × InTime keep past
InTime keep (_ ∷ past) = InTime keep past

-- moments never go back, instance IDs are used again after twice the keeping time, and deliveries come in time
pub record IsTimelyLog (keep : ℕ) (log : List Happening) : Type 0 where
  pub order : InOrder log
  pub apart : Apart keep log
  pub in_time : InTime keep log

module _ {S : Type 0} (device : Rules S) (keep : ℕ) (start : S) where
  abbrev pub answered_to : ℕ → List Happening → Option Asked → List ℕ
  answered_to moment past None = []
  answered_to moment past (Some r) = each_id.answered device keep start (reached past) (message_at moment r)

  -- the latest reply that the responder gave to request k, busy answers aside; `None` where it gave none yet
  abbrev pub given : List Happening → ℕ → Option (List ℕ)
  given [] k = None
  given (Delivered moment j ∷ past) k =
      if j == k && arrives_at S keep past moment k
      then Some (answered_to moment past (asked_at past k))
      else given past k
  given (_ ∷ past) k = given past k

-- both ends; of the setting all counts but its window
module _ {S : Type 0} (setting : BothEnds S) where
  -- packet j of the latest reply that the device gave to request k, busy answers aside; `None` where there is none
  abbrev pub reply_packet : World → ℕ → ℕ → Option (List ℕ)
  reply_packet world k j =
      packet_of setting (asked_at world.log k) (given setting.device setting.keep setting.start world.log k) j

  -- what a step makes of the world
  abbrev pub done : World → ℕ → Action → World
  done world moment (Open e ask) =
      let opens = requester.OpenRequest moment ask in
      record { calls = with_call world.calls e opens; log = log_opened setting world moment e ask }
  done world moment (Tick e) = record { calls = with_call world.calls e (requester.Tick moment); log = world.log }
  done world moment (Request k) = record { calls = world.calls; log = Delivered moment k ∷ world.log }
  done world moment (Reply j k) =
      handed setting world moment (source_of (asked_at world.log k)) (reply_packet world k j)
  done world moment (Sense id value) = record { calls = world.calls; log = Sensed moment id value ∷ world.log }
  done world moment Restart = record { calls = world.calls; log = WentDown moment ∷ world.log }
  done world moment (Busy k) =
      handed setting world moment (source_of (asked_at world.log k)) (busy_packet setting world k)

  -- the world after these steps
  abbrev pub world : List Step → World
  world [] = record { calls = λ e. []; log = [] }
  world (step ∷ past) = done (world past) step.moment step.action

  -- a request comes less than the lifetime after it was opened, and a packet of an answer while its tag was not
  -- used again
  abbrev pub IsTimelyAction : World → ℕ → Action → Type 0
  IsTimelyAction world moment (Request k) =
      (r : Asked) → asked_at world.log k ≡ Some r → moment < r.opening + setting.pace.lifetime
  IsTimelyAction world moment (Reply j k) =
      (bytes : List ℕ) → reply_packet world k j ≡ Some bytes → TagIsOwn setting world k
  IsTimelyAction world moment (Busy k) =
      (bytes : List ℕ) → busy_packet setting world k ≡ Some bytes → TagIsOwn setting world k
  IsTimelyAction world moment (Open e ask) = Unit {0}
  IsTimelyAction world moment (Tick e) = Unit {0}
  IsTimelyAction world moment (Sense id value) = Unit {0}
  IsTimelyAction world moment Restart = Unit {0}

  -- each step is, in the world that it comes to
  abbrev pub IsTimely : List Step → Type 0
  IsTimely [] = Unit {0}
  IsTimely (step ∷ past) = IsTimelyAction (world past) step.moment step.action × IsTimely past
