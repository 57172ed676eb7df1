-- Which requests are taken, by what was delivered to each: packets of its one reply, and busy answers. Steps and
-- deliveries have the newest first.
use Rattle.std.specs.Prelude.{ℕ, zero, suc, Bool, true, false, ◌&&◌, ◌||◌, not, ◌==◌, nat_lt, List, [], ◌∷◌, map, Option, Some, None, if◌then◌else◌}
use Rattle.mctp_packet.specs.Packets.{Packet}
use Rattle.mctp_packet.specs.Pieces.{packet_at, piece_count}
use Rattle.mctp_packet.specs.declared.packet.Route.{Route}
use Rattle.mctp_packet.specs.declared.reason.Reason.TheVariants.{BadTag, NotReady}
use Rattle.mctp_assembly.specs.Rows as assembly
use Rattle.mctp_assembly.specs.declared.fed.Fed.{Fed}
use Rattle.mctp_assembly.specs.declared.fed.Fed.TheVariants as fed
use Rattle.pldm_wire.specs.Responses.{code_at}
use Rattle.pldm_wire.specs.declared.assigned.TheConstants.{ERROR_NOT_READY}
use Rattle.pldm_responder.specs.Arrivals.{way_back}
use Rattle.pldm_responder.specs.Performing.{busy_reply}
use Rattle.pldm_requester.specs.Calls.{is_open_at}
use Rattle.pldm_requester.specs.declared.results.Got.{Got}
use Rattle.pldm_requester.specs.declared.results.Got.TheVariants as got
use Rattle.mctp_schedule.specs.Logs.{Asked, asked_at, message_at}
use Rattle.mctp_schedule.specs.OncePerformed.{the_reply, was_busy}
use Rattle.mctp_schedule.specs.Worlds.{BothEnds, World, requests_of, world}
use Rattle.mctp_schedule.specs.Actions.{Action}
use Rattle.mctp_schedule.specs.Actions.{Reply, Busy}
use Rattle.mctp_schedule.specs.Actions.{Step}

-- the last so many deliveries are packets 0, 1, .. in order; `None` is a busy answer
abbrev pub row : ℕ → List (Option ℕ) → Bool
row zero deliveries = true
row (suc n) [] = false
row (suc n) (None ∷ deliveries) = false
row (suc n) (Some j ∷ deliveries) = j == n && row n deliveries

-- a response that does not say that the device is not ready (DSP0240, "Generic PLDM completion codes")
abbrev pub is_ready : List ℕ → Bool
is_ready message = not (code_at message == ERROR_NOT_READY)

-- what a packet gives where it completes no answer that its request takes
abbrev pub got_by : Fed → Got
got_by (fed.Whole body) = got.Dropped NotReady
got_by fed.Partial = got.Partial
got_by (fed.Dropped reason) = got.Dropped reason

module _ {S : Type 0} (setting : BothEnds S) where
  -- the one reply of request k; no bytes where k has not arrived
  abbrev pub reply_of : World → ℕ → List ℕ
  reply_of world k = the_reply setting.device setting.keep setting.start world.log k

  -- how many packets it has
  abbrev pub part_count : World → ℕ → ℕ
  part_count world k = piece_count (reply_of world k)

  -- and that it has a packet j
  abbrev pub has_part : World → ℕ → ℕ → Bool
  has_part world k j = nat_lt j (part_count world k)

  abbrev pub with_delivery : World → ℕ → Action → List (Option ℕ) → List (Option ℕ)
  with_delivery world k (Reply j i) deliveries =
      if i == k && has_part world k j then Some j ∷ deliveries else deliveries
  with_delivery world k (Busy i) deliveries =
      if i == k && was_busy S setting.keep world.log k then None ∷ deliveries else deliveries
  with_delivery world k _ deliveries = deliveries

  -- the deliveries to request k that brought something: `Some j` for packet j of its reply, `None` for a busy answer
  abbrev pub replies : List Step → ℕ → List (Option ℕ)
  replies [] k = []
  replies (step ∷ past) k = with_delivery (world setting past) k step.action (replies past k)

  -- the way of the answers to a request
  abbrev pub way_to : Asked → Route
  way_to r = way_back setting.eid (message_at r.opening r)

  -- the packet that a delivery to request r brought, where this is its one reply
  abbrev pub brought : Asked → List ℕ → Option ℕ → Packet
  brought r reply (Some j) = packet_at (way_to r) reply j
  brought r reply None = packet_at (way_to r) (busy_reply r.message) 0

  -- the packets that were delivered to request k, which is r
  abbrev pub came : List Step → ℕ → Asked → List Packet
  came steps k r = map (brought r (reply_of (world setting steps) k)) (replies steps k)

  -- request r is open at its requester
  abbrev pub is_waiting : World → Asked → Bool
  is_waiting world r = is_open_at (requests_of setting world r.source) r.own

  abbrev pub completes_for : List Step → ℕ → ℕ → Option Asked → Bool
  completes_for past k j None = false
  completes_for past k j (Some r) =
      has_part (world setting past) k j
      && (is_waiting (world setting past) r
      && (row (part_count (world setting past) k) (Some j ∷ replies past k)
      && is_ready (reply_of (world setting past) k)))

  -- packet j of request k's reply completes it: k is open, with this one the last deliveries are all packets of the
  -- reply in order, and the reply is one that k takes
  abbrev pub completes : List Step → ℕ → ℕ → Bool
  completes past k j = completes_for past k j (asked_at (world setting past).log k)

  abbrev pub takes : List Step → ℕ → Action → Bool
  takes past k (Reply j i) = i == k && completes past k j
  takes past k _ = false

  -- request k was taken
  abbrev pub taken : List Step → ℕ → Bool
  taken [] k = false
  taken (step ∷ past) k = takes past k step.action || taken past k

  -- a packet of an answer finds its request open, or has a bad tag
  abbrev pub if_waiting : List Step → Asked → Got → Got
  if_waiting past r gives = if is_waiting (world setting past) r then gives else got.Dropped BadTag

  -- what assembly gives for packet j of its reply after the packets that were delivered to request k, which is r
  abbrev pub assembly_gives : List Step → ℕ → ℕ → Asked → Got
  assembly_gives past k j r =
      got_by (assembly.next (came past k r) (brought r (reply_of (world setting past) k) (Some j)))

  -- what packet j of its reply owes to request k, which is r: the answer where it completes k; else what assembly
  -- gives while k is open, and a bad tag where it is not
  abbrev pub part_expected : List Step → ℕ → ℕ → Asked → Got
  part_expected past k j r =
      if completes past k j then got.Answered r.own else if_waiting past r (assembly_gives past k j r)

  abbrev pub reply_expected_to : List Step → ℕ → ℕ → Option Asked → Option Got
  reply_expected_to past k j None = None
  reply_expected_to past k j (Some r) =
      if has_part (world setting past) k j then Some (part_expected past k j r) else None

  -- what the delivery of packet j of request k's reply owes: nothing where k was not opened or its reply has no such
  -- packet
  abbrev pub reply_expected : List Step → ℕ → ℕ → Option Got
  reply_expected past k j = reply_expected_to past k j (asked_at (world setting past).log k)

  abbrev pub busy_expected_to : List Step → ℕ → Option Asked → Option Got
  busy_expected_to past k None = None
  busy_expected_to past k (Some r) =
      if was_busy S setting.keep (world setting past).log k
      then Some (if_waiting past r (got.Dropped NotReady))
      else None

  -- what the delivery of a busy answer to request k owes
  abbrev pub busy_expected : List Step → ℕ → Option Got
  busy_expected past k = busy_expected_to past k (asked_at (world setting past).log k)
