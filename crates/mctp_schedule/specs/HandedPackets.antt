-- What a requester makes of the packet of an answer that a step hands to it; no packet gives nothing.
use Rattle.std.specs.Prelude.{ℕ, List, Option, Some, None}
use Rattle.pldm_requester.specs.Calls.{got_expected}
use Rattle.pldm_requester.specs.declared.results.Got.{Got}
use Rattle.mctp_schedule.specs.Logs.{asked_at, endpoint_of}
use Rattle.mctp_schedule.specs.Worlds.{BothEnds, World, busy_packet, reply_packet, source_of, timing_of}

module _ {S : Type 0} (setting : BothEnds S) where
  abbrev pub got_from : World → ℕ → Option (List ℕ) → Option Got
  got_from world e None = None
  got_from world e (Some bytes) = Some (got_expected (endpoint_of e) setting.eid (timing_of setting e) setting.pace (world.calls e) bytes)

  -- what packet j of the latest reply to request k gives, and what the latest busy answer to it does
  abbrev pub got_of_reply : World → ℕ → ℕ → Option Got
  got_of_reply world k j =
      got_from world (source_of (asked_at world.log k)) (reply_packet setting world k j)

  abbrev pub got_of_busy : World → ℕ → Option Got
  got_of_busy world k = got_from world (source_of (asked_at world.log k)) (busy_packet setting world k)
