-- What a step that hands over the packet of an answer finds: the request of that number, and the requester that opened
-- it.
use Rattle.std.proofs.Common.{◌≡◌, ℕ, Bool, true, List, Some, sym, ap, ◌∙◌}
use Rattle.std.specs.Prelude.{option_map, slice_get, slice_index_or}
use Rattle.mctp_schedule.specs.Askers.{Side}
use Rattle.mctp_schedule.specs.Entries.{as_it_stands}
use Rattle.mctp_schedule.specs.HeldRuns.{HeldRun}
use Rattle.mctp_schedule.specs.Journals.{packet_at}
use Rattle.mctp_schedule.specs.Logs.{Asked, asked_at}
use Rattle.mctp_schedule.specs.Places.{side_at}
use Rattle.mctp_schedule.specs.Requests.{Request}
use Rattle.mctp_schedule.specs.Running.{IsRunning, IsSide}
use Rattle.mctp_schedule.specs.Worlds.{BothEnds, World, time_now, world}
use Rattle.mctp_schedule.specs.Actions.{Step}
use Rattle.mctp_schedule.proofs.HandedAnswerPackets.{asked_of, delivered, written}
use Rattle.mctp_schedule.proofs.ListPlaces.{or_get}

-- the packet is of an answer to q; what is written down of q, and the place of its requester
pub record Found {S : Type 0} (setting : BothEnds S) (w : World) (busy : Bool) (k packet : ℕ) (bytes : List ℕ) (request : Request) (place : ℕ) : Type 0 where
  pub q : Asked
  pub is : asked_at w.log k ≡ Some q
  pub brings : delivered setting w busy k packet ≡ Some bytes
  pub request_is : request ≡ as_it_stands setting w q
  pub at : place ≡ q.source

module _ {P S : Type 0} (setting : BothEnds S) (past : List Step) (run : HeldRun P S) (running : IsRunning setting past run) (busy : Bool) (k packet : ℕ) (bytes : List ℕ) (request : Request) (place : ℕ) where
  abbrev pub finds : (busy ≡ true → packet ≡ 0) → Some bytes ≡ packet_at run.journal.entries packet busy (slice_get run.journal.traffic.items k)
      → request ≡ slice_index_or run.journal.requests.items k request → place ≡ request.asked.source
      → Found setting (world setting past) busy k packet bytes request place
  finds first sent read at =
      let w = world setting past in
      let brings = sym (written setting past run running busy k packet first) ∙ sym sent in
      let asked = asked_of setting w busy k packet bytes brings in
      let stands = read ∙ or_get run.journal.requests.items k request (as_it_stands setting w asked.0) (running.requests k ∙ ap (option_map (as_it_stands setting w)) asked.1) in
      record {
        q = asked.0;
        is = asked.1;
        brings = brings;
        request_is = stands;
        at = at ∙ ap (λ (x : Request). x.asked.source) stands;
      }

  -- its requester stands there
  abbrev pub its_side : (f : Found setting (world setting past) busy k packet bytes request place)
      → (side : Side) × (side_at run.places f.q.source ≡ Some side) × IsSide setting (world setting past) (time_now past) f.q.source side
  its_side f = running.sides f.q.source (running.opened k f.q f.is).source
