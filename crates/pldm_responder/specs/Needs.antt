-- What of all that reaches a responder needs memory.
use Rattle.std.specs.Prelude.{◌≡◌, ℕ, Bool, true, List, [], Result, Ok, Err}
use Rattle.mctp_packet.specs.Packets.{Packet}
use Rattle.mctp_packet.specs.declared.reason.Reason.{Reason}
use Rattle.mctp_assembly.specs.Steps as assembly
use Rattle.pldm_responder.specs.Arrivals.{Arrival, Drop, Part, Whole, passed_arrival, request_packet}
use Rattle.pldm_responder.specs.ResponderStates.{ResponderState}
use Rattle.pldm_responder.specs.Steps.{performs}

module _ {S : Type 0} (held : ResponderState S) (steady : Bool) where
  -- no answer is kept for this source
  abbrev pub KeepsNone : ℕ → Type 0
  KeepsNone source = held.kept source ≡ []

  -- `start` is SOM. A start packet that gives Partial needs memory, and a fresh message of whose source no answer is
  -- kept or, over a platform that is not steady, any fresh one
  abbrev pub ArrivalNeeds : Bool → Arrival → Type 0
  ArrivalNeeds start (Drop reason) = ⊥
  ArrivalNeeds start Part = start ≡ true
  ArrivalNeeds start (Whole m) = (performs held m ≡ true) × (steady ≡ true → KeepsNone m.source)

  -- what a packet that passed needs, and one that did not
  abbrev pub PassedNeeds : ℕ → Result Packet Reason → Type 0
  PassedNeeds moment (Ok p) =
      ArrivalNeeds p.start (passed_arrival (assembly.answer held.open_messages) moment (Ok p))
  PassedNeeds moment (Err reason) = ⊥

  -- bytes that are received at a moment need memory
  abbrev pub NeedsMemory : ℕ → List ℕ → Type 0
  NeedsMemory moment bytes = PassedNeeds moment (request_packet held.own bytes)
