-- The answers that are kept to one source, by an order of instance IDs over slots.
use Rattle.std.specs.Prelude.{◌≡◌, ◌≤◌, ℕ, List, [], ◌∷◌, length, map, slice_index_or, Option}
use Rattle.pldm_wire.specs.Settings.{IsWindow}
use Rattle.pldm_responder.specs.ResponderStates.{Entry, id_in}
use Rattle.pldm_responder.specs.Orders.{AreInOrder, IsTable, id_of, newest_first}
use Rattle.pldm_responder.specs.Recency.{AllBelow}
use Rattle.pldm_responder.specs.SlotBytes.{no_entry}
use Rattle.pldm_responder.specs.declared.order.Indexed.{Indexed}

-- the answer in the slot of an instance ID
abbrev pub in_slot : List Entry → Indexed → Entry
in_slot slots indexed = slice_index_or slots indexed.slot no_entry

-- the answers, the newest first
abbrev pub kept_by : List Entry → List Indexed → List Entry
kept_by slots newest = map (in_slot slots) newest

-- the slot of each instance ID holds an answer for it
abbrev pub AllKept : List Entry → List Indexed → Type 0
AllKept slots [] = Unit {0}
AllKept slots (indexed ∷ rest) = (id_in (in_slot slots indexed) ≡ indexed.id) × AllKept slots rest

-- the order of the instance IDs over as many slots, and the room that the slots have
pub record AreLatest
    (limit : ℕ) (by_id : List (Option ℕ)) (slots : List Entry) (order : List Indexed) (for_slots : ℕ) : Type 0 where
  pub window : IsWindow limit
  pub used : length slots ≡ length order
  pub few : length order ≤ limit
  pub ordered : AreInOrder order
  pub kept : AllKept slots (newest_first order)
  pub table : IsTable by_id order
  pub small : AllBelow id_of 32 order
  pub rooms : limit ≤ for_slots
