-- Which slot each of the latest instance IDs of a source has.
use Rattle.std.specs.Prelude.{◌≡◌, ◌+◌, ◌<◌, ◌≤◌, ◌==◌, ℕ, List, [], ◌∷◌, length, map, max, nat_lt, reverse, slice_index_or, take, option_map, Option, Some, None, if◌then◌else◌}
use Rattle.pldm_wire.specs.Settings.{IsWindow}
use Rattle.pldm_responder.specs.Recency.{of_number, renewed, IsApart, AllBelow}
use Rattle.pldm_responder.specs.declared.order.Indexed.{Indexed}

abbrev pub id_of : Indexed → ℕ
id_of indexed = indexed.id

abbrev pub slot_in : Indexed → ℕ
slot_in indexed = indexed.slot

-- they are stored the oldest first
abbrev pub newest_first : List Indexed → List Indexed
newest_first order = reverse order

-- the slot of the last of these, the oldest
abbrev pub last_slot : List Indexed → ℕ
last_slot [] = 0
last_slot (indexed ∷ []) = indexed.slot
last_slot (indexed ∷ next ∷ rest) = last_slot (next ∷ rest)

abbrev pub slot_or : Option Indexed → ℕ → ℕ
slot_or None other = other
slot_or (Some indexed) other = indexed.slot

-- the slot that an instance ID has or gets: its own, else the next one that no ID has, else that of the oldest
abbrev pub slot_for : ℕ → ℕ → List Indexed → ℕ
slot_for window id newest =
    slot_or (of_number id_of id newest) (if nat_lt (length newest) window then length newest else last_slot newest)

-- no two have one instance ID, and no two have one slot, of those below their number
pub record AreInOrder (order : List Indexed) : Type 0 where
  pub ids : IsApart id_of order
  pub slots : IsApart slot_in order
  pub below : AllBelow slot_in (length order) order

-- ---- the table of slots
-- a slot by its number; 32 stands for none
abbrev pub numbered_slot : ℕ → Option ℕ
numbered_slot n = if n == 32 then None else Some n

abbrev pub numbered_slots : List ℕ → List (Option ℕ)
numbered_slots slots = map numbered_slot slots

-- by instance ID, the slot of each that has one
pub record IsTable (by_id : List (Option ℕ)) (order : List Indexed) : Type 0 where
  pub slots : (id : ℕ) → id < 32 → slice_index_or by_id id None ≡ option_map slot_in (of_number id_of id order)
  pub all : length by_id ≡ 32

-- the table of an order, of instance IDs below 32
pub record IsTabled (by_id : List (Option ℕ)) (order : List Indexed) : Type 0 where
  pub table : IsTable by_id order
  pub small : AllBelow id_of 32 order

-- the order of a row with this window, and the table of its slots
pub record IsOrderOf (window : ℕ) (by_id : List (Option ℕ)) (order : List Indexed) : Type 0 where
  pub window_is : IsWindow window
  pub order_is : AreInOrder order
  pub tabled : IsTabled by_id order
  pub few : length order ≤ window

-- the slot was in use before, or is the next one and in use now
pub record TakesSlot (old new : List Indexed) (slot : ℕ) : Type 0 where
  pub next : slot ≤ length old
  pub used : length new ≡ max (length old) (slot + 1)

-- an instance ID was put in front of the others, with this slot
pub record IsRenewed (window id : ℕ) (old new : List Indexed) (slot : ℕ) : Type 0 where
  pub order : newest_first new ≡ take window (renewed id_of (record { id = id; slot = slot }) (newest_first old))
  pub slot_is : slot ≡ slot_for window id (newest_first old)
