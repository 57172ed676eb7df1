-- How a row stores its answers: each in its slot, or where its messages are long, at the slot's place among the long
-- ones of the row. The bytes of the message that came stand first, and behind them those of the one that answered it.
use Rattle.std.specs.Prelude.{◌≡◌, ◌≢◌, ℕ, ◌+◌, ◌<◌, ◌≤◌, ◌⊎◌, nat_lt, List, [], ◌∷◌, ◌++◌, length, take, drop, map, replicate, count_by, slice_index_or, Option, Some, None, is_some, IsSome, IfSome, if◌then◌else◌, refl}
use Rattle.std.specs.Coded.{Coded, code_by, coded×, coded_ℕ, coded_list}
use Rattle.mctp_packet.specs.declared.TheConstants.{MAX_MESSAGE_BYTES}
use Rattle.pldm_wire.specs.declared.assigned.TheConstants.{INSTANCE_IDS}
use Rattle.pldm_responder.specs.ResponderStates.{Entry}
use Rattle.pldm_responder.specs.Slots.{coded_entry}
use Rattle.pldm_responder.specs.declared.slots.Slot.{Slot}
use Rattle.pldm_responder.specs.declared.slots.TheConstants.{MAX_BYTES, SLOT_BYTES}

-- what contracts see of the slots: for how many there is room, and what each that is in use holds
pub record Stored : Type 0 where
  pub room : ℕ
  pub entries : List Entry

-- they are stored as their parts
abbrev pub coded_stored : Coded Stored
coded_stored =
    code_by (ℕ × List Entry) (coded× coded_ℕ (coded_list coded_entry)) (λ s. (s.room, s.entries))
    (λ c. record { room = c.0; entries = c.1 }) (λ _. refl)

-- what an empty slot holds
abbrev pub no_entry : Entry
no_entry = record { moment = 0; bytes = []; answer = [] }

abbrev pub empty_slot : Slot
empty_slot = record { moment = 0; asked = 0; both = 0; place = None; bytes = replicate SLOT_BYTES 0 }

-- the bytes at a place
abbrev pub bytes_at : List (List ℕ) → Option ℕ → List ℕ
bytes_at long None = []
bytes_at long (Some place) = slice_index_or long place []

-- the message has `asked` of these bytes, and it and the one that answered it have `both`
abbrev pub entry_by : ℕ → ℕ → ℕ → List ℕ → Entry
entry_by moment asked both bytes =
    record { moment = moment; bytes = take asked (take both bytes); answer = drop asked (take both bytes) }

-- what a slot holds
abbrev pub stored : List (List ℕ) → Slot → Entry
stored long slot =
    entry_by slot.moment slot.asked slot.both
    (if nat_lt SLOT_BYTES slot.both then bytes_at long slot.place else slot.bytes)

abbrev pub entries_in : List (List ℕ) → List Slot → List Entry
entries_in long slots = map (stored long) slots

-- the place that a slot has or gets, as the next of so many, and the long messages with it
abbrev pub place_in : Option ℕ → ℕ → ℕ
place_in None places = places
place_in (Some place) places = place

abbrev pub with_place : Option ℕ → List (List ℕ) → List (List ℕ)
with_place None long = long ++ replicate MAX_BYTES 0 ∷ []
with_place (Some place) long = long

-- a slot that stays with its place, or gets the next one
abbrev pub IsPlaced : Option ℕ → Option ℕ → ℕ → ℕ → Type 0
IsPlaced old new places after =
    ((new ≡ old) × (after ≡ places)) ⊎ ((old ≡ None) × ((new ≡ Some places) × (after ≡ places + 1)))

-- a slot of a row with so many places
pub record IsStored (slot : Slot) (places : ℕ) : Type 0 where
  pub request : slot.asked ≤ MAX_MESSAGE_BYTES
  pub some : slot.asked ≤ slot.both
  pub answer : slot.both ≤ slot.asked + MAX_MESSAGE_BYTES
  pub long : SLOT_BYTES < slot.both → IsSome slot.place
  pub place : IfSome slot.place (λ place. place < places)

-- a slot of a row with these long messages, and the room for one more where it has no place among them
pub record MayBeFilled (slot : Slot) (long : List (List ℕ)) (room : ℕ) : Type 0 where
  pub stored_is : IsStored slot (length long)
  pub places : length long ≤ INSTANCE_IDS
  pub room_is : slot.place ≡ None → length long < room

-- the slot holds this entry now, and the long messages of the other slots are as before
pub record IsFilledWith (entry : Entry) (old new : Slot) (long_old long_new : List (List ℕ)) : Type 0 where
  pub held : stored long_new new ≡ entry
  pub stored_is : IsStored new (length long_new)
  pub place : IsPlaced old.place new.place (length long_old) (length long_new)
  pub others : (q : ℕ) → q < length long_old → old.place ≢ Some q
      → slice_index_or long_new q [] ≡ slice_index_or long_old q []

abbrev pub slot_at : List Slot → ℕ → Slot
slot_at slots i = slice_index_or slots i empty_slot

-- the slots of a row: no two have one place, and there is room for a place for each
pub record AreStored (slots : List Slot) (long : List (List ℕ)) (for_slots for_long : ℕ) : Type 0 where
  pub few : length slots ≤ INSTANCE_IDS
  pub each : (i : ℕ) → IsStored (slot_at slots i) (length long)
  pub apart : (a b : ℕ) → IsSome (slot_at slots a).place → (slot_at slots a).place ≡ (slot_at slots b).place → a ≡ b
  pub places : count_by (λ slot. is_some slot.place) slots ≡ length long
  pub within : length slots ≤ for_slots
  pub room : for_slots ≤ for_long
