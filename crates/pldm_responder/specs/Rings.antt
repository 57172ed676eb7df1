-- A ring of links between slots. The place after the last slot, 32, stands for both ends.
use Rattle.std.specs.Prelude.{◌≡◌, ℕ, zero, suc, List, [], ◌∷◌, map, slice_index, refl}
use Rattle.std.specs.Coded.{Coded, code_by, coded×, coded_ℕ}
use Rattle.pldm_responder.specs.Recency.{IsApart, AllBelow}
use Rattle.pldm_responder.specs.declared.order.Indexed.{Indexed}

abbrev pub itself : ℕ → ℕ
itself slot = slot

-- so many places after this one, each by the link of the one before
abbrev pub places_after : List ℕ → ℕ → ℕ → List ℕ
places_after next place zero = []
places_after next place (suc more) = slice_index next place ∷ places_after next (slice_index next place) more

-- a slot with its instance ID
abbrev pub with_id : List ℕ → ℕ → Indexed
with_id ids slot = record { id = slice_index ids slot; slot = slot }

-- the slots in use with their instance IDs, the oldest first
abbrev pub order_of : List ℕ → List ℕ → ℕ → List Indexed
order_of ids next count = map (with_id ids) (places_after next 32 count)

-- links lead from one place through these slots to another, and back
abbrev pub AreLinked : List ℕ → List ℕ → ℕ → List ℕ → ℕ → Type 0
AreLinked next previous from [] to = (slice_index next from ≡ to) × (slice_index previous to ≡ from)
AreLinked next previous from (slot ∷ rest) to =
    (slice_index next from ≡ slot) × (slice_index previous slot ≡ from) × AreLinked next previous slot rest to

-- links from the end through these slots, no two of them the same, to the end
pub record IsRing (next previous slots : List ℕ) : Type 0 where
  pub links : AreLinked next previous 32 slots 32
  pub apart : IsApart itself slots
  pub below : AllBelow itself 32 slots

-- they are stored as their parts
abbrev pub coded_indexed : Coded Indexed
coded_indexed =
    code_by (ℕ × ℕ) (coded× coded_ℕ coded_ℕ) (λ i. (i.id, i.slot)) (λ c. record { id = c.0; slot = c.1 }) (λ _. refl)
