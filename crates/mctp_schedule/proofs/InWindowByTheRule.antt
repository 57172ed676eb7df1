-- A request that has arrived is in the window where fewer others had a first arrival since.
use Rattle.std.proofs.Common.{◌≡◌, ℕ, Bool, true, false, List, [], ◌∷◌, length, Option, Some, None, refl, ap, ◌∙◌}
use Rattle.std.specs.Prelude.{◌&&◌, ◌==◌, is_some, nat_lt, take, if◌then◌else◌}
use Rattle.pldm_wire.specs.Headers.{id_at}
use Rattle.mctp_schedule.specs.FirstArrivals.{is_first}
use Rattle.mctp_schedule.specs.Logs.{Asked, Happening, Opened, Delivered, Sensed, WentDown, asked_at, endpoint_of}
use Rattle.pldm_responder.specs.Recency.{of_number, renewed}
use Rattle.pldm_responder.proofs.CopiesByTheRule.{found_where, in_front, in_front_renewed}
use Rattle.mctp_schedule.specs.InWindow.{InWindowByTheRule, others_arrived, with_other}
use Rattle.mctp_schedule.specs.Timely.{ids_arrived, with_first}
use Rattle.mctp_schedule.proofs.AllIdsInTime.{arrived_in}
use Rattle.mctp_schedule.proofs.IdsArrived.{any_is_found}

front_if : (b : Bool) (n m : ℕ) (ids : List ℕ) → in_front (λ i. i) n (if b then renewed (λ i. i) m ids else ids) ≡ (if b then (if m == n then [] else renewed (λ i. i) m (in_front (λ i. i) n ids)) else in_front (λ i. i) n ids)
front_if true n m ids = in_front_renewed (λ i. i) n m ids
front_if false n m ids = refl

module _ (S : Type 0) (keep : ℕ) where
  others_are : (log : List Happening) (source id : ℕ) → in_front (λ i. i) id (ids_arrived S keep log source) ≡ others_arrived S keep log source id
  others_are [] source id = refl
  others_are (Opened _ ∷ past) source id = others_are past source id
  others_are (Sensed _ _ _ ∷ past) source id = others_are past source id
  others_are (WentDown _ ∷ past) source id = others_are past source id
  others_are (Delivered t k ∷ past) source id = go (asked_at past k) (others_are past source id)
    where
      go : (o : Option Asked) → in_front (λ i. i) id (ids_arrived S keep past source) ≡ others_arrived S keep past source id → in_front (λ i. i) id (with_first (is_first S keep past t k) o source (ids_arrived S keep past source)) ≡ with_other (is_first S keep past t k) o source id (others_arrived S keep past source id)
      go None before = before
      go (Some r) before =
          front_if (endpoint_of r.source == source && is_first S keep past t k) id (id_at r.message) (ids_arrived S keep past source)
          ∙ ap (λ others. if endpoint_of r.source == source && is_first S keep past t k then (if id_at r.message == id then [] else renewed (λ i. i) (id_at r.message) others) else others) before

some_if : (b : Bool) (o : Option ℕ) → is_some o ≡ true → is_some (if b then o else None) ≡ b
some_if true o is = is
some_if false o is = refl

pub in_window_by_the_rule : (S : Type 0) → InWindowByTheRule S
in_window_by_the_rule S window keep past k r e came =
    let ids = ids_arrived S keep past (endpoint_of r.source) in
    let id = id_at r.message in
    any_is_found (λ i. i == id) (take window ids)
    ∙ ap is_some (found_where (λ i. i) window id ids)
    ∙ some_if (nat_lt (length (in_front (λ i. i) id ids)) window) (of_number (λ i. i) id ids) (arrived_in S keep past k r e came)
    ∙ ap (λ others. nat_lt (length others) window) (others_are S keep past (endpoint_of r.source) id)
