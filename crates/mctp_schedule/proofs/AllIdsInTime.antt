-- With a window of all instance IDs a delivery that comes soon enough is in the window.
use Rattle.std.proofs.Common.{◌≡◌, ℕ, ◌≤◌, List, [], ◌∷◌, Some, None, Option, Bool, true, false, refl, sym, ap, ◌∙◌, subst, ⊎_elim, arith, eqb-true, eq-eqb}
use Rattle.std.specs.Prelude.{◌&&◌, ◌==◌, is_some}
use Rattle.std.specs.List.{list_any}
use Rattle.std.proofs.lemmas.Bool.{cases_Bool, and_from, and_parts, cond_both, cond-true}
use Rattle.pldm_wire.specs.Headers.{id_at}
use Rattle.pldm_wire.specs.declared.assigned.TheConstants.{INSTANCE_IDS}
use Rattle.pldm_responder.specs.Events.{is_busy}
use Rattle.mctp_schedule.specs.FirstArrivals.{arrives, earlier, first, has_arrived, is_first}
use Rattle.mctp_schedule.specs.EachId as each_id
use Rattle.mctp_schedule.specs.Logs.{Asked, Happening, Opened, Delivered, Sensed, WentDown, asked_at, reached, endpoint_of}
use Rattle.mctp_schedule.proofs.FirstPerformed.{first_below, is_first_of, request_older}
use Rattle.mctp_schedule.proofs.ApartByTime.{apart_by_time, apart_in_time}
use Rattle.mctp_schedule.proofs.IdsArrived.{any_is_found, ids_apart}
use Rattle.pldm_responder.specs.Recency.{of_number, renewed}
use Rattle.pldm_responder.proofs.NoIdFallsOut.{id_is_small}
use Rattle.pldm_responder.proofs.RecentFirst.{Below, no_more, renewed_below, renewed_finds, renewed_keeps, take_all}
use Rattle.mctp_schedule.specs.Laws.{AllIdsAreInTime}
use Rattle.mctp_schedule.specs.Timely.{InTime, ids_arrived, is_in_window, with_first}

-- a number is in a list
abbrev In : ℕ → List ℕ → Type 0
In n ids = is_some (of_number (λ i. i) n ids) ≡ true

-- what is in the list stays in it
stays_in : (n m : ℕ) (ids : List ℕ) → In n ids → In n (renewed (λ i. i) m ids)
stays_in n m ids is = ⊎_elim
    (λ (same : (m == n) ≡ true). subst (λ k. In k (renewed (λ i. i) m ids)) (eqb-true m n same) (ap is_some (renewed_finds (λ i. i) m ids)))
    (λ (other : (m == n) ≡ false). ap is_some (renewed_keeps (λ i. i) m ids n other) ∙ is)
    (cases_Bool (m == n))

still_in : (n : ℕ) (is_the_first : Bool) (o : Option Asked) (source : ℕ) (ids : List ℕ) → In n ids → In n (with_first is_the_first o source ids)
still_in n is_the_first None source ids is = is
still_in n is_the_first (Some r) source ids is =
    cond_both (endpoint_of r.source == source && is_the_first) (renewed (λ i. i) (id_at r.message) ids) ids (In n)
    (λ _. stays_in n (id_at r.message) ids is) (λ _. is)

comes_in : (r : Asked) (ids : List ℕ) → In (id_at r.message) (with_first true (Some r) (endpoint_of r.source) ids)
comes_in r ids =
    ap (λ l. is_some (of_number (λ i. i) (id_at r.message) l)) (cond-true (endpoint_of r.source == endpoint_of r.source && true) (renewed (λ i. i) (id_at r.message) ids) ids (and_from (endpoint_of r.source == endpoint_of r.source) true (eq-eqb (endpoint_of r.source) (endpoint_of r.source) refl) refl))
    ∙ ap is_some (renewed_finds (λ i. i) (id_at r.message) ids)

module _ (S : Type 0) (keep : ℕ) where
  ids_below : (log : List Happening) (source : ℕ) → Below (λ i. i) INSTANCE_IDS (ids_arrived S keep log source)
  ids_below [] source = tt
  ids_below (Opened _ ∷ past) source = ids_below past source
  ids_below (Sensed _ _ _ ∷ past) source = ids_below past source
  ids_below (WentDown _ ∷ past) source = ids_below past source
  ids_below (Delivered t k ∷ past) source = go (asked_at past k) (ids_below past source)
    where
      go : (o : Option Asked) → Below (λ i. i) INSTANCE_IDS (ids_arrived S keep past source) → Below (λ i. i) INSTANCE_IDS (with_first (is_first S keep past t k) o source (ids_arrived S keep past source))
      go None before = before
      go (Some r) before =
          cond_both (endpoint_of r.source == source && is_first S keep past t k) _ (ids_arrived S keep past source) (Below (λ i. i) INSTANCE_IDS)
          (λ _. renewed_below (λ i. i) INSTANCE_IDS (id_at r.message) (ids_arrived S keep past source) (id_is_small r.message) before) (λ _. before)

  -- the instance ID of a request that has arrived is among those that have
  pub arrived_in : (log : List Happening) (k : ℕ) (r : Asked) → asked_at log k ≡ Some r → has_arrived S keep log k ≡ true → In (id_at r.message) (ids_arrived S keep log (endpoint_of r.source))
  arrived_in [] k r e came = absurd (cc)
  arrived_in (Sensed _ _ _ ∷ past) k r e came = arrived_in past k r e came
  arrived_in (WentDown _ ∷ past) k r e came = arrived_in past k r e came
  arrived_in (Opened q ∷ past) k r e came = go (first S keep past k) refl (λ x. arrived_in past k r x came)
    where
      go : (f : Option (List Happening)) → first S keep past k ≡ f → (asked_at past k ≡ Some r → In (id_at r.message) (ids_arrived S keep past (endpoint_of r.source))) → In (id_at r.message) (ids_arrived S keep past (endpoint_of r.source))
      go None is ih = absurd (let wrong : false ≡ true = ap is_some (sym is) ∙ came in cc)
      go (Some place) is ih = ih (sym (request_older q past k (first_below S keep past k place is)) ∙ e)
  arrived_in (Delivered t j ∷ past) k r e came = go (first S keep past k) refl (λ x. arrived_in past k r e x)
    where
      busy : Bool
      busy = is_busy keep (reached {S = S} past) t

      test : Bool
      test = j == k && arrives (asked_at past k) busy

      here : first S keep past k ≡ None → test ≡ true → In (id_at r.message) (with_first (is_first S keep past t j) (asked_at past j) (endpoint_of r.source) (ids_arrived S keep past (endpoint_of r.source)))
      here none on =
          let parts = and_parts (j == k) (arrives (asked_at past k) busy) on in
          let it : is_first S keep past t k ≡ true = ap (λ f. is_first_of (asked_at past k) f busy) none ∙ parts.1 in
          subst (λ n. In (id_at r.message) (with_first (is_first S keep past t n) (asked_at past n) (endpoint_of r.source) (ids_arrived S keep past (endpoint_of r.source)))) (sym (eqb-true j k parts.0))
          (subst (λ b. In (id_at r.message) (with_first b (asked_at past k) (endpoint_of r.source) (ids_arrived S keep past (endpoint_of r.source)))) (sym it)
          (subst (λ o. In (id_at r.message) (with_first true o (endpoint_of r.source) (ids_arrived S keep past (endpoint_of r.source)))) (sym e) (comes_in r (ids_arrived S keep past (endpoint_of r.source)))))

      on_from : (b : Bool) → is_some (earlier None b past) ≡ true → b ≡ true
      on_from true _ = refl
      on_from false f = absurd (cc)

      go : (f : Option (List Happening)) → first S keep past k ≡ f → (is_some (first S keep past k) ≡ true → In (id_at r.message) (ids_arrived S keep past (endpoint_of r.source))) → In (id_at r.message) (with_first (is_first S keep past t j) (asked_at past j) (endpoint_of r.source) (ids_arrived S keep past (endpoint_of r.source)))
      go None is ih = here is (on_from test (sym (ap (λ f. is_some (earlier f test past)) is) ∙ came))
      go (Some place) is ih = still_in (id_at r.message) (is_first S keep past t j) (asked_at past j) (endpoint_of r.source) (ids_arrived S keep past (endpoint_of r.source)) (ih (ap is_some is))

  module _ (window : ℕ) (wide : INSTANCE_IDS ≤ window) where
    pub always_in_window : (past : List Happening) (k : ℕ) (r : Asked) → asked_at past k ≡ Some r → has_arrived S keep past k ≡ true → is_in_window S window keep past r ≡ true
    always_in_window past k r e came =
        let ids = ids_arrived S keep past (endpoint_of r.source) in
        let few = no_more (λ i. i) INSTANCE_IDS ids (ids_apart S keep past (endpoint_of r.source)) (ids_below past (endpoint_of r.source)) in
        ap (list_any (λ i. i == id_at r.message)) (take_all window ids (omega (arith, few, wide)))
        ∙ any_is_found (λ i. i == id_at r.message) ids
        ∙ arrived_in past k r e came

    in_time_from : (log : List Happening) → each_id.InTime keep log → InTime S window keep keep log
    in_time_from [] i = tt
    in_time_from (Opened _ ∷ past) i = in_time_from past i
    in_time_from (Sensed _ _ _ ∷ past) i = in_time_from past i
    in_time_from (WentDown _ ∷ past) i = in_time_from past i
    in_time_from (Delivered t k ∷ past) i =
        (λ r e. record { soon = i.0 r e; in_window = always_in_window past k r e }, in_time_from past i.1)

  soon_in_time : (window : ℕ) (log : List Happening) → InTime S window keep keep log → each_id.InTime keep log
  soon_in_time window [] i = tt
  soon_in_time window (Opened _ ∷ past) i = soon_in_time window past i
  soon_in_time window (Sensed _ _ _ ∷ past) i = soon_in_time window past i
  soon_in_time window (WentDown _ ∷ past) i = soon_in_time window past i
  soon_in_time window (Delivered t k ∷ past) i = (λ r e. (i.0 r e).soon, soon_in_time window past i.1)

pub all_ids_are_in_time : {S : Type 0} → AllIdsAreInTime S
all_ids_are_in_time {S} window keep log wide = (
  λ timely. record { order = timely.order; apart = apart_in_time S window keep log timely.apart; in_time = soon_in_time S keep window log timely.in_time },
  λ timely. record {
    order = timely.order;
    apart = apart_by_time S window keep log timely.apart;
    in_time = in_time_from S keep window wide log timely.in_time;
    within = omega arith;
  },
)
