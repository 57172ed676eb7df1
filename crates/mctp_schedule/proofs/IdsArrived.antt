-- The instance IDs of the latest fresh messages are, since a restart, those of the latest first arrivals.
use Rattle.std.proofs.Common.{◌≡◌, ℕ, zero, suc, Bool, true, false, List, [], ◌∷◌, Option, Some, None, refl, sym, ap, ◌∙◌, subst, ⊎_elim, eqb-true}
use Rattle.std.specs.Prelude.{not, ◌&&◌, ◌||◌, ◌==◌, is_some, map, take, if◌then◌else◌}
use Rattle.std.specs.List.{find, list_any}
use Rattle.std.proofs.lemmas.Bool.{cases_Bool, and_parts, or_left, or_right, cond_both, cond-true, cond-false, ne_eqb}
use Rattle.pldm_wire.specs.Headers.{id_at}
use Rattle.pldm_responder.specs.Events.{Came, Place, id_of, is_fresh, recent}
use Rattle.mctp_schedule.specs.FirstArrivals.{is_first}
use Rattle.mctp_schedule.specs.Logs.{Asked, Happening, Opened, Delivered, Sensed, WentDown, asked_at, message_at, reached, endpoint_of}
use Rattle.pldm_responder.specs.Recency.{of_number, without, renewed}
use Rattle.pldm_responder.proofs.RecentFirst.{Apart, front_renewed as renewed_in_front, none_in_front, renewed_apart, renewed_in_map, renewed_keeps}
use Rattle.mctp_schedule.specs.Timely.{with_first, ids_arrived}
use Rattle.pldm_wire.specs.declared.restart_policy.RestartPolicy.TheVariants.{All}

-- the first list stands at the front of the second
abbrev pub IsFront : List ℕ → List ℕ → Type 0
IsFront [] ys = Unit {0}
IsFront (x ∷ xs) [] = ⊥
IsFront (x ∷ xs) (y ∷ ys) = (x ≡ y) × IsFront xs ys

by_test : {P : Type 0} (b : Bool) → (b ≡ true → P) → (b ≡ false → P) → P
by_test b f g = ⊎_elim f g (cases_Bool b)

front_without : (n : ℕ) (xs ys : List ℕ) → IsFront xs ys → IsFront (without (λ i. i) n xs) (without (λ i. i) n ys)
front_without n [] ys front = tt
front_without n (x ∷ xs) [] front = absurd (front)
front_without n (x ∷ xs) (y ∷ ys) front =
    let later = front_without n xs ys front.1 in
    subst (λ z. IsFront (without (λ i. i) n (x ∷ xs)) (without (λ i. i) n (z ∷ ys))) front.0
    (kept x (not (x == n)) (without (λ i. i) n xs) (without (λ i. i) n ys) later)
  where
    kept : (z : ℕ) (b : Bool) (us vs : List ℕ) → IsFront us vs → IsFront (if b then z ∷ us else us) (if b then z ∷ vs else vs)
    kept z true us vs f = (refl, f)
    kept z false us vs f = f

front_renewed : (b : Bool) (n : ℕ) (xs ys : List ℕ) → IsFront xs ys → IsFront (if b then renewed (λ i. i) n xs else xs) (if b then renewed (λ i. i) n ys else ys)
front_renewed true n xs ys front = (refl, front_without n xs ys front)
front_renewed false n xs ys front = front

renewed_or_not : {S : Type 0} (b : Bool) (place : Place S) (places : List (Place S))
    → map id_of (if b then renewed id_of place places else places) ≡ (if b then renewed (λ i. i) (id_of place) (map id_of places) else map id_of places)
renewed_or_not true place places = sym (renewed_in_map id_of (λ i. i) id_of (λ _. refl) place places)
renewed_or_not false place places = refl

-- where a delivery is fresh exactly if it is the first, they stay so
pub ids_delivered : (S : Type 0) (window keep : ℕ) (past : List Happening) (t k : ℕ) (r : Asked) (source : ℕ)
    → IsFront (map id_of (recent All window keep (reached {S = S} past) source)) (ids_arrived S keep past source)
    → asked_at past k ≡ Some r → is_fresh All window keep (reached {S = S} past) (message_at t r) ≡ is_first S keep past t k
    → IsFront (map id_of (recent All window keep (Came (message_at t r) ∷ reached {S = S} past) source)) (ids_arrived S keep (Delivered t k ∷ past) source)
ids_delivered S window keep past t k r source front e same =
    let place : Place S = record { before = reached {S = S} past; message = message_at t r } in
    let places = recent All window keep (reached {S = S} past) source in
    let ids = ids_arrived S keep past source in
    subst (λ o. IsFront (map id_of (if endpoint_of r.source == source && is_fresh All window keep (reached {S = S} past) (message_at t r) then renewed id_of place places else places)) (with_first (is_first S keep past t k) o source ids)) (sym e)
    (subst (λ b. IsFront (map id_of (if endpoint_of r.source == source && b then renewed id_of place places else places)) (if endpoint_of r.source == source && is_first S keep past t k then renewed (λ i. i) (id_at r.message) ids else ids)) (sym same)
    (subst (λ xs. IsFront xs (if endpoint_of r.source == source && is_first S keep past t k then renewed (λ i. i) (id_at r.message) ids else ids)) (sym (renewed_or_not (endpoint_of r.source == source && is_first S keep past t k) place places))
    (front_renewed (endpoint_of r.source == source && is_first S keep past t k) (id_at r.message) (map id_of places) ids front)))

-- what stands at the front, and is found there, is found in the window where its number is in the window
pub found_in_window : {A : Type 0} (number : A → ℕ) (w n : ℕ) (xs : List A) (ys : List ℕ) (x : A) → IsFront (map number xs) ys → of_number number n xs ≡ Some x → list_any (λ i. i == n) (take w ys) ≡ true → of_number number n (take w xs) ≡ Some x
found_in_window number w n [] ys x front found within = absurd (cc)
found_in_window number w n (y ∷ xs) [] x front found within = absurd (front)
found_in_window number zero n (y ∷ xs) (z ∷ ys) x front found within = absurd (cc)
found_in_window number (suc w) n (y ∷ xs) (z ∷ ys) x front found within =
    let later = found_in_window number w n xs ys x front.1 in
    by_test (number y == n)
    (λ (it : (number y == n) ≡ true). cond-true (number y == n) _ _ it ∙ sym (cond-true (number y == n) _ _ it) ∙ found)
    (λ (other : (number y == n) ≡ false).
    cond-false (number y == n) _ _ other
    ∙ later (sym (cond-false (number y == n) _ _ other) ∙ found)
    (sym (ap (λ b. b || list_any (λ i. i == n) (take w ys)) (sym (ap (λ m. m == n) front.0) ∙ other)) ∙ within))

-- and what is found in the window has its number there
pub number_in_window : {A : Type 0} (number : A → ℕ) (w n : ℕ) (xs : List A) (ys : List ℕ) (x : A) → IsFront (map number xs) ys → of_number number n (take w xs) ≡ Some x → list_any (λ i. i == n) (take w ys) ≡ true
number_in_window number zero n xs ys x front found = absurd (cc)
number_in_window number (suc w) n [] ys x front found = absurd (cc)
number_in_window number (suc w) n (y ∷ xs) [] x front found = absurd (front)
number_in_window number (suc w) n (y ∷ xs) (z ∷ ys) x front found =
    let later = number_in_window number w n xs ys x front.1 in
    by_test (number y == n)
    (λ (it : (number y == n) ≡ true). or_left (z == n) (list_any (λ i. i == n) (take w ys)) (ap (λ m. m == n) (sym front.0) ∙ it))
    (λ (other : (number y == n) ≡ false). or_right (z == n) (list_any (λ i. i == n) (take w ys)) (later (sym (cond-false (number y == n) _ _ other) ∙ found)))

pub any_is_found : {A : Type 0} (test : A → Bool) (xs : List A) → list_any test xs ≡ is_some (find test xs)
any_is_found test [] = refl
any_is_found test (x ∷ xs) = go (test x) (any_is_found test xs)
  where
    go : (b : Bool) → list_any test xs ≡ is_some (find test xs) → (b || list_any test xs) ≡ is_some (if b then Some x else find test xs)
    go true later = refl
    go false later = later

-- each instance ID stands once
module _ (S : Type 0) (keep : ℕ) where
  pub ids_apart : (log : List Happening) (source : ℕ) → Apart (λ i. i) (ids_arrived S keep log source)
  ids_apart [] source = tt
  ids_apart (Opened _ ∷ past) source = ids_apart past source
  ids_apart (Sensed _ _ _ ∷ past) source = ids_apart past source
  ids_apart (WentDown _ ∷ past) source = ids_apart past source
  ids_apart (Delivered t k ∷ past) source = go (asked_at past k) (ids_apart past source)
    where
      go : (o : Option Asked) → Apart (λ i. i) (ids_arrived S keep past source) → Apart (λ i. i) (with_first (is_first S keep past t k) o source (ids_arrived S keep past source))
      go None before = before
      go (Some r) before =
          cond_both (endpoint_of r.source == source && is_first S keep past t k) _ (ids_arrived S keep past source) (Apart (λ i. i))
          (λ _. renewed_apart (λ i. i) (id_at r.message) (ids_arrived S keep past source) before) (λ _. before)

-- ---- what is out of the window
none_of : (o : Option ℕ) → is_some o ≡ false → o ≡ None
none_of None e = refl
none_of (Some n) e = absurd (cc)

-- one of another number is put in front
renewed_out : (w m n : ℕ) (ids : List ℕ) → Apart (λ i. i) ids → (m == n) ≡ false → list_any (λ i. i == n) (take w ids) ≡ false → list_any (λ i. i == n) (take w (renewed (λ i. i) m ids)) ≡ false
renewed_out w m n ids apart other out =
    let none = none_of (of_number (λ i. i) n (take w ids)) (sym (any_is_found (λ i. i == n) (take w ids)) ∙ out) in
    let still = none_in_front (λ i. i) n w (renewed (λ i. i) m (take w ids)) (renewed_keeps (λ i. i) m (take w ids) n other ∙ none) in
    ap (list_any (λ i. i == n)) (sym (renewed_in_front (λ i. i) w m ids apart))
    ∙ any_is_found (λ i. i == n) (take w (renewed (λ i. i) m (take w ids)))
    ∙ ap is_some still

-- or a first arrival of another source or instance ID, or none
pub out_stays : (w : ℕ) (b : Bool) (o : Option Asked) (r : Asked) (ids : List ℕ) → Apart (λ i. i) ids
    → ((q : Asked) → o ≡ Some q → b ≡ true → endpoint_of q.source ≡ endpoint_of r.source → id_at q.message ≡ id_at r.message → ⊥)
    → list_any (λ i. i == id_at r.message) (take w ids) ≡ false → list_any (λ i. i == id_at r.message) (take w (with_first b o (endpoint_of r.source) ids)) ≡ false
out_stays w b None r ids apart never out = out
out_stays w b (Some q) r ids apart never out =
    cond_both (endpoint_of q.source == endpoint_of r.source && b) (renewed (λ i. i) (id_at q.message) ids) ids (λ (xs : List ℕ). list_any (λ i. i == id_at r.message) (take w xs) ≡ false)
    (λ on.
    let parts = and_parts (endpoint_of q.source == endpoint_of r.source) b on in
    renewed_out w (id_at q.message) (id_at r.message) ids apart (ne_eqb (id_at q.message) (id_at r.message) (never q refl parts.1 (eqb-true (endpoint_of q.source) (endpoint_of r.source) parts.0))) out)
    (λ _. out)
