-- A new request in turn is never taken for an earlier one with its instance ID.
use Rattle.std.proofs.Common.{◌≡◌, ℕ, ◌+◌, ◌%◌, ◌<◌, ◌≤◌, Bool, true, false, ◌&&◌, ◌==◌, List, [], ◌∷◌, ◌++◌, length, if◌then◌else◌, refl, sym, ap, ◌∙◌, arith, length-append}
use Rattle.std.specs.Prelude.{map, nat_le}
use Rattle.std.proofs.lemmas.Bool.{cond-true, cond-false, leb-false, leb-true, eqb-true}
use Rattle.std.proofs.lemmas.List.{length-map}
use Rattle.pldm_wire.specs.Headers.{id_at}
use Rattle.pldm_wire.specs.declared.restart_policy.RestartPolicy.{RestartPolicy}
use Rattle.pldm_responder.specs.Events.{Message, Event, Came, Set, Restarted, Changed, is_fresh}
use Rattle.pldm_responder.specs.Recency.{renewed, without}
use Rattle.pldm_responder.specs.TheRule.{others_since}
use Rattle.pldm_responder.proofs.CopiesByTheRule.{fresh_past_the_window}
use Rattle.pldm_responder.proofs.RecentFirst.{by_test, dropped, stays}
use Rattle.pldm_endpoint.specs.RoundRobin.{AreInTurn, NewInTurnIsFresh, among_last, fresh_of}

-- the other instance IDs of a list of requests, up to the first with this one
abbrev others_in : List Message → ℕ → List ℕ
others_in [] id = []
others_in (m ∷ requests) id = if id_at m.bytes == id then [] else renewed (λ other. other) (id_at m.bytes) (others_in requests id)

others_where : (t : Bool) (m : Message) (requests : List Message) (id : ℕ) (others : List ℕ) → others ≡ others_in requests id
    → (if t then (if id_at m.bytes == id then [] else renewed (λ other. other) (id_at m.bytes) others) else others) ≡ others_in (if t then m ∷ requests else requests) id
others_where true m requests id others same = ap (λ ids. if id_at m.bytes == id then [] else renewed (λ other. other) (id_at m.bytes) ids) same
others_where false m requests id others same = same

others_are : {S : Type 0} (busy : RestartPolicy) (window keep : ℕ) (h : List (Event S)) (source id : ℕ) → others_since busy window keep h source id ≡ others_in (fresh_of busy window keep h source) id
others_are busy window keep [] source id = refl
others_are busy window keep (Set _ _ ∷ h) source id = others_are busy window keep h source id
others_are busy window keep (Restarted _ ∷ h) source id = refl
others_are busy window keep (Changed _ ∷ h) source id = others_are busy window keep h source id
others_are busy window keep (Came m ∷ h) source id =
    others_where (m.source == source && is_fresh busy window keep h m) m (fresh_of busy window keep h source) id _ (others_are busy window keep h source id)

-- ---- numbers less than 32 apart have two instance IDs
two_ids : (a b : ℕ) → a < b → b ≤ a + 31 → (a % 32 ≡ b % 32 → ⊥)
two_ids a b less near same = absurd (omega (arith, less, near, same))

-- ---- what is taken out of a list
without_other : (n : ℕ) (ids : List ℕ) (rest : List ℕ) → without (λ i. i) n (ids ++ rest) ≡ without (λ i. i) n ids ++ without (λ i. i) n rest
without_other n [] rest = refl
without_other n (i ∷ ids) rest = by_test (i == n)
    (λ (same : (i == n) ≡ true).
    dropped (λ x. x) n i (ids ++ rest) same ∙ without_other n ids rest ∙ sym (ap (λ xs. xs ++ without (λ x. x) n rest) (dropped (λ x. x) n i ids same)))
    (λ (other : (i == n) ≡ false).
    stays (λ x. x) n i (ids ++ rest) other ∙ ap (λ xs. i ∷ xs) (without_other n ids rest) ∙ sym (ap (λ xs. xs ++ without (λ x. x) n rest) (stays (λ x. x) n i ids other)))

module _ (number : Message → ℕ) where
  abbrev ids_of : List Message → List ℕ
  ids_of requests = map (λ m. id_at m.bytes) requests

  -- past the 31 none is among them
  none_later : (n k : ℕ) (requests : List Message) → AreInTurn number k requests → k + 31 < n + 1 → among_last number n requests ≡ []
  none_later n k [] turn far = refl
  none_later n k (m ∷ requests) turn far =
      let out : nat_le n (number m + 31) ≡ false = not_le n (number m + 31) (let less = turn.0 in omega (arith, less, far)) in
      cond-false (nat_le n (number m + 31)) _ _ out ∙ none_later n (number m) requests turn.2 (let less = turn.0 in omega (arith, less, far))
    where
      not_le : (a b : ℕ) → b < a → nat_le a b ≡ false
      not_le a b less = by_test (nat_le a b) (λ (t : nat_le a b ≡ true). absurd (let le = leb-true a b t in omega (arith, le, less))) (λ (f : nat_le a b ≡ false). f)

  -- none of them has the instance ID of a later one that is near
  ids_stay : (n top : ℕ) (requests : List Message) → AreInTurn number top requests → top ≤ n → without (λ i. i) (top % 32) (ids_of (among_last number n requests)) ≡ ids_of (among_last number n requests)
  ids_stay n top requests turn low = stay_below n top top requests turn low (omega arith)
    where
      stay_below : (n top k : ℕ) (requests : List Message) → AreInTurn number k requests → top ≤ n → k ≤ top → without (λ i. i) (top % 32) (ids_of (among_last number n requests)) ≡ ids_of (among_last number n requests)
      stay_below n top k [] turn low under = refl
      stay_below n top k (m ∷ requests) turn low under =
          let less = turn.0 in
          let later = stay_below n top (number m) requests turn.2 low (omega (arith, less, under)) in
          by_test (nat_le n (number m + 31))
          (λ (in_last : nat_le n (number m + 31) ≡ true).
          let is : among_last number n (m ∷ requests) ≡ m ∷ among_last number n requests = cond-true (nat_le n (number m + 31)) _ _ in_last in
          let near = leb-true n (number m + 31) in_last in
          let apart : (id_at m.bytes == top % 32) ≡ false = not_same (id_at m.bytes) (top % 32) (λ same. two_ids (number m) top (omega (arith, less, under)) (omega (arith, near, low)) (sym turn.1 ∙ same)) in
          ap (λ xs. without (λ i. i) (top % 32) (ids_of xs)) is
          ∙ stays (λ i. i) (top % 32) (id_at m.bytes) (ids_of (among_last number n requests)) apart
          ∙ ap (λ xs. id_at m.bytes ∷ xs) later
          ∙ sym (ap ids_of is))
          (λ (out : nat_le n (number m + 31) ≡ false).
          let is : among_last number n (m ∷ requests) ≡ among_last number n requests = cond-false (nat_le n (number m + 31)) _ _ out in
          ap (λ xs. without (λ i. i) (top % 32) (ids_of xs)) is ∙ later ∙ sym (ap ids_of is))
        where
          not_same : (a b : ℕ) → (a ≡ b → ⊥) → (a == b) ≡ false
          not_same a b apart = by_test (a == b) (λ (t : (a == b) ≡ true). absurd (apart (eqb-true a b t))) (λ (f : (a == b) ≡ false). f)

  -- those among the last stand in front of the other instance IDs
  in_front : (n : ℕ) (requests : List Message) → AreInTurn number n requests → (rest : List ℕ) × (others_in requests (n % 32) ≡ ids_of (among_last number n requests) ++ rest)
  in_front n requests turn = from n n requests turn (omega arith)
    where
      from : (n k : ℕ) (requests : List Message) → AreInTurn number k requests → k ≤ n → (rest : List ℕ) × (others_in requests (n % 32) ≡ ids_of (among_last number n requests) ++ rest)
      from n k [] turn low = ([], refl)
      from n k (m ∷ requests) turn low =
          let less = turn.0 in
          by_test (nat_le n (number m + 31))
          (λ (in_last : nat_le n (number m + 31) ≡ true).
          let near = leb-true n (number m + 31) in_last in
          let before = from n (number m) requests turn.2 (omega (arith, less, low)) in
          let is : among_last number n (m ∷ requests) ≡ m ∷ among_last number n requests = cond-true (nat_le n (number m + 31)) _ _ in_last in
          let apart : (id_at m.bytes == n % 32) ≡ false = not_same (id_at m.bytes) (n % 32) (λ same. two_ids (number m) n (omega (arith, less, low)) near (sym turn.1 ∙ same)) in (
            without (λ i. i) (id_at m.bytes) before.0,
            cond-false (id_at m.bytes == n % 32) _ _ apart
                ∙ ap (λ xs. id_at m.bytes ∷ without (λ i. i) (id_at m.bytes) xs) before.1
                ∙ ap (λ xs. id_at m.bytes ∷ xs) (
                without_other (id_at m.bytes) (ids_of (among_last number n requests)) before.0
                ∙ ap (λ xs. xs ++ without (λ i. i) (id_at m.bytes) before.0)
                (ap (λ i. without (λ j. j) i (ids_of (among_last number n requests))) turn.1 ∙ ids_stay n (number m) requests turn.2 (omega (arith, less, low))))
                ∙ sym (ap (λ xs. ids_of xs ++ without (λ i. i) (id_at m.bytes) before.0) is),
          ))
          (λ (out : nat_le n (number m + 31) ≡ false).
          let far = leb-false n (number m + 31) out in
          let none : among_last number n (m ∷ requests) ≡ [] =
          cond-false (nat_le n (number m + 31)) _ _ out ∙ none_later n (number m) requests turn.2 (omega (arith, far)) in
          (others_in (m ∷ requests) (n % 32), sym (ap (λ xs. ids_of xs ++ others_in (m ∷ requests) (n % 32)) none)))
        where
          not_same : (a b : ℕ) → (a ≡ b → ⊥) → (a == b) ≡ false
          not_same a b apart = by_test (a == b) (λ (t : (a == b) ≡ true). absurd (apart (eqb-true a b t))) (λ (f : (a == b) ≡ false). f)

pub new_in_turn_is_fresh : {S : Type 0} → NewInTurnIsFresh S
new_in_turn_is_fresh busy window keep events m number numbered turn enough =
    let n = number m in
    let requests = fresh_of busy window keep events m.source in
    let front = in_front number n requests turn in
    let others : others_since busy window keep events m.source (id_at m.bytes) ≡ ids_of number (among_last number n requests) ++ front.0 =
    others_are busy window keep events m.source (id_at m.bytes) ∙ ap (others_in requests) numbered ∙ front.1 in
    let long : length (others_since busy window keep events m.source (id_at m.bytes)) ≡ length (ids_of number (among_last number n requests)) + length front.0 =
    ap length others ∙ length-append (ids_of number (among_last number n requests)) front.0 in
    let same : length (ids_of number (among_last number n requests)) ≡ length (among_last number n requests) = length-map (among_last number n requests) (λ x. id_at x.bytes) in
    fresh_past_the_window busy window keep events m (omega (arith, long, same, enough))
