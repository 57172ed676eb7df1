-- The definitions say the rule as it is said.
use Rattle.std.proofs.Common.{◌≡◌, ◌≢◌, ℕ, zero, suc, Bool, true, false, List, [], ◌∷◌, length, Option, Some, None, refl, sym, ap, ◌∙◌, ⊎_elim, arith, eqb-true}
use Rattle.std.specs.Prelude.{not, ◌&&◌, ◌==◌, nat_lt, take, if◌then◌else◌}
use Rattle.std.proofs.lemmas.Bool.{cases_Bool, cond-true, cond-false, eqb-false, le-ltb, lt-ltb, ltb-true, ltb-false, not_from_true, not_from_false, and_right}
use Rattle.pldm_wire.specs.Headers.{id_at}
use Rattle.pldm_wire.specs.declared.restart_policy.RestartPolicy.{RestartPolicy}
use Rattle.pldm_responder.specs.Events.{Message, Event, Came, Set, Restarted, Changed, Place, id_of, is_copy, is_copy_of, is_fresh, is_refused, recent}
use Rattle.pldm_responder.specs.Recency.{of_number, without, renewed}
use Rattle.pldm_responder.specs.TheRule.{latest_fresh, others_since, CopiesByTheRule, FreshPastTheWindow}
use Rattle.pldm_responder.proofs.NoIdFallsOut.{found_after}

by_test : {P : Type 0} (b : Bool) → (b ≡ true → P) → (b ≡ false → P) → P
by_test b f g = ⊎_elim f g (cases_Bool b)

module _ {A : Type 0} (number : A → ℕ) where
  -- the numbers in front of the one of this number
  abbrev pub in_front : ℕ → List A → List ℕ
  in_front n [] = []
  in_front n (x ∷ xs) = if number x == n then [] else number x ∷ in_front n xs

  neither : (b : Bool) → ◌≡◌ {A = Option A} (if b then None else None) None
  neither true = refl
  neither false = refl

  next_below : (a b : ℕ) → nat_lt (suc a) (suc b) ≡ nat_lt a b
  next_below a b = by_test (nat_lt a b)
      (λ (t : nat_lt a b ≡ true). lt-ltb (suc a) (suc b) (let l = ltb-true a b t in omega arith) ∙ sym t)
      (λ (t : nat_lt a b ≡ false). le-ltb (suc a) (suc b) (let l = ltb-false a b t in omega arith) ∙ sym t)

  -- it is found in the window where fewer stand in front of it
  pub found_where : (w n : ℕ) (xs : List A) → of_number number n (take w xs) ≡ (if nat_lt (length (in_front n xs)) w then of_number number n xs else None)
  found_where zero n [] = sym (neither (nat_lt 0 0))
  found_where (suc w) n [] = sym (neither (nat_lt 0 (suc w)))
  found_where zero n (x ∷ xs) = sym (cond-false (nat_lt (length (in_front n (x ∷ xs))) 0) _ _ (le-ltb (length (in_front n (x ∷ xs))) 0 (omega arith)))
  found_where (suc w) n (x ∷ xs) =
      let later = found_where w n xs in
      by_test (number x == n)
      (λ (it : (number x == n) ≡ true).
      let none : in_front n (x ∷ xs) ≡ [] = cond-true (number x == n) _ _ it in
      cond-true (number x == n) _ _ it
      ∙ sym (cond-true (number x == n) _ _ it)
      ∙ sym (cond-true (nat_lt (length (in_front n (x ∷ xs))) (suc w)) _ _ (ap (λ ys. nat_lt (length ys) (suc w)) none ∙ lt-ltb 0 (suc w) (omega arith))))
      (λ (other : (number x == n) ≡ false).
      let one : in_front n (x ∷ xs) ≡ number x ∷ in_front n xs = cond-false (number x == n) _ _ other in
      cond-false (number x == n) _ _ other
      ∙ later
      ∙ (λ i. if sym (ap (λ ys. nat_lt (length ys) (suc w)) one ∙ next_below (length (in_front n xs)) w) i then sym (cond-false (number x == n) (Some x) (of_number number n xs) other) i else None))

  in_front_without : (n m : ℕ) (xs : List A) → m ≢ n → in_front n (without number m xs) ≡ without (λ i. i) m (in_front n xs)
  in_front_without n m [] ne = refl
  in_front_without n m (x ∷ xs) ne =
      let later = in_front_without n m xs ne in
      by_test (number x == m)
      (λ (gone : (number x == m) ≡ true). by_test (number x == n)
      (λ (it : (number x == n) ≡ true). absurd (ne (sym (eqb-true (number x) m gone) ∙ eqb-true (number x) n it)))
      (λ (other : (number x == n) ≡ false).
      ap (in_front n) (cond-false (not (number x == m)) _ _ (not_from_true _ gone))
      ∙ later
      ∙ sym (cond-false (not (number x == m)) _ _ (not_from_true _ gone))
      ∙ ap (without (λ i. i) m) (sym (cond-false (number x == n) [] (number x ∷ in_front n xs) other))))
      (λ (stays : (number x == m) ≡ false).
      ap (in_front n) (cond-true (not (number x == m)) _ _ (not_from_false _ stays))
      ∙ by_test (number x == n)
      (λ (it : (number x == n) ≡ true). cond-true (number x == n) _ _ it ∙ ap (without (λ i. i) m) (sym (cond-true (number x == n) [] (number x ∷ in_front n xs) it)))
      (λ (other : (number x == n) ≡ false).
      cond-false (number x == n) _ _ other
      ∙ ap (λ ys. number x ∷ ys) later
      ∙ sym (cond-true (not (number x == m)) _ _ (not_from_false _ stays))
      ∙ ap (without (λ i. i) m) (sym (cond-false (number x == n) [] (number x ∷ in_front n xs) other))))

  pub in_front_renewed : (n : ℕ) (x : A) (xs : List A) → in_front n (renewed number x xs) ≡ (if number x == n then [] else renewed (λ i. i) (number x) (in_front n xs))
  in_front_renewed n x xs = by_test (number x == n)
      (λ (it : (number x == n) ≡ true). cond-true (number x == n) _ _ it ∙ sym (cond-true (number x == n) _ _ it))
      (λ (other : (number x == n) ≡ false).
      cond-false (number x == n) _ _ other
      ∙ ap (λ ys. number x ∷ ys) (in_front_without n (number x) xs (eqb-false (number x) n other))
      ∙ sym (cond-false (number x == n) _ _ other))

module _ {S : Type 0} (busy : RestartPolicy) (window keep : ℕ) where
  latest_is : (h : List (Event S)) (source id : ℕ) → of_number id_of id (recent busy window keep h source) ≡ latest_fresh busy window keep h source id
  latest_is [] source id = refl
  latest_is (Set _ _ ∷ h) source id = latest_is h source id
  latest_is (Restarted _ ∷ h) source id = refl
  latest_is (Changed _ ∷ h) source id = latest_is h source id
  latest_is (Came m ∷ h) source id =
      found_after id_of (record { before = h; message = m }) (recent busy window keep h source) id (m.source == source) (is_fresh busy window keep h m)
      ∙ ap (λ o. if (m.source == source && id_at m.bytes == id) && is_fresh busy window keep h m then Some (record { before = h; message = m }) else o) (latest_is h source id)

  front_if : (b : Bool) (id : ℕ) (place : Place S) (places : List (Place S)) → in_front id_of id (if b then renewed id_of place places else places) ≡ (if b then (if id_of place == id then [] else renewed (λ i. i) (id_of place) (in_front id_of id places)) else in_front id_of id places)
  front_if true id place places = in_front_renewed id_of id place places
  front_if false id place places = refl

  others_is : (h : List (Event S)) (source id : ℕ) → in_front id_of id (recent busy window keep h source) ≡ others_since busy window keep h source id
  others_is [] source id = refl
  others_is (Set _ _ ∷ h) source id = others_is h source id
  others_is (Restarted _ ∷ h) source id = refl
  others_is (Changed _ ∷ h) source id = others_is h source id
  others_is (Came m ∷ h) source id =
      front_if (m.source == source && is_fresh busy window keep h m) id (record { before = h; message = m }) (recent busy window keep h source)
      ∙ ap (λ ids. if m.source == source && is_fresh busy window keep h m then (if id_at m.bytes == id then [] else renewed (λ i. i) (id_at m.bytes) ids) else ids) (others_is h source id)

  copy_if : (m : Message) (b : Bool) (o : Option (Place S)) → is_copy_of keep m (if b then o else None) ≡ (is_copy_of keep m o && b)
  copy_if m true None = refl
  copy_if m false None = refl
  copy_if m true (Some place) = go (is_copy_of keep m (Some place))
    where
      go : (c : Bool) → c ≡ (c && true)
      go true = refl
      go false = refl
  copy_if m false (Some place) = sym (and_right (is_copy_of keep m (Some place)) false refl)

pub copies_by_the_rule : {S : Type 0} → CopiesByTheRule S
copies_by_the_rule busy window keep h m =
    let id = id_at m.bytes in
    let places = recent busy window keep h m.source in
    ap (is_copy_of keep m) (found_where id_of window id places)
    ∙ copy_if busy window keep m (nat_lt (length (in_front id_of id places)) window) (of_number id_of id places)
    ∙ (λ i. is_copy_of keep m (latest_is busy window keep h m.source id i) && nat_lt (length (others_is busy window keep h m.source id i)) window)

pub fresh_past_the_window : {S : Type 0} → FreshPastTheWindow S
fresh_past_the_window busy window keep h m past =
    let id = id_at m.bytes in
    let no : is_copy busy window keep h m ≡ false =
    copies_by_the_rule busy window keep h m
    ∙ and_right (is_copy_of keep m (latest_fresh busy window keep h m.source id)) _ (le-ltb (length (others_since busy window keep h m.source id)) window past) in
    ap (λ copy. not (is_refused busy keep h m) && not copy) no ∙ true_and (not (is_refused busy keep h m))
  where
    true_and : (b : Bool) → (b && true) ≡ b
    true_and true = refl
    true_and false = refl
