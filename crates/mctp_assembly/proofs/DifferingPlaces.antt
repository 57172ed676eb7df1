-- What stands under a number of a list where no number comes twice, and what a change at its place leaves.
use Rattle.std.proofs.Common.{◌≡◌, ◌⊎◌, inl, inr, ℕ, zero, suc, ◌+◌, ◌-◌, ◌<◌, ◌≤◌, ◌≢◌, [], ◌∷◌, ◌++◌, length, Some, None, Bool, true, false, cond, ◌==◌, eqb-true, refl, sym, ◌∙◌, ap, subst, arith}
use Rattle.std.specs.Prelude.{slice_set, slice_index_or}
use Rattle.std.specs.List.{remove, swap_remove}
use Rattle.std.proofs.lemmas.Bool.{eqb-false}
use Rattle.std.proofs.lemmas.Bool.Decides.{nat_tests}
use Rattle.std.proofs.lemmas.List.{get_or_default}
use Rattle.std.proofs.lemmas.Grind.{common_steps}
use Rattle.mctp_assembly.specs.NumberLists.{NumberList, Differ, Rises, number_in, at, IsAt, Changes}
use Rattle.mctp_assembly.proofs.NumberLookups.{NoneBefore, absent, present, changed, taken_away}

module _ {X : Type 0} (past : X) where
  pub differ_as_they_rise : (l : NumberList X) → Rises past l → Differ past l
  differ_as_they_rise l rises i j lt in_range same = omega (arith, rises i j lt in_range, same)

  module _ (l : NumberList X) (differ : Differ past l) (k place : ℕ) (is : IsAt past l k place) where
    none_before : NoneBefore past l k place
    none_before j lt same = differ j place lt is.in_range (same ∙ sym is.has)

    pub none_after : (j : ℕ) → place < j → j < length l → number_in past l j ≢ k
    none_after j lt in_range same = differ place j lt in_range (is.has ∙ sym same)

    pub open_at : (d : ℕ × X) → at l k ≡ Some (slice_index_or l place d).1
    open_at d = present past l k place d is none_before

    pub changed_at : (v : X) → Changes l (slice_set l place (k, v)) k (Some v)
    changed_at v = changed past l k v place is none_before

    -- what was read at the place
    pub here : (d : ℕ × X) → d ≡ slice_index_or l place d → d.0 ≡ k
    here d read = ap (λ (e : ℕ × X). e.0) (read ∙ get_or_default l place d (0, past) is.in_range) ∙ is.has

    pub read_at : (d : ℕ × X) → d ≡ slice_index_or l place d → at l k ≡ Some d.1
    read_at d read = open_at d ∙ ap (λ (e : ℕ × X). Some e.1) (sym read)

    -- and what is written there with its number
    pub written_at : (d : ℕ × X) (v : X) → d ≡ slice_index_or l place d → Changes l (slice_set l place (d.0, v)) k (Some v)
    written_at d v read = subst (λ n. Changes l (slice_set l place (n, v)) k (Some v)) (sym (here d read)) (changed_at v)

    pub differ_changed : (v : X) → Differ past (slice_set l place (k, v))
    differ_changed v i j lt in_range = grind (arith, common_steps, differ i j, differ i place, differ place j, is.in_range, is.has)

    -- to take the place away is to leave nothing under its number
    pub removed_at : Changes l (remove l place) k None
    removed_at = taken_away past l k place is none_before none_after

  -- ---- a number stands in a list, or does not
  abbrev pub Stands : NumberList X → ℕ → Type 0
  Stands l q = ((i : ℕ) × IsAt past l q i) ⊎ NoneBefore past l q (length l)

  none_next : (x : ℕ × X) (l : NumberList X) (q : ℕ) → (x.0 ≢ q) → NoneBefore past l q (length l) → NoneBefore past (x ∷ l) q (length (x ∷ l))
  none_next x l q first none zero lt same = first same
  none_next x l q first none (suc j) lt same = none j (omega arith) same

  next : (x : ℕ × X) (l : NumberList X) (q : ℕ) (b : Bool) → (x.0 == q) ≡ b → Stands l q → Stands (x ∷ l) q
  next x l q true same rest = inl (0, record { in_range = omega arith; has = eqb-true x.0 q same })
  next x l q false other (inl (i, is)) = inl (suc i, record { in_range = omega (arith, is.in_range); has = is.has })
  next x l q false other (inr none) = inr (none_next x l q (eqb-false x.0 q other) none)

  pub stands : (l : NumberList X) (q : ℕ) → Stands l q
  stands [] q = inr (λ j lt same. omega arith)
  stands (x ∷ l) q = next x l q (x.0 == q) refl (stands l q)

  -- what has nothing in a list does not stand in it
  pub none_of : (l : NumberList X) (k : ℕ) → at l k ≡ None → NoneBefore past l k (length l)
  none_of [] k nothing j lt same = omega arith
  none_of (x ∷ l) k nothing zero lt same = grind (arith, nat_tests, nothing, same)
  none_of (x ∷ l) k nothing (suc j) lt same = none_of l k (grind (arith, nat_tests, nothing)) j (omega arith) same

  -- ---- put behind the others
  pub appended : (l : NumberList X) (k : ℕ) (v : X) → NoneBefore past l k (length l) → Changes l (l ++ (k, v) ∷ []) k (Some v)
  appended [] k v none q = refl
  appended (x ∷ l) k v none q = grind (arith, nat_tests, none 0 (omega arith), appended l k v (λ j lt same. none (suc j) (omega arith) same) q)

  pub differ_appended : (l : NumberList X) (k : ℕ) (v : X) → Differ past l → NoneBefore past l k (length l) → Differ past (l ++ (k, v) ∷ [])
  differ_appended l k v differ none i j lt in_range = grind (arith, common_steps, differ i j, none i)

  -- ---- the last one moved to the place of one that is taken away
  module _ (l : NumberList X) (differ : Differ past l) (k place : ℕ) (is : IsAt past l k place) where
    abbrev left : NumberList X
    left = swap_remove l place (0, past)

    pub shorter : length left + 1 ≡ length l
    shorter = grind (arith, common_steps, is.in_range)

    kept : (j : ℕ) → j + 1 < length l → j ≢ place → slice_index_or left j (0, past) ≡ slice_index_or l j (0, past)
    kept j lt other = grind (arith, common_steps, is.in_range)

    moved : place + 1 < length l → slice_index_or left place (0, past) ≡ slice_index_or l (length l - 1) (0, past)
    moved lt = grind (arith, common_steps, is.in_range)

    number : ℕ × X → ℕ
    number e = e.0

    -- what is left at a place stood in the list, at another place than that
    abbrev CameFrom : ℕ → ℕ → Type 0
    CameFrom j i = (i < length l) × (i ≢ place) × (slice_index_or left j (0, past) ≡ slice_index_or l i (0, past))

    came_by : (j : ℕ) → j < length left → (b : Bool) → (j == place) ≡ b → (i : ℕ) × CameFrom j i
    came_by j lt true same =
        let here = eqb-true j place same in
        (length l - 1, (omega (arith, shorter, lt), λ last. omega (arith, shorter, lt, last, here), subst (λ j. slice_index_or left j (0, past) ≡ slice_index_or l (length l - 1) (0, past)) (sym here) (moved (omega (arith, shorter, lt, here)))))
    came_by j lt false other = (j, (omega (arith, shorter, lt), eqb-false j place other, kept j (omega (arith, shorter, lt)) (eqb-false j place other)))

    only : (i : ℕ) → i < length l → i ≢ place → number_in past l i ≢ k
    only i lt other same = grind (arith, differ i place, differ place i, is.in_range, is.has, same, lt, other)

    pub none_left : NoneBefore past left k (length left)
    none_left j lt same =
        let came = came_by j lt (j == place) refl in
        only came.0 came.1.0 came.1.1 (sym (ap (λ (e : ℕ × X). e.0) came.1.2) ∙ same)

    kept_number : (j : ℕ) → j + 1 < length l → j ≢ place → number_in past left j ≡ number_in past l j
    kept_number j lt other = ap (λ (e : ℕ × X). e.0) (kept j lt other)

    moved_number : place + 1 < length l → number_in past left place ≡ number_in past l (length l - 1)
    moved_number lt = ap (λ (e : ℕ × X). e.0) (moved lt)

    at_place : (j : ℕ) → j ≡ place → j + 1 < length l → number_in past left j ≡ number_in past l (length l - 1)
    at_place j here lt = ap (number_in past left) here ∙ moved_number (omega (arith, here, lt))

    pub differ_left : Differ past left
    differ_left i j lt in_range =
        let last = length l - 1 in
        grind (arith, shorter, kept_number i, kept_number j, at_place i, at_place j, differ i j, differ i last, differ j last, is.in_range)

    -- each other number has what it had
    had : (q i j : ℕ) → j < length left → IsAt past l q i → slice_index_or left j (0, past) ≡ slice_index_or l i (0, past) → at left q ≡ at l q
    had q i j lt is_q same =
        let is_left : IsAt past left q j = record { in_range = lt; has = ap (λ (e : ℕ × X). e.0) same ∙ is_q.has } in
        open_at left differ_left q j is_left (0, past) ∙ ap (λ (e : ℕ × X). Some e.1) same ∙ sym (open_at l differ q i is_q (0, past))

    others_by : (q : ℕ) → (k ≢ q) → (i : ℕ) → IsAt past l q i → (b : Bool) → (i + 1 == length l) ≡ b → at left q ≡ at l q
    others_by q other i is_q true last =
        let end : i ≡ length l - 1 = omega (arith, eqb-true (i + 1) (length l) last) in
        let room : place + 1 < length l = omega (arith, is.in_range, end, λ (same : place ≡ i). other (sym is.has ∙ ap (number_in past l) same ∙ is_q.has)) in
        had q i place (omega (arith, shorter, room)) is_q (moved room ∙ ap (λ i. slice_index_or l i (0, past)) (sym end))
    others_by q other i is_q false before =
        let room : i + 1 < length l = omega (arith, is_q.in_range, eqb-false (i + 1) (length l) before) in
        had q i i (omega (arith, shorter, room)) is_q (kept i room (λ same. other (sym is.has ∙ ap (number_in past l) (sym same) ∙ is_q.has)))

    others : (q : ℕ) → (k ≢ q) → Stands l q → at left q ≡ at l q
    others q other (inr none) =
        absent past left q (λ j lt same. let came = came_by j lt (j == place) refl in none came.0 came.1.0 (sym (ap (λ (e : ℕ × X). e.0) came.1.2) ∙ same))
        ∙ sym (absent past l q none)
    others q other (inl (i, is_q)) = others_by q other i is_q (i + 1 == length l) refl

    left_by_test : (q : ℕ) (b : Bool) → (k == q) ≡ b → at left q ≡ cond b None (at l q)
    left_by_test q true same = ap (at left) (sym (eqb-true k q same)) ∙ absent past left k none_left
    left_by_test q false other = others q (eqb-false k q other) (stands l q)

    pub taken_out : Changes l left k None
    taken_out q = left_by_test q (k == q) refl

  -- ---- so many numbers from the least one on, so many at most in a list
  module _ (low : ℕ) where
    fewer : (n : ℕ) (l : NumberList X) → Differ past l → ((i : ℕ) → i < length l → (low ≤ number_in past l i) × (number_in past l i < low + suc n)) → Stands l (low + n)
        → ((left : NumberList X) → Differ past left → ((i : ℕ) → i < length left → (low ≤ number_in past left i) × (number_in past left i < low + n)) → length left ≤ n) → length l ≤ suc n
    fewer n l differ within (inr none) others =
        omega (arith, others l differ (λ i lt. ((within i lt).0, omega (arith, (within i lt).1, none i lt))))
    fewer n l differ within (inl (place, is)) others =
        let most = others (left l differ (low + n) place is) (differ_left l differ (low + n) place is) (λ j lt.
        let came = came_by l differ (low + n) place is j lt (j == place) refl in
        let same = ap (λ (e : ℕ × X). e.0) came.1.2 in
        (omega (arith, (within came.0 came.1.0).0, same), omega (arith, (within came.0 came.1.0).1, same, none_left l differ (low + n) place is j lt))) in
        omega (arith, shorter l differ (low + n) place is, most)

    pub few_between : (n : ℕ) (l : NumberList X) → Differ past l → ((i : ℕ) → i < length l → (low ≤ number_in past l i) × (number_in past l i < low + n)) → length l ≤ n
    few_between zero [] differ within = omega arith
    few_between zero (x ∷ l) differ within = omega (arith, (within 0 (omega arith)).0, (within 0 (omega arith)).1)
    few_between (suc n) l differ within = fewer n l differ within (stands l (low + n)) (few_between n)
