-- What becomes of a ring of links when a slot is taken out of it, or put behind the others.
use Rattle.std.proofs.Common.{◌≡◌, ◌≢◌, ℕ, zero, suc, ◌+◌, ◌-◌, ◌<◌, ◌≤◌, true, false, List, [], ◌∷◌, ◌++◌, length, Option, Some, None, refl, sym, ap, ◌∙◌, subst, arith, eqb-true}
use Rattle.std.specs.Prelude.{◌==◌, map, slice_index, slice_set, option_map, IsSome}
use Rattle.std.proofs.lemmas.Bool.{eqb-false}
use Rattle.std.proofs.lemmas.List.{get_or-set_other, get_or-set_same, length-append, length-set, map_push}
use Rattle.pldm_responder.specs.Orders.{slot_in}
use Rattle.pldm_responder.specs.Recency.{of_number, without, IsApart, AllBelow}
use Rattle.pldm_responder.specs.Rings.{AreLinked, IsRing, itself, order_of, places_after, with_id}
use Rattle.pldm_responder.specs.declared.order.Indexed.{Indexed}
use Rattle.pldm_responder.proofs.RecentFirst.{by_test, found_later, dropped, stays, all_others, none_later, apart_without, below_without, found_in_map, without_in_map, no_more}
use Rattle.pldm_responder.proofs.SlotOrders.{apart_push, below_push, below_none, one_fewer}

-- ---- what holds of each of these
abbrev Each : (ℕ → Type 0) → List ℕ → Type 0
Each Q [] = Unit {0}
Each Q (x ∷ xs) = Q x × Each Q xs

others : (u : ℕ) (xs : List ℕ) → of_number itself u xs ≡ None → Each (λ x. x ≢ u) xs
others u [] none = tt
others u (x ∷ xs) none =
    let parts = none_later itself u x xs none in
    (eqb-false x u parts.0, others u xs parts.1)

low : (xs : List ℕ) → AllBelow itself 32 xs → Each (λ x. x < 33) xs
low [] below = tt
low (x ∷ xs) below = (let b = below.0 in omega (arith, b), low xs below.1)

low_one : (s : ℕ) (xs : List ℕ) → IsSome (of_number itself s xs) → AllBelow itself 32 xs → s < 33
low_one s [] has below = absurd (cc)
low_one s (x ∷ xs) has below =
    by_test (x == s)
    (λ (same : (x == s) ≡ true). let b = below.0 in omega (arith, b, eqb-true x s same))
    (λ (other : (x == s) ≡ false). low_one s xs (subst IsSome (found_later itself s x xs other) has) below.1)

-- ---- where links lead
module _ (next previous : List ℕ) (Q : ℕ → Type 0) where
  before_end : (from : ℕ) (xs : List ℕ) (to : ℕ) → AreLinked next previous from xs to → Q from → Each Q xs → Q (slice_index previous to)
  before_end from [] to are q each = subst Q (sym are.1) q
  before_end from (x ∷ xs) to are q each = before_end x xs to are.2 each.0 each.1

  after_first : (from : ℕ) (xs : List ℕ) (to : ℕ) → AreLinked next previous from xs to → Each Q xs → Q to → Q (slice_index next from)
  after_first from [] to are each q = subst Q (sym are.0) q
  after_first from (x ∷ xs) to are each q = subst Q (sym are.0) each.0

  before_slot : (s from : ℕ) (xs : List ℕ) (to : ℕ) → AreLinked next previous from xs to → IsSome (of_number itself s xs) → Q from → Each Q xs → Q (slice_index previous s)
  before_slot s from [] to are has q each = absurd (cc)
  before_slot s from (x ∷ xs) to are has q each =
      by_test (x == s)
      (λ (same : (x == s) ≡ true). subst Q (sym are.1 ∙ ap (λ i. slice_index previous i) (eqb-true x s same)) q)
      (λ (other : (x == s) ≡ false). before_slot s x xs to are.2 (subst IsSome (found_later itself s x xs other) has) each.0 each.1)

  after_slot : (s from : ℕ) (xs : List ℕ) (to : ℕ) → AreLinked next previous from xs to → IsSome (of_number itself s xs) → Each Q xs → Q to → Q (slice_index next s)
  after_slot s from [] to are has each q = absurd (cc)
  after_slot s from (x ∷ xs) to are has each q =
      by_test (x == s)
      (λ (same : (x == s) ≡ true). subst (λ i. Q (slice_index next i)) (eqb-true x s same) (after_first x xs to are.2 each.1 q))
      (λ (other : (x == s) ≡ false). after_slot s x xs to are.2 (subst IsSome (found_later itself s x xs other) has) each.1 q)

-- the links name the slots
named : (next previous : List ℕ) (from : ℕ) (xs : List ℕ) (to : ℕ) → AreLinked next previous from xs to → places_after next from (length xs) ≡ xs
named next previous from [] to are = refl
named next previous from (x ∷ xs) to are =
    λ i. are.0 i ∷ (ap (λ place. places_after next place (length xs)) are.0 ∙ named next previous x xs to are.2) i

pub as_many : (next : List ℕ) (place n : ℕ) → length (places_after next place n) ≡ n
as_many next place zero = refl
as_many next place (suc n) = ap suc (as_many next (slice_index next place) n)

-- ---- links of other places change
module _ (next previous later earlier : List ℕ) (a b : ℕ) (same_next : (i : ℕ) → i ≢ a → slice_index later i ≡ slice_index next i) (same_previous : (i : ℕ) → i ≢ b → slice_index earlier i ≡ slice_index previous i) where
  still_linked : (from : ℕ) (xs : List ℕ) (to : ℕ) → AreLinked next previous from xs to → from ≢ a → Each (λ x. x ≢ a) xs → Each (λ x. x ≢ b) xs → to ≢ b → AreLinked later earlier from xs to
  still_linked from [] to are not_a none_a none_b not_b = (same_next from not_a ∙ are.0, same_previous to not_b ∙ are.1)
  still_linked from (x ∷ xs) to are not_a none_a none_b not_b =
      (same_next from not_a ∙ are.0, same_previous x none_b.0 ∙ are.1, still_linked x xs to are.2 none_a.0 none_a.1 none_b.1 not_b)

-- ---- a slot is taken out
module _ (next previous later earlier : List ℕ) (s before after : ℕ) (before_is : slice_index previous s ≡ before) (after_is : slice_index next s ≡ after)
    (at_next : slice_index later before ≡ after) (same_next : (i : ℕ) → i ≢ before → slice_index later i ≡ slice_index next i)
    (at_previous : slice_index earlier after ≡ before) (same_previous : (i : ℕ) → i ≢ after → slice_index earlier i ≡ slice_index previous i) where
  joined : (from x : ℕ) (xs : List ℕ) (to : ℕ) → x ≡ s → before ≡ from → AreLinked next previous x xs to → Each (λ y. y ≢ from) xs → IsApart itself xs → Each (λ y. y ≢ to) xs → AreLinked later earlier from xs to
  joined from x [] to is first are ef apart et =
      let ends : after ≡ to = sym after_is ∙ ap (λ i. slice_index next i) (sym is) ∙ are.0 in
      (ap (λ i. slice_index later i) (sym first) ∙ at_next ∙ ends, ap (λ i. slice_index earlier i) (sym ends) ∙ at_previous ∙ first)
  joined from x (y ∷ ys) to is first are ef apart et =
      let goes : after ≡ y = sym after_is ∙ ap (λ i. slice_index next i) (sym is) ∙ are.0 in (
        ap (λ i. slice_index later i) (sym first) ∙ at_next ∙ goes,
        ap (λ i. slice_index earlier i) (sym goes) ∙ at_previous ∙ first,
        still_linked next previous later earlier before after same_next same_previous y ys to are.2
            (λ e. ef.0 (e ∙ first))
            (subst (λ i. Each (λ u. u ≢ i) ys) (sym first) ef.1)
            (subst (λ i. Each (λ u. u ≢ i) ys) (sym goes) (others y ys apart.0))
            (λ e. et.0 (sym goes ∙ sym e)),
      )

  taken : (from : ℕ) (xs : List ℕ) (to : ℕ) → AreLinked next previous from xs to → IsSome (of_number itself s xs) → Each (λ y. y ≢ from) xs → IsApart itself xs → Each (λ y. y ≢ to) xs → AreLinked later earlier from (without itself s xs) to
  taken from [] to are has ef apart et = absurd (cc)
  taken from (x ∷ xs) to are has ef apart et =
      by_test (x == s)
      (λ (same : (x == s) ≡ true).
      let is = eqb-true x s same in
      let none : of_number itself s xs ≡ None = ap (λ m. of_number itself m xs) (sym is) ∙ apart.0 in
      subst (λ ys. AreLinked later earlier from ys to) (sym (dropped itself s x xs same ∙ all_others itself s xs none))
      (joined from x xs to is (sym before_is ∙ ap (λ i. slice_index previous i) (sym is) ∙ are.1) are.2 ef.1 apart.1 et.1))
      (λ (other : (x == s) ≡ false).
      let later_has = subst IsSome (found_later itself s x xs other) has in
      let not_first : slice_index previous s ≢ from = before_slot next previous (λ u. u ≢ from) s x xs to are.2 later_has ef.0 ef.1 in
      let not_here : slice_index next s ≢ x = after_slot next previous (λ u. u ≢ x) s x xs to are.2 later_has (others x xs apart.0) (λ e. et.0 (sym e)) in
      subst (λ ys. AreLinked later earlier from ys to) (sym (stays itself s x xs other)) (
        same_next from (λ e. not_first (before_is ∙ sym e)) ∙ are.0,
        same_previous x (λ e. not_here (after_is ∙ sym e)) ∙ are.1,
        taken x xs to are.2 later_has (others x xs apart.0) apart.1 et.1,
      ))

-- ---- a slot is put behind
module _ (next previous later earlier : List ℕ) (s last to : ℕ) (last_is : slice_index previous to ≡ last)
    (at_last : last ≢ s → slice_index later last ≡ s) (at_next : slice_index later s ≡ to) (same_next : (i : ℕ) → i ≢ last → i ≢ s → slice_index later i ≡ slice_index next i)
    (at_end : slice_index earlier to ≡ s) (at_previous : slice_index earlier s ≡ last) (same_previous : (i : ℕ) → i ≢ s → i ≢ to → slice_index earlier i ≡ slice_index previous i) where
  pushed : (from : ℕ) (xs : List ℕ) → AreLinked next previous from xs to → from ≢ s → Each (λ y. y ≢ s) xs → Each (λ y. y ≢ from) xs → IsApart itself xs → Each (λ y. y ≢ to) xs → AreLinked later earlier from (xs ++ s ∷ []) to
  pushed from [] are not_s es ef apart et =
      let is : last ≡ from = sym last_is ∙ are.1 in
      (ap (λ i. slice_index later i) (sym is) ∙ at_last (λ e. not_s (sym is ∙ e)), at_previous ∙ is, (at_next, at_end))
  pushed from (x ∷ xs) are not_s es ef apart et =
      let not_last : slice_index previous to ≢ from = before_end next previous (λ u. u ≢ from) x xs to are.2 ef.0 ef.1 in (
        same_next from (λ e. not_last (last_is ∙ sym e)) not_s ∙ are.0,
        same_previous x es.0 et.0 ∙ are.1,
        pushed x xs are.2 es.0 es.1 (others x xs apart.0) apart.1 et.1,
      )

-- ---- a ring
module _ (next previous slots : List ℕ) (ring : IsRing next previous slots) where
  no_end : Each (λ y. y ≢ 32) slots
  no_end = others 32 slots (below_none itself 32 slots ring.below)

  pub last_low : slice_index previous 32 < 33
  last_low = before_end next previous (λ u. u < 33) 32 slots 32 ring.links (omega arith) (low slots ring.below)

  ring_taken : (s : ℕ) → IsSome (of_number itself s slots) → slice_index previous s < 33 → slice_index next s < 33 → length next ≡ 33 → length previous ≡ 33
      → IsRing (slice_set next (slice_index previous s) (slice_index next s)) (slice_set previous (slice_index next s) (slice_index previous s)) (without itself s slots)
  ring_taken s has before_low after_low all_next all_previous =
      let before = slice_index previous s in
      let after = slice_index next s in
      record {
        links = taken next previous (slice_set next before after) (slice_set previous after before) s before after refl refl
            (get_or-set_same next before after 0 (omega (arith, before_low, all_next))) (λ i other. get_or-set_other next before i after 0 other)
            (get_or-set_same previous after before 0 (omega (arith, after_low, all_previous))) (λ i other. get_or-set_other previous after i before 0 other)
            32 slots 32 ring.links has no_end ring.apart no_end;
        apart = apart_without itself s slots ring.apart;
        below = below_without itself s 32 slots ring.below;
      }

  ring_pushed : (s : ℕ) → s < 32 → of_number itself s slots ≡ None → length next ≡ 33 → length previous ≡ 33
      → IsRing (slice_set (slice_set next (slice_index previous 32) s) s 32) (slice_set (slice_set previous s (slice_index previous 32)) 32 s) (slots ++ s ∷ [])
  ring_pushed s small none all_next all_previous =
      let last = slice_index previous 32 in
      let first = slice_set next last s in
      let second = slice_set previous s last in
      let not_end : s ≢ 32 = λ e. omega (arith, e, small) in
      record {
        links = pushed next previous (slice_set first s 32) (slice_set second 32 s) s last 32 refl
            (λ other. get_or-set_other first s last 32 0 other ∙ get_or-set_same next last s 0 (let l = last_low in omega (arith, l, all_next)))
            (get_or-set_same first s 32 0 (let l = length-set next last s in omega (arith, l, all_next, small)))
            (λ i apart other. get_or-set_other first s i 32 0 other ∙ get_or-set_other next last i s 0 apart)
            (get_or-set_same second 32 s 0 (let l = length-set previous s last in omega (arith, l, all_previous)))
            (get_or-set_other second 32 s s 0 not_end ∙ get_or-set_same previous s last 0 (omega (arith, all_previous, small)))
            (λ i other apart. get_or-set_other second 32 i s 0 apart ∙ get_or-set_other previous s i last 0 other)
            32 slots ring.links (λ e. not_end (sym e)) (others s slots none) no_end ring.apart no_end;
        apart = apart_push itself s slots ring.apart none;
        below = below_push itself 32 s slots ring.below small;
      }

-- ---- as many steps along it
stepped : (next previous slots : List ℕ) (count : ℕ) → IsRing next previous slots → length slots ≡ count → places_after next 32 count ≡ slots
stepped next previous slots count ring all = ap (λ n. places_after next 32 n) (sym all) ∙ named next previous 32 slots 32 ring.links

-- the same with instance IDs
module _ (ids : List ℕ) where
  found_slot : (s : ℕ) (slots : List ℕ) → of_number slot_in s (map (with_id ids) slots) ≡ option_map (with_id ids) (of_number itself s slots)
  found_slot s slots = found_in_map itself slot_in (with_id ids) (λ x. refl) s slots

  without_slot : (s : ℕ) (slots : List ℕ) → map (with_id ids) (without itself s slots) ≡ without slot_in s (map (with_id ids) slots)
  without_slot s slots = sym (without_in_map itself slot_in (with_id ids) (λ x. refl) s slots)

  none_slot : (s : ℕ) (slots : List ℕ) → of_number slot_in s (map (with_id ids) slots) ≡ None → of_number itself s slots ≡ None
  none_slot s slots none = go (of_number itself s slots) (sym (found_slot s slots) ∙ none)
    where
      go : (o : Option ℕ) → option_map (with_id ids) o ≡ None → o ≡ None
      go None e = refl
      go (Some x) e = absurd (cc)

  some_slot : (s : ℕ) (slots : List ℕ) → IsSome (of_number slot_in s (map (with_id ids) slots)) → IsSome (of_number itself s slots)
  some_slot s slots some = go (of_number itself s slots) (subst IsSome (found_slot s slots) some)
    where
      go : (o : Option ℕ) → IsSome (option_map (with_id ids) o) → IsSome o
      go None e = absurd (cc)
      go (Some x) e = refl

  -- a slot that none of these is gets another instance ID
  other_ids : (s id : ℕ) (slots : List ℕ) → Each (λ y. y ≢ s) slots → map (with_id (slice_set ids s id)) slots ≡ map (with_id ids) slots
  other_ids s id [] each = refl
  other_ids s id (x ∷ xs) each =
      λ i. record { id = get_or-set_other ids s x id 0 each.0 i; slot = x } ∷ other_ids s id xs each.1 i

  pushed_slot : (s id : ℕ) (slots : List ℕ) → s < length ids → of_number itself s slots ≡ None
      → map (with_id (slice_set ids s id)) (slots ++ s ∷ []) ≡ map (with_id ids) slots ++ record { id = id; slot = s } ∷ []
  pushed_slot s id slots there none =
      map_push (with_id (slice_set ids s id)) slots s
      ∙ (λ i. other_ids s id slots (others s slots none) i ++ record { id = get_or-set_same ids s id 0 there i; slot = s } ∷ [])

-- ---- by the steps of `take`
module _ (ids next previous : List ℕ) (count s : ℕ) (old : List Indexed) (view_is : order_of ids next count ≡ old) (ring : IsRing next previous (places_after next 32 count)) (used : IsSome (of_number slot_in s old)) where
  has : IsSome (of_number itself s (places_after next 32 count))
  has = some_slot ids s (places_after next 32 count) (subst (λ o. IsSome (of_number slot_in s o)) (sym view_is) used)

  pub slot_low : s < 33
  slot_low = low_one s (places_after next 32 count) has ring.below

  pub before_low : slice_index previous s < 33
  before_low = before_slot next previous (λ u. u < 33) s 32 (places_after next 32 count) 32 ring.links has (omega arith) (low (places_after next 32 count) ring.below)

  pub after_low : slice_index next s < 33
  after_low = after_slot next previous (λ u. u < 33) s 32 (places_after next 32 count) 32 ring.links has (low (places_after next 32 count) ring.below) (omega arith)

  module _ (a b before after : ℕ) (a_is : a ≡ s) (b_is : b ≡ s) (before_is : before ≡ slice_index previous a) (after_is : after ≡ slice_index next b) (all_next : length next ≡ 33) (all_previous : length previous ≡ 33) where
    abbrev later : List ℕ
    later = slice_set next before (slice_index next b)

    abbrev earlier : List ℕ
    earlier = slice_set previous after (slice_index previous a)

    taken_out : IsRing later earlier (without itself s (places_after next 32 count))
    taken_out =
        subst (λ (links : List ℕ × List ℕ). IsRing links.0 links.1 (without itself s (places_after next 32 count)))
        (λ i. (
          slice_set next (sym (before_is ∙ ap (λ j. slice_index previous j) a_is) i) (slice_index next (sym b_is i)),
          slice_set previous (sym (after_is ∙ ap (λ j. slice_index next j) b_is) i) (slice_index previous (sym a_is i)),
        ))
        (ring_taken next previous (places_after next 32 count) ring s has before_low after_low all_next all_previous)

    left : places_after later 32 (count - 1) ≡ without itself s (places_after next 32 count)
    left =
        let fewer = one_fewer itself s (places_after next 32 count) ring.apart has in
        stepped later earlier (without itself s (places_after next 32 count)) (count - 1) taken_out (omega (arith, fewer, as_many next 32 count))

    pub still_ring : IsRing later earlier (places_after later 32 (count - 1))
    still_ring = subst (IsRing later earlier) (sym left) taken_out

    pub order_left : order_of ids later (count - 1) ≡ without slot_in s old
    order_left = ap (map (with_id ids)) left ∙ without_slot ids s (places_after next 32 count) ∙ ap (without slot_in s) view_is

-- ---- by the steps of `push`
module _ (ids next previous : List ℕ) (count s id : ℕ) (old : List Indexed) (view_is : order_of ids next count ≡ old) (ring : IsRing next previous (places_after next 32 count)) (small : s < 32) (fresh : of_number slot_in s old ≡ None) where
  none : of_number itself s (places_after next 32 count) ≡ None
  none = none_slot ids s (places_after next 32 count) (ap (of_number slot_in s) view_is ∙ fresh)

  module _ (a last b c d e : ℕ) (a_is : a ≡ 32) (last_is : last ≡ slice_index previous a) (b_is : b ≡ s) (c_is : c ≡ s) (d_is : d ≡ 32) (e_is : e ≡ s) (all_ids : length ids ≡ 32) (all_next : length next ≡ 33) (all_previous : length previous ≡ 33) where
    abbrev next_now : List ℕ
    next_now = slice_set (slice_set next last s) c 32

    abbrev previous_now : List ℕ
    previous_now = slice_set (slice_set previous b (slice_index previous a)) d s

    put_behind : IsRing next_now previous_now (places_after next 32 count ++ s ∷ [])
    put_behind =
        subst (λ (links : List ℕ × List ℕ). IsRing links.0 links.1 (places_after next 32 count ++ s ∷ []))
        (λ i. (
          slice_set (slice_set next (sym (last_is ∙ ap (λ j. slice_index previous j) a_is) i) s) (sym c_is i) 32,
          slice_set (slice_set previous (sym b_is i) (slice_index previous (sym a_is i))) (sym d_is i) s,
        ))
        (ring_pushed next previous (places_after next 32 count) ring s small none all_next all_previous)

    longer : places_after next_now 32 (count + 1) ≡ places_after next 32 count ++ s ∷ []
    longer = stepped next_now previous_now (places_after next 32 count ++ s ∷ []) (count + 1) put_behind (length-append (places_after next 32 count) (s ∷ []) ∙ ap (λ n. n + 1) (as_many next 32 count))

    pub ring_behind : IsRing next_now previous_now (places_after next_now 32 (count + 1))
    ring_behind = subst (IsRing next_now previous_now) (sym longer) put_behind

    pub order_behind : order_of (slice_set ids e id) next_now (count + 1) ≡ old ++ record { id = id; slot = s } ∷ []
    order_behind =
        (λ i. map (with_id (slice_set ids (e_is i) id)) (longer i))
        ∙ pushed_slot ids s id (places_after next 32 count) (omega (arith, all_ids, small)) none
        ∙ ap (λ o. o ++ record { id = id; slot = s } ∷ []) view_is

pub few_used : (next previous : List ℕ) (count : ℕ) → IsRing next previous (places_after next 32 count) → count ≤ 32
few_used next previous count ring = omega (arith, no_more itself 32 (places_after next 32 count) ring.apart ring.below, as_many next 32 count)
