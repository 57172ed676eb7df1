-- What a requester leaves is known, and what it is given is what it remembers.
use Rattle.std.proofs.Common.{◌≡◌, ◌⊎◌, ℕ, ◌+◌, ◌-◌, ◌%◌, ◌<◌, ◌≤◌, Bool, true, false, cond, List, length, Option, Some, None, refl, sym, ap, ◌∙◌, subst, inl, inr, arith}
use Rattle.std.specs.List.{All}
use Rattle.std.specs.Prelude.{nat_lt, not, option_map, slice_get, IfSome}
use Rattle.std.proofs.lemmas.Bool.{cond-true, ltb-true, ltb-false}
use Rattle.std.proofs.lemmas.List.Elements.{All-get_or}
use Rattle.std.proofs.lemmas.Option.{get_or_from_slice_get, slice_get_within}
use Rattle.mctp_packet.specs.Ids.{IsMoment}
use Rattle.std.specs.FinMap as map
use Rattle.pldm_requester.specs.Resuming.{AreKnown, AreLeft, count_after, last_with, resumed_held, shut_memo}
use Rattle.pldm_requester.specs.Numbering.{id_of}
use Rattle.pldm_requester.specs.Slots.{AreSlots, IsInPace, IsPaced, IsStation, IsWholeBy, RequesterView, held_of, most_opened, remembered_in}
use Rattle.pldm_requester.specs.Steps.{IsHeld, Memo, is_kept, is_recent, outline_if, passes}
use Rattle.pldm_requester.specs.Courses.{is_open}
use Rattle.pldm_requester.specs.declared.openings.Openings.{Openings}
use Rattle.pldm_requester.specs.declared.pace.Pace.{Pace}
use Rattle.pldm_requester.specs.declared.timing.Timing.{Timing}
use Rattle.pldm_requester.proofs.Outlines.{paced_outlined}
use Rattle.pldm_requester.proofs.SlotLists.{recent_from, recent_parts}

-- ---- what is left
pub are_left : (station : RequesterView) (openings : Openings) → IsStation station → openings.next ≡ id_of station.count
    → length openings.moments.items ≡ length station.slots
    → ((place : ℕ) → slice_get openings.moments.items place ≡ option_map (λ memo. memo.course.opening) (slice_get station.slots place))
    → AreLeft (held_of station) openings
are_left station openings is next count each = record {
  next = next;
  used = count ∙ go (nat_lt station.count 32) refl;
  each = λ number r. each (number % 32) ∙ ap (option_map (λ memo. memo.course.opening)) (sym (cond-true (is_recent station.count number) _ _ r));
}
  where
    go : (b : Bool) → nat_lt station.count 32 ≡ b → length station.slots ≡ cond b station.count 32
    go true e = let i = ltb-true station.count 32 e in is.slots.some (omega (arith, i))
    go false e = let i = ltb-false station.count 32 e in is.slots.all i

-- the number of the last request with an instance ID, counted anew, is not above its number
paced_anew : (number : ℕ) (o : Option Memo) (moment least : ℕ) → IsPaced number o → option_map (λ memo. memo.course.opening) o ≡ Some moment → least ≤ number → least < most_opened moment
paced_anew number None moment least paced e l = cc
paced_anew number (Some memo) moment least paced e l =
    let same : memo.course.opening ≡ moment = cc in
    omega (arith, paced, same, l)

ranged : (xs : List ℕ) → All IsMoment xs → (place moment : ℕ) → slice_get xs place ≡ Some moment → moment ≤ 4000000000000000
ranged xs all place moment e =
    subst IsMoment (get_or_from_slice_get xs place moment 0 e) (All-get_or IsMoment xs place 0 (slice_get_within xs place moment e) all)

pub are_known : (station : RequesterView) (openings : Openings) (now : ℕ) → IsStation station → openings.next ≡ id_of station.count
    → length openings.moments.items ≡ length station.slots
    → ((place : ℕ) → slice_get openings.moments.items place ≡ option_map (λ memo. memo.course.opening) (slice_get station.slots place))
    → All IsMoment openings.moments.items → station.last ≤ now → AreKnown now openings
are_known station openings now is next count each all later = record {
  used = omega (arith, count, few);
  next = next ∙ anew.0;
  few = omega (arith, anew.1, is.few, later);
  each = λ id. one id (slice_get openings.moments.items id) refl;
}
  where
    ranges : (place moment : ℕ) → slice_get openings.moments.items place ≡ Some moment → moment ≤ 4000000000000000
    ranges = ranged openings.moments.items all

    few : length station.slots ≤ 32
    few = go (nat_lt station.count 32) refl
      where
        go : (b : Bool) → nat_lt station.count 32 ≡ b → length station.slots ≤ 32
        go true e = let i = ltb-true station.count 32 e in let l = is.slots.some (omega (arith, i)) in omega (arith, i, l)
        go false e = let i = ltb-false station.count 32 e in let l = is.slots.all i in omega (arith, l)

    -- all requests have a slot, or there are as many as instance IDs
    all_of : length openings.moments.items < 32 → length openings.moments.items ≡ station.count
    all_of few = go (nat_lt station.count 32) refl
      where
        go : (b : Bool) → nat_lt station.count 32 ≡ b → length openings.moments.items ≡ station.count
        go true e = let i = ltb-true station.count 32 e in count ∙ is.slots.some (omega (arith, i))
        go false e = let i = ltb-false station.count 32 e in let l = is.slots.all i in absurd (omega (arith, few, count, l))

    some_of : 32 ≤ length openings.moments.items → 32 ≤ station.count
    some_of many = go (nat_lt station.count 32) refl
      where
        go : (b : Bool) → nat_lt station.count 32 ≡ b → 32 ≤ station.count
        go true e = let i = ltb-true station.count 32 e in let l = is.slots.some (omega (arith, i)) in omega (arith, many, count, l, i)
        go false e = ltb-false station.count 32 e

    -- the same instance ID, and no more requests
    anew : (id_of station.count ≡ id_of (count_after openings)) × (count_after openings ≤ station.count) × ((32 ≤ station.count) ⊎ (count_after openings ≡ station.count))
    anew = go (nat_lt (length openings.moments.items) 32) refl
      where
        go : (b : Bool) → nat_lt (length openings.moments.items) 32 ≡ b → (id_of station.count ≡ id_of (cond b (length openings.moments.items) (32 + openings.next))) × (cond b (length openings.moments.items) (32 + openings.next) ≤ station.count) × ((32 ≤ station.count) ⊎ (cond b (length openings.moments.items) (32 + openings.next) ≡ station.count))
        go true e =
            let i = ltb-true (length openings.moments.items) 32 e in
            let same = all_of i in
            (ap id_of (sym same), omega (arith, same), inr same)
        go false e =
            let i = ltb-false (length openings.moments.items) 32 e in
            let many = some_of i in
            (omega (arith, next), omega (arith, next, many), inl many)

    -- an instance ID that was used
    used_by : (id : ℕ) → id < length station.slots → id < station.count
    used_by id l = go (nat_lt station.count 32) refl
      where
        go : (b : Bool) → nat_lt station.count 32 ≡ b → id < station.count
        go true e = let i = ltb-true station.count 32 e in let s = is.slots.some (omega (arith, i)) in omega (arith, l, s)
        go false e = let i = ltb-false station.count 32 e in let s = is.slots.all i in omega (arith, l, s, i)

    paced_at : (id n : ℕ) → id ≡ n % 32 → n < station.count → station.count ≤ n + 32 → IsPaced n (slice_get station.slots id)
    paced_at id n at l r =
        subst (IsPaced n) (cond-true (is_recent station.count n) _ _ (recent_from station.count n l r) ∙ ap (slice_get station.slots) (sym at)) (is.paced n)

    least_at : (id n c : ℕ) → id < 32 → id ≡ n % 32 → station.count ≤ n + 32 → c ≤ station.count → last_with c id ≤ n
    least_at id n c few at r up = go (nat_lt (32 + id) c) refl
      where
        go : (b : Bool) → nat_lt (32 + id) c ≡ b → cond b (32 + id) id ≤ n
        go true e = let i = ltb-true (32 + id) c e in omega (arith, i, at, r, up, few)
        go false e = omega (arith, at)

    one : (id : ℕ) (o : Option ℕ) → slice_get openings.moments.items id ≡ o → IfSome o (λ moment. (moment ≤ 4000000000000000) × (last_with (count_after openings) id < most_opened moment))
    one id None e = tt
    one id (Some moment) e =
        let within = slice_get_within openings.moments.items id moment e in
        let slot : id < length station.slots = omega (arith, within, count) in
        let below = used_by id slot in
        let small : id < 32 = omega (arith, slot, few) in
        let n = station.count - 1 - (station.count - 1 - id) % 32 in
        let at : id ≡ n % 32 = omega (arith, below, small) in
        let l : n < station.count = omega (arith, below) in
        let r : station.count ≤ n + 32 = omega (arith, below) in
        (ranges id moment e, paced_anew n (slice_get station.slots id) moment (last_with (count_after openings) id) (paced_at id n at l r) (sym (each id) ∙ e) (least_at id n (count_after openings) small at r anew.1))

-- ---- what is resumed
module _ (own device : ℕ) (timing : Timing) (pace : Pace) (now : ℕ) (openings : Openings) (are : AreKnown now openings) (slots : List Memo)
    (long : length slots ≡ length openings.moments.items)
    (each : (id : ℕ) → slice_get slots id ≡ outline_if (not (is_kept pace (count_after openings) (last_with (count_after openings) id))) (option_map (shut_memo own device id) (slice_get openings.moments.items id))) where
  slots_are : AreSlots (count_after openings) slots
  slots_are = go (nat_lt (length openings.moments.items) 32) refl
    where
      go : (b : Bool) → nat_lt (length openings.moments.items) 32 ≡ b → AreSlots (cond b (length openings.moments.items) (32 + openings.next)) slots
      go true e =
          let i = ltb-true (length openings.moments.items) 32 e in
          record { some = λ few. long; all = λ many. omega (arith, i, many) }
      go false e =
          let i = ltb-false (length openings.moments.items) 32 e in
          record { some = λ few. omega (arith, few, long, i, are.used); all = λ many. omega (arith, long, i, are.used) }

  -- there are at most 63 requests: the last number with its instance ID is its own
  number_is : (number : ℕ) → number < count_after openings → count_after openings ≤ number + 32 → number ≡ last_with (count_after openings) (number % 32)
  number_is number l r = go (nat_lt (32 + number % 32) (count_after openings)) refl
    where
      long_by : count_after openings ≤ 63
      long_by = by (nat_lt (length openings.moments.items) 32) refl are.next
        where
          by : (b : Bool) → nat_lt (length openings.moments.items) 32 ≡ b → openings.next ≡ id_of (cond b (length openings.moments.items) (32 + openings.next)) → cond b (length openings.moments.items) (32 + openings.next) ≤ 63
          by true e next = let i = ltb-true (length openings.moments.items) 32 e in omega (arith, i)
          by false e next = omega (arith, next)

      go : (b : Bool) → nat_lt (32 + number % 32) (count_after openings) ≡ b → number ≡ cond b (32 + number % 32) (number % 32)
      go true e = let i = ltb-true (32 + number % 32) (count_after openings) e in omega (arith, i, l, r, long_by)
      go false e = let i = ltb-false (32 + number % 32) (count_after openings) e in omega (arith, i, l, r, long_by)

  pub remembered_again : (number : ℕ) → remembered_in (count_after openings) slots number ≡ (resumed_held own device timing pace now openings).remembered number
  remembered_again number =
      ap (λ o. cond (is_recent (count_after openings) number) o None) (each (number % 32)) ∙ go (is_recent (count_after openings) number) refl
    where
      o : Option Memo
      o = option_map (shut_memo own device (number % 32)) (slice_get openings.moments.items (number % 32))

      go : (b : Bool) → is_recent (count_after openings) number ≡ b
          → cond b (outline_if (not (is_kept pace (count_after openings) (last_with (count_after openings) (number % 32)))) o) None
          ≡ cond b (outline_if (not (is_kept pace (count_after openings) number)) o) None
      go true e =
          let parts = recent_parts (count_after openings) number e in
          ap (λ n. outline_if (not (is_kept pace (count_after openings) n)) o) (sym (number_is number parts.0 parts.1))
      go false e = refl

  shut_again : (number : ℕ) → passes is_open (remembered_in (count_after openings) slots number) ≡ false
  shut_again number = ap (passes is_open) (remembered_again number) ∙ go (is_recent (count_after openings) number) (not (is_kept pace (count_after openings) number)) (slice_get openings.moments.items (number % 32))
    where
      go : (b k : Bool) (o : Option ℕ) → passes is_open (cond b (outline_if k (option_map (shut_memo own device (number % 32)) o)) None) ≡ false
      go true true None = refl
      go true false None = refl
      go true true (Some moment) = refl
      go true false (Some moment) = refl
      go false k o = refl

  paced_again : (number : ℕ) → IsPaced number (remembered_in (count_after openings) slots number)
  paced_again number = subst (IsPaced number) (sym (remembered_again number)) (go (is_recent (count_after openings) number) refl)
    where
      o : Option Memo
      o = option_map (shut_memo own device (number % 32)) (slice_get openings.moments.items (number % 32))

      one : (x : Option ℕ) → IfSome x (λ moment. (moment ≤ 4000000000000000) × (last_with (count_after openings) (number % 32) < most_opened moment)) → number ≡ last_with (count_after openings) (number % 32)
          → IsPaced number (option_map (shut_memo own device (number % 32)) x)
      one None k up = tt
      one (Some moment) k up = omega (arith, k.1, up)

      go : (b : Bool) → is_recent (count_after openings) number ≡ b → IsPaced number (cond b (outline_if (not (is_kept pace (count_after openings) number)) o) None)
      go true e =
          let parts = recent_parts (count_after openings) number e in
          paced_outlined number (not (is_kept pace (count_after openings) number)) o (one (slice_get openings.moments.items (number % 32)) (are.each (number % 32)) (number_is number parts.0 parts.1))
      go false e = tt

  whole_again : (number : ℕ) → IsWholeBy pace (count_after openings) number (remembered_in (count_after openings) slots number)
  whole_again number = subst (IsWholeBy pace (count_after openings) number) (sym (remembered_again number)) (go (is_recent (count_after openings) number) (is_kept pace (count_after openings) number) refl (slice_get openings.moments.items (number % 32)))
    where
      go : (b k : Bool) → is_kept pace (count_after openings) number ≡ k → (o : Option ℕ) → IsWholeBy pace (count_after openings) number (cond b (outline_if (not k) (option_map (shut_memo own device (number % 32)) o)) None)
      go true true e None = tt
      go true false e None = tt
      go true true e (Some moment) = sym e
      go true false e (Some moment) = sym e
      go false k e o = tt

  pub is_station : (station : RequesterView) → IsInPace station.timing station.pace → station.pace ≡ pace → station.count ≡ count_after openings → station.slots ≡ slots → station.last ≡ now → IsStation station
  is_station station in_pace p c s l = record {
    pace = in_pace;
    slots = subst (λ (n : ℕ). AreSlots n station.slots) (sym c) (subst (AreSlots (count_after openings)) (sym s) slots_are);
    few = omega (arith, are.few, c, l);
    paced = λ number. subst (IsPaced number) (sym (same number c s)) (paced_again number);
    shut = λ number old. ap (passes is_open) (same number c s) ∙ shut_again number;
    whole = λ number. subst (λ (n : ℕ). IsWholeBy station.pace n number (remembered_in station.count station.slots number)) (sym c)
        (subst (λ (x : Pace). IsWholeBy x (count_after openings) number (remembered_in station.count station.slots number)) (sym p) (subst (IsWholeBy pace (count_after openings) number) (sym (same number c s)) (whole_again number)));
  }
    where
      same : (number : ℕ) → station.count ≡ count_after openings → station.slots ≡ slots → remembered_in station.count station.slots number ≡ remembered_in (count_after openings) slots number
      same number c s = ap (λ (n : ℕ). remembered_in n station.slots number) c ∙ ap (λ xs. remembered_in (count_after openings) xs number) s

  pub is_held_again : (station : RequesterView) → station.own ≡ own → station.device ≡ device → station.timing ≡ timing → station.pace ≡ pace → station.count ≡ count_after openings → station.slots ≡ slots
      → station.open_messages ≡ map.empty → station.last ≡ now → IsHeld (held_of station) (resumed_held own device timing pace now openings)
  is_held_again station o d t p c s m l = record {
    own = o;
    device = d;
    timing = t;
    pace = p;
    count = c;
    remembered = λ number. ap (λ (n : ℕ). remembered_in n station.slots number) c ∙ ap (λ xs. remembered_in (count_after openings) xs number) s ∙ remembered_again number;
    open_messages = m;
    last = l;
  }
