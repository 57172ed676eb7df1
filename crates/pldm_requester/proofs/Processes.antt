-- What a requester that goes on knows of the openings before it, and that it opens nothing too early.
use Rattle.std.proofs.Common.{◌≡◌, ◌⊎◌, ℕ, ◌+◌, ◌-◌, ◌*◌, ◌<◌, ◌≤◌, Bool, true, false, cond, not, ◌&&◌, ◌||◌, List, [], ◌∷◌, ◌++◌, length, Option, Some, None, refl, sym, ap, ◌∙◌, subst, inl, inr, ⊎_elim, arith, eq-eqb, eqb-true}
use Rattle.std.specs.Prelude.{◌==◌, nat_lt, nat_le, option_map, slice_get}
use Rattle.std.specs.List.{All}
use Rattle.std.proofs.lemmas.Bool.{and_cases, cases_eq, cond-true, cond-false, leb-false, ltb-true, ltb-false, ne_eqb}
use Rattle.std.proofs.lemmas.List.Elements.{All-cons, All-weaker}
use Rattle.std.proofs.lemmas.Option.{slice_get_within}
use Rattle.pldm_requester.specs.Asks.{Ask}
use Rattle.pldm_requester.specs.Arrivals.{Arrival, Drop, Part, Answer}
use Rattle.pldm_requester.specs.Calls.{Call, OpenRequest, Tick, Receive}
use Rattle.pldm_requester.specs.Courses.{Course, answered, ticked}
use Rattle.pldm_requester.specs.Pacing.{is_too_soon, kept as kept_whole}
use Rattle.pldm_requester.specs.Numbering.{id_of}
use Rattle.pldm_requester.specs.Steps.{Memo, RequesterState, accepts, arrived_by, courses_since, is_id_in_use, is_kept, is_recent, memo_with, opened_with, outline_if, passed, passes, received_held, remembered_after, ticked_held, with_course}
use Rattle.pldm_requester.specs.Resuming.{AreKnown, AreLeft, count_after, resumed_held, shut_memo}
use Rattle.pldm_requester.specs.Processes.{AreApart, IdsApartOverProcesses, IsLongBefore, Knows, Opening, PassedOn, after, opened_by}
use Rattle.pldm_requester.specs.declared.openings.Openings.{Openings}
use Rattle.pldm_requester.specs.declared.pace.Pace.{Pace}
use Rattle.pldm_requester.specs.declared.timing.Timing.{Timing}
use Rattle.pldm_requester.proofs.OpenRequests.{ticked_opening}
use Rattle.pldm_requester.proofs.SlotLists.{recent_from, recent_parts}

abbrev opening_in : Option Memo → Option ℕ
opening_in o = option_map (λ memo. memo.course.opening) o

-- a request with the opening's instance ID is remembered that was opened at its moment or later
abbrev Remembers : RequesterState → Opening → Type 0
Remembers held o =
    (n : ℕ) × (moment : ℕ) × (id_of n ≡ o.id) × (opening_in (held.remembered n) ≡ Some moment) × (o.moment ≤ moment)

record IsPassedOn (pace : Pace) (held : RequesterState) (opened : List Opening) : Type 0 where
  paces : held.pace ≡ pace
  recent : (n moment : ℕ) → opening_in (held.remembered n) ≡ Some moment → is_recent held.count n ≡ true
  known : All (Remembers held) opened

-- ---- what opens nothing changes no opening
same : (pace : Pace) (held new : RequesterState) (opened : List Opening) → new.pace ≡ held.pace → new.count ≡ held.count
    → ((n : ℕ) → opening_in (new.remembered n) ≡ opening_in (held.remembered n)) → IsPassedOn pace held opened → IsPassedOn pace new opened
same pace held new opened t c each p = record {
  paces = t ∙ p.paces;
  recent = λ n m e. ap (λ (k : ℕ). is_recent k n) c ∙ p.recent n m (sym (each n) ∙ e);
  known = All-weaker (Remembers held) (Remembers new) (λ o k. (k.0, k.1, k.2, each k.0 ∙ k.3, k.4)) opened p.known;
}

ticked_same : (timing : Timing) (moment : ℕ) (o : Option Memo) → opening_in (option_map (with_course (ticked timing moment)) o) ≡ opening_in o
ticked_same timing moment None = refl
ticked_same timing moment (Some memo) = ap Some (ticked_opening timing moment memo.course)

answered_same : (b : Bool) (message : List ℕ) (o : Option Memo) → opening_in (cond b (option_map (with_course (answered message)) o) o) ≡ opening_in o
answered_same true message None = refl
answered_same true message (Some memo) = refl
answered_same false message o = refl

arrived_same : (held : RequesterState) (arrival : Arrival) (number : ℕ) → opening_in (remembered_after held arrival number) ≡ opening_in (held.remembered number)
arrived_same held (Drop reason) number = refl
arrived_same held Part number = refl
arrived_same held (Answer n message) number = answered_same (number == n) message (held.remembered number)

outlined_same : (b : Bool) (o : Option Memo) → opening_in (outline_if b o) ≡ opening_in o
outlined_same true None = refl
outlined_same true (Some memo) = refl
outlined_same false o = refl

-- ---- an opening
or_first : (a b : Bool) → (a || b) ≡ false → a ≡ false
or_first true b h = cc
or_first false b h = refl

accepted_free : (a b : Bool) → (not a && not b) ≡ true → b ≡ false
accepted_free false false h = refl
accepted_free true b h = cc
accepted_free false true h = cc

passes_free : (keep : ℕ) (pace : Pace) (moment : ℕ) (since : List Course) (o : Option Memo) (m : ℕ) → passes (λ before. is_too_soon keep pace moment before.opening since) o ≡ false → opening_in o ≡ Some m → m + 2 * pace.lifetime ≤ moment
passes_free keep pace moment since None m h e = cc
passes_free keep pace moment since (Some memo) m h e =
    let i = ltb-false moment (memo.course.opening + 2 * pace.lifetime) (or_first _ _ h) in
    let s : memo.course.opening ≡ m = cc in
    omega (arith, i, s)

free : (held : RequesterState) (moment n m : ℕ) → is_id_in_use held moment ≡ false → n + 32 ≡ held.count → opening_in (held.remembered n) ≡ Some m → m + 2 * held.pace.lifetime ≤ moment
free held moment n m h at e =
    ⊎_elim
    (λ (x : nat_le 32 held.count ≡ false). let i = leb-false 32 held.count x in absurd (omega (arith, i, at)))
    (λ (x : passes (λ before. is_too_soon held.timing.keep held.pace moment before.opening (courses_since held)) (held.remembered (held.count - 32)) ≡ false).
    let here : held.count - 32 ≡ n = omega (arith, at) in
    passes_free held.timing.keep held.pace moment (courses_since held) (held.remembered n) m
    (subst (λ (k : ℕ). passes (λ before. is_too_soon held.timing.keep held.pace moment before.opening (courses_since held)) (held.remembered k) ≡ false) here x) e)
    (and_cases (nat_le 32 held.count) _ (or_first _ _ h))

-- the last request with the instance ID of the next one is the one 32 before it
long_before : (held : RequesterState) (moment : ℕ) (o : Opening) → is_id_in_use held moment ≡ false
    → ((n m : ℕ) → opening_in (held.remembered n) ≡ Some m → is_recent held.count n ≡ true) → Remembers held o
    → o.id ≡ id_of held.count → o.moment + 2 * held.pace.lifetime ≤ moment
long_before held moment o h recent k is =
    let parts = recent_parts held.count k.0 (recent k.0 k.1 k.3) in
    let both : id_of k.0 ≡ id_of held.count = k.2 ∙ is in
    let at : k.0 + 32 ≡ held.count = omega (arith, parts.0, parts.1, both) in
    let m = free held moment k.0 k.1 h at k.3 in
    omega (arith, m, k.4)

recent_by : (b r : Bool) (new : Memo) (o : Option Memo) (m : ℕ) → opening_in (cond b (Some new) (cond r o None)) ≡ Some m → (b ≡ true) ⊎ (r ≡ true)
recent_by true r new o m e = inl refl
recent_by false true new o m e = inr refl
recent_by false false new o m e = cc

module _ (pace : Pace) (held : RequesterState) (moment : ℕ) (ask : Ask) (opened : List Opening) (p : IsPassedOn pace held opened) (ok : accepts held moment ≡ true) where
  abbrev new_one : Opening
  new_one = record { id = id_of held.count; moment = moment }

  is_free : is_id_in_use held moment ≡ false
  is_free = accepted_free _ _ ok

  kept : (n : ℕ) → (n ≡ held.count → ⊥) → is_recent (held.count + 1) n ≡ true → opening_in ((opened_with held moment ask).remembered n) ≡ opening_in (held.remembered n)
  kept n other r = ap opening_in (cond-false (n == held.count) _ _ (ne_eqb n held.count other) ∙ cond-true (is_recent (held.count + 1) n) _ _ r) ∙ outlined_same (n + kept_whole held.pace == held.count) (held.remembered n)

  here : (n : ℕ) → n ≡ held.count → opening_in ((opened_with held moment ask).remembered n) ≡ Some moment
  here n e = ap opening_in (cond-true (n == held.count) _ _ (eq-eqb n held.count e))

  each : (o : Opening) → Remembers held o → Remembers (opened_with held moment ask) o
  each o k = ⊎_elim
      (λ (e : k.0 + 32 ≡ held.count).
      let m = free held moment k.0 k.1 is_free e k.3 in
      let a : id_of held.count ≡ id_of k.0 = omega (arith, e) in
      (held.count, moment, a ∙ k.2, here held.count refl, omega (arith, m, k.4)))
      (λ (e : k.0 + 32 ≡ held.count → ⊥).
      let parts = recent_parts held.count k.0 (p.recent k.0 k.1 k.3) in
      let r : is_recent (held.count + 1) k.0 ≡ true = recent_from (held.count + 1) k.0 (omega (arith, parts.0)) (omega (arith, parts.1, e)) in
      (k.0, k.1, k.2, kept k.0 (λ s. omega (arith, parts.0, s)) r ∙ k.3, k.4))
      (cases_eq (k.0 + 32) held.count)

  opened_passes : IsPassedOn pace (opened_with held moment ask) (new_one ∷ opened)
  opened_passes = record {
    paces = p.paces;
    recent = λ n m e.
        ⊎_elim
        (λ (b : (n == held.count) ≡ true). let s = eqb-true n held.count b in recent_from (held.count + 1) n (omega (arith, s)) (omega (arith, s)))
        (λ (r : is_recent (held.count + 1) n ≡ true). r)
        (recent_by (n == held.count) (is_recent (held.count + 1) n) (memo_with held moment ask) (outline_if (n + kept_whole held.pace == held.count) (held.remembered n)) m e);
    known = All-cons (Remembers (opened_with held moment ask)) new_one opened
        (held.count, moment, refl, here held.count refl, omega arith)
        (All-weaker (Remembers held) (Remembers (opened_with held moment ask)) each opened p.known);
  }

  apart : All (IsLongBefore held.pace.lifetime new_one) opened
  apart = All-weaker (Remembers held) (IsLongBefore held.pace.lifetime new_one) (λ o k is. long_before held moment o is_free p.recent k is) opened p.known

-- ---- what it goes on with
start_remembers : (own device : ℕ) (timing : Timing) (pace : Pace) (now : ℕ) (known : Openings) → AreKnown now known → (o : Opening) → Knows known o → Remembers (resumed_held own device timing pace now known) o
start_remembers own device timing pace now known are o k = by (nat_lt (32 + o.id) count) refl
  where
    count : ℕ
    count = count_after known

    within : o.id < length known.moments.items
    within = slice_get_within known.moments.items o.id k.0 k.1

    few : o.id < 32
    few = omega (arith, within, are.used)

    long : count_after known ≤ 63
    long = go (nat_lt (length known.moments.items) 32) refl are.next
      where
        go : (b : Bool) → nat_lt (length known.moments.items) 32 ≡ b → known.next ≡ id_of (cond b (length known.moments.items) (32 + known.next)) → cond b (length known.moments.items) (32 + known.next) ≤ 63
        go true e next = let i = ltb-true (length known.moments.items) 32 e in omega (arith, i)
        go false e next = omega (arith, next)

    above : o.id < count_after known
    above = go (nat_lt (length known.moments.items) 32) refl
      where
        go : (b : Bool) → nat_lt (length known.moments.items) 32 ≡ b → o.id < cond b (length known.moments.items) (32 + known.next)
        go true e = within
        go false e = omega (arith, few)

    at : (n : ℕ) → n < count_after known → count_after known ≤ n + 32 → id_of n ≡ o.id → Remembers (resumed_held own device timing pace now known) o
    at n below last is = (
      n,
      k.0,
      is,
      ap opening_in (cond-true (is_recent (count_after known) n) _ _ (recent_from (count_after known) n below last))
          ∙ outlined_same (not (is_kept pace (count_after known) n)) (option_map (shut_memo own device (id_of n)) (slice_get known.moments.items (id_of n)))
          ∙ ap opening_in (ap (λ (id : ℕ). option_map (shut_memo own device id) (slice_get known.moments.items id)) is
          ∙ ap (option_map (shut_memo own device o.id)) k.1),
      k.2,
    )

    by : (b : Bool) → nat_lt (32 + o.id) (count_after known) ≡ b → Remembers (resumed_held own device timing pace now known) o
    by true e = let i = ltb-true (32 + o.id) (count_after known) e in at (32 + o.id) i (omega (arith, long)) (omega (arith, few))
    by false e = let i = ltb-false (32 + o.id) (count_after known) e in at o.id above (omega (arith, i)) (omega (arith, few))

recent_at_start : (r : Bool) (o : Option Memo) (m : ℕ) → opening_in (cond r o None) ≡ Some m → r ≡ true
recent_at_start true o m e = refl
recent_at_start false o m e = cc

start_passes : (own device : ℕ) (timing : Timing) (pace : Pace) (now : ℕ) (known : Openings) (earlier : List Opening) → AreKnown now known → All (Knows known) earlier → IsPassedOn pace (resumed_held own device timing pace now known) earlier
start_passes own device timing pace now known earlier are all = record {
  paces = refl;
  recent = λ n m e. recent_at_start (is_recent (count_after known) n) (outline_if (not (is_kept pace (count_after known) n)) (option_map (shut_memo own device (id_of n)) (slice_get known.moments.items (id_of n)))) m e;
  known = All-weaker (Knows known) (Remembers (resumed_held own device timing pace now known)) (start_remembers own device timing pace now known are) earlier all;
}

-- ---- all calls
module _ (pace : Pace) (start : RequesterState) (earlier : List Opening) (first : IsPassedOn pace start earlier) where
  passes_open : (b : Bool) (held : RequesterState) (opened : List Opening) (moment : ℕ) (ask : Ask) → accepts held moment ≡ b → IsPassedOn pace held (opened ++ earlier) → AreApart pace.lifetime opened earlier
      → IsPassedOn pace (cond b (opened_with held moment ask) held) ((cond b (record { id = id_of held.count; moment = moment } ∷ []) [] ++ opened) ++ earlier)
      × AreApart pace.lifetime (cond b (record { id = id_of held.count; moment = moment } ∷ []) [] ++ opened) earlier
  passes_open true held opened moment ask ok p a = (
    opened_passes pace held moment ask (opened ++ earlier) p ok,
    (subst (λ (t : Pace). All (IsLongBefore t.lifetime (record { id = id_of held.count; moment = moment })) (opened ++ earlier)) p.paces (apart pace held moment ask (opened ++ earlier) p ok), a),
  )
  passes_open false held opened moment ask ok p a = (p, a)

  all_calls : (calls : List Call) → IsPassedOn pace (after start calls) (opened_by start calls ++ earlier) × AreApart pace.lifetime (opened_by start calls) earlier
  all_calls [] = (first, tt)
  all_calls (OpenRequest moment ask ∷ calls) =
      let before = all_calls calls in
      passes_open (accepts (after start calls) moment) (after start calls) (opened_by start calls) moment ask refl before.0 before.1
  all_calls (Tick moment ∷ calls) =
      let before = all_calls calls in (
        same pace (after start calls) (ticked_held (after start calls) moment) (opened_by start calls ++ earlier) refl refl
            (λ n. ticked_same (after start calls).timing moment ((after start calls).remembered n)) before.0,
        before.1,
      )
  all_calls (Receive moment bytes ∷ calls) =
      let before = all_calls calls in (
        same pace (after start calls) (received_held (after start calls) moment bytes) (opened_by start calls ++ earlier) refl refl
            (λ n. arrived_same (after start calls) (arrived_by (after start calls) (passed (after start calls) bytes)) n) before.0,
        before.1,
      )

pub ids_apart_over_processes : IdsApartOverProcesses
ids_apart_over_processes own device timing pace now known earlier calls are all =
    (all_calls pace (resumed_held own device timing pace now known) earlier (start_passes own device timing pace now known earlier are all) calls).1

left_knows : (pace : Pace) (held : RequesterState) (opened : List Opening) (left : Openings) → AreLeft held left → IsPassedOn pace held opened → All (Knows left) opened
left_knows pace held opened left are p =
    All-weaker (Remembers held) (Knows left)
    (λ o k. (k.1, ap (slice_get left.moments.items) (sym k.2) ∙ are.each k.0 (p.recent k.0 k.1 k.3) ∙ k.3, k.4))
    opened p.known

pub passed_on : PassedOn
passed_on own device timing pace now known left earlier calls are all is =
    left_knows pace (after (resumed_held own device timing pace now known) calls) (opened_by (resumed_held own device timing pace now known) calls ++ earlier) left is
    (all_calls pace (resumed_held own device timing pace now known) earlier (start_passes own device timing pace now known earlier are all) calls).0
