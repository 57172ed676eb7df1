-- What a requester holds once a slot was written: a request was answered, or one more was opened.
use Rattle.std.specs.FinMap as map
use Rattle.std.proofs.Common.{◌≡◌, ℕ, ◌+◌, ◌-◌, ◌%◌, ◌<◌, ◌≤◌, Bool, true, false, cond, not, List, [], ◌∷◌, ◌++◌, length, Option, Some, None, Result, Ok, refl, sym, ap, ◌∙◌, subst, inl, inr, ◌⊎◌, ⊎_elim, arith, eq-eqb, eqb-true}
use Rattle.std.specs.Prelude.{◌==◌, ◌&&◌, is_some, nat_le, filter, option_map, slice_get, slice_set, slice_index_or}
use Rattle.std.specs.List.{range_with_len}
use Rattle.std.proofs.lemmas.Bool.{and_cases, cases_eq, cond-false, le-leb, leb-false, ne_eqb}
use Rattle.std.proofs.lemmas.List.{map-id}
use Rattle.std.proofs.lemmas.List.FromFn.{filter_of_map_range_with_len_more}
use Rattle.std.proofs.lemmas.Option.{slice_get_within, get_or_from_slice_get}
use Rattle.mctp_packet.specs.declared.reason.Reason.{Reason}
use Rattle.mctp_packet.specs.declared.reason.Reason.TheVariants.{NotMine, NotReady}
use Rattle.mctp_packet.specs.Pieces.{written_packets}
use Rattle.mctp_assembly.specs.Steps as assembly
use Rattle.pldm_wire.specs.Responses.{Response, response_of}
use Rattle.pldm_requester.specs.Asks.{Ask, ask_message}
use Rattle.pldm_requester.specs.Arrivals.{Drop, Answer, response_arrival}
use Rattle.pldm_requester.specs.Calls.{answer_key}
use Rattle.pldm_requester.specs.Courses.{begun, is_open, answered}
use Rattle.pldm_requester.specs.Numbering.{id_of, tag_of}
use Rattle.pldm_requester.specs.Steps.{Memo, IsHeld, is_kept, is_recent, outline, outline_if, passes, is_open_in, is_tag_in_use, at_hand, is_mine, is_mine_by, is_there, whole, with_course, remembered_after, opened_with, memo_with}
use Rattle.pldm_requester.specs.Slots.{RequesterView, held_of, remembered_in, freed, put_slot, AreSlots, IsPaced, IsStation, IsWholeAt, IsWholeBy, most_opened}
use Rattle.pldm_requester.specs.Pacing.{kept}
use Rattle.pldm_requester.specs.declared.pace.Pace.{Pace}
use Rattle.pldm_requester.proofs.Outlines.{paced_outlined, passes_outlined}
use Rattle.pldm_requester.proofs.SlotLists.{kept_new, kept_then, not_kept_then, last_kept, recent_parts, remembered_there, remembered_parts, remembered_in-set, remembered_in-put, AreSlots-freed, AreSlots-put, freed_is}

-- ---- a response of its own that says nothing of NotReady answers its request
pub is_answer : (mine : ℕ → Response → Bool) (number : ℕ) (message : List ℕ) (read : Result Response Reason) (response : Response) → read ≡ Ok response → mine number response ≡ true → (response.code ≡ 4 → ⊥)
    → response_arrival mine number message read ≡ Answer number message
is_answer mine number message read response e is other =
    ap (response_arrival mine number message) e
    ∙ ap (λ b. cond (not b) (Drop NotMine) (cond (response.code == 4) (Drop NotReady) (Answer number message))) is
    ∙ cond-false (response.code == 4) _ _ (ne_eqb response.code 4 other)

memo_of_mine : (number : ℕ) (o : Option Memo) (response : Response) → is_mine_by number o response ≡ true → (memo : Memo) × (o ≡ Some memo)
memo_of_mine number None response h = cc
memo_of_mine number (Some memo) response h = (memo, refl)

either_map : (b : Bool) (f : Memo → Memo) (memo : Memo) (o : Option Memo) → (b ≡ true → o ≡ Some memo) → cond b (Some (f memo)) o ≡ cond b (option_map f o) o
either_map true f memo o h = ap (option_map f) (sym (h refl))
either_map false f memo o h = refl

pub answered_held : (station : RequesterView) (number : ℕ) (message : List ℕ) (response : Response) (memo seen : Memo)
    → response_of message ≡ Ok response → is_mine (held_of station) number response ≡ true → (response.code ≡ 4 → ⊥)
    → memo ≡ seen → seen ≡ slice_index_or station.slots (number % 32) seen
    → IsHeld (held_of (record station { slots = slice_set station.slots (number % 32) (with_course (answered message) memo) }))
    (record (held_of station) { remembered = remembered_after (held_of station) (response_arrival (is_mine (held_of station)) number message (response_of message)) })
answered_held station number message response memo seen read mine other same at = record {
  own = refl;
  device = refl;
  timing = refl;
  pace = refl;
  count = refl;
  remembered = λ k.
      remembered_in-set station.count number k station.slots (with_course (answered message) memo) parts.0 within
      ∙ either_map (k == number) (with_course (answered message)) memo (remembered_in station.count station.slots k) (λ same. ap (remembered_in station.count station.slots) (eqb-true k number same) ∙ found.1 ∙ ap Some is)
      ∙ ap (λ a. remembered_after (held_of station) a k) (sym (is_answer (is_mine (held_of station)) number message (response_of message) response read mine other));
  open_messages = refl;
  last = refl;
}
  where
    found : (m : Memo) × (remembered_in station.count station.slots number ≡ Some m)
    found = memo_of_mine number (remembered_in station.count station.slots number) response mine

    parts : (is_recent station.count number ≡ true) × (slice_get station.slots (number % 32) ≡ Some found.0)
    parts = remembered_parts station.count station.slots number found.0 found.1

    within : number % 32 < length station.slots
    within = slice_get_within station.slots (number % 32) found.0 parts.1

    is : found.0 ≡ memo
    is = sym (get_or_from_slice_get station.slots (number % 32) found.0 seen parts.1) ∙ sym at ∙ sym same

-- ---- one more request
opened_in : (station : RequesterView) (n : ℕ) (memo : Memo) → AreSlots station.count station.slots
    → remembered_in (station.count + 1) (put_slot station.count (freed station.pace station.count station.slots) memo) n
    ≡ cond (n == station.count) (Some memo) (cond (is_recent (station.count + 1) n) (outline_if (n + kept station.pace == station.count) (remembered_in station.count station.slots n)) None)
opened_in station n memo are =
    remembered_in-put station.count n (freed station.pace station.count station.slots) memo (AreSlots-freed station.pace station.count station.slots are)
    ∙ ap (λ o. cond (n == station.count) (Some memo) (cond (is_recent (station.count + 1) n) o None)) (freed_is station.pace station.count n station.slots are)

-- the last one that is kept is whole, before it is let go
pub last_is_whole : (station : RequesterView) → IsStation station → kept station.pace ≤ station.count → IsWholeAt ((station.count - kept station.pace) % 32) station.slots
last_is_whole station is many =
    let n = station.count - kept station.pace in
    let found = last_kept station.pace station.count station.slots is.slots many in
    let parts = remembered_parts station.count station.slots n found.0 found.1 in
    let whole = subst (IsWholeBy station.pace station.count n) found.1 (is.whole n) in
    (found.0, parts.1, whole ∙ le-leb station.count (n + kept station.pace) (omega (arith, many)))

paced_by : (b r : Bool) (count n now : ℕ) (memo : Memo) (o : Option Memo) → (b ≡ true → n ≡ count) → memo.course.opening ≡ now → count < most_opened now → IsPaced n o
    → IsPaced n (cond b (Some memo) (cond r o None))
paced_by true r count n now memo o same at few paced = let here = same refl in omega arith
paced_by false true count n now memo o same at few paced = paced
paced_by false false count n now memo o same at few paced = tt

-- the one with the new one's tag is shut, and so are older ones
tag_free : (station : RequesterView) (n : ℕ) → is_tag_in_use (held_of station) ≡ false → n + 8 ≡ station.count → passes is_open (remembered_in station.count station.slots n) ≡ false
tag_free station n free e =
    ⊎_elim
    (λ (x : nat_le 8 station.count ≡ false). let i = leb-false 8 station.count x in absurd (omega arith))
    (λ (x : is_open_in (held_of station) (station.count - 8) ≡ false). let i : station.count - 8 ≡ n = omega arith in subst (λ (k : ℕ). is_open_in (held_of station) k ≡ false) i x)
    (and_cases (nat_le 8 station.count) _ free)

shut_by : (b r : Bool) (memo : Memo) (o : Option Memo) → b ≡ false → passes is_open o ≡ false → passes is_open (cond b (Some memo) (cond r o None)) ≡ false
shut_by true r memo o other shut = cc
shut_by false true memo o other shut = shut
shut_by false false memo o other shut = refl

shut_opened : (station : RequesterView) (n : ℕ) (memo : Memo) → IsStation station → is_tag_in_use (held_of station) ≡ false → n + 8 < station.count + 1
    → passes is_open (remembered_in (station.count + 1) (put_slot station.count (freed station.pace station.count station.slots) memo) n) ≡ false
shut_opened station n memo is free old =
    ap (passes is_open) (opened_in station n memo is.slots)
    ∙ shut_by (n == station.count) (is_recent (station.count + 1) n) memo (outline_if (n + kept station.pace == station.count) (remembered_in station.count station.slots n)) (ne_eqb n station.count (λ e. omega arith))
    (passes_outlined is_open (λ course e. e) (n + kept station.pace == station.count) (remembered_in station.count station.slots n) ∙ ⊎_elim (λ (e : n + 8 ≡ station.count). tag_free station n free e) (λ (e : n + 8 ≡ station.count → ⊥). is.shut n (omega arith)) (cases_eq (n + 8) station.count))

whole_by : (pace : Pace) (count n : ℕ) (memo : Memo) (o : Option Memo) → memo.is_whole ≡ true → (b r : Bool) → (b ≡ true → n ≡ count) → IsWholeBy pace count n o
    → IsWholeBy pace (count + 1) n (cond b (Some memo) (cond r (outline_if (n + kept pace == count) o) None))
whole_by pace count n memo o is true r same old = let here = same refl in is ∙ sym (kept_new pace (count + 1) n (omega (arith, here)))
whole_by pace count n memo o is false false same old = tt
whole_by pace count n memo o is false true same old = go (cases_eq (n + kept pace) count)
  where
    outlined : (o : Option Memo) → n + kept pace ≡ count → IsWholeBy pace (count + 1) n (option_map outline o)
    outlined None e = tt
    outlined (Some memo) e = sym (not_kept_then pace count n e)

    left : (o : Option Memo) → (n + kept pace ≡ count → ⊥) → IsWholeBy pace count n o → IsWholeBy pace (count + 1) n o
    left None other old = tt
    left (Some memo) other old = old ∙ kept_then pace count n other

    go : (n + kept pace ≡ count) ⊎ (n + kept pace ≡ count → ⊥) → IsWholeBy pace (count + 1) n (outline_if (n + kept pace == count) o)
    go (inl e) = subst (λ (b : Bool). IsWholeBy pace (count + 1) n (outline_if b o)) (sym (eq-eqb (n + kept pace) count e)) (outlined o e)
    go (inr other) = subst (λ (b : Bool). IsWholeBy pace (count + 1) n (outline_if b o)) (sym (ne_eqb (n + kept pace) count other)) (left o other old)

pub opened_station : (station : RequesterView) (now : ℕ) (memo : Memo) (open_messages : assembly.OpenMessages) → IsStation station → memo.course.opening ≡ now → memo.is_whole ≡ true → station.count < most_opened now → is_tag_in_use (held_of station) ≡ false
    → IsStation (record station { count = station.count + 1; slots = put_slot station.count (freed station.pace station.count station.slots) memo; open_messages = open_messages; last = now })
opened_station station now memo open_messages is at whole few free = record {
  pace = is.pace;
  slots = AreSlots-put station.count (freed station.pace station.count station.slots) memo (AreSlots-freed station.pace station.count station.slots is.slots);
  few = omega arith;
  paced = λ n. subst (IsPaced n) (sym (opened_in station n memo is.slots))
      (paced_by (n == station.count) (is_recent (station.count + 1) n) station.count n now memo (outline_if (n + kept station.pace == station.count) (remembered_in station.count station.slots n)) (eqb-true n station.count) at few
      (paced_outlined n (n + kept station.pace == station.count) (remembered_in station.count station.slots n) (is.paced n)));
  shut = λ n old. shut_opened station n memo is free old;
  whole = λ n. subst (IsWholeBy station.pace (station.count + 1) n) (sym (opened_in station n memo is.slots))
      (whole_by station.pace station.count n memo (remembered_in station.count station.slots n) whole (n == station.count) (is_recent (station.count + 1) n) (eqb-true n station.count) (is.whole n));
}

pub opened_is_held : (station : RequesterView) (now : ℕ) (ask : Ask) (slots : List Memo) (open_messages : assembly.OpenMessages) → AreSlots station.count station.slots
    → slots ≡ put_slot station.count (freed station.pace station.count station.slots) (memo_with (held_of station) now ask)
    → open_messages ≡ map.remove station.open_messages (answer_key station.device (tag_of station.count))
    → IsHeld (held_of (record station { count = station.count + 1; slots = slots; open_messages = open_messages; last = now })) (opened_with (held_of station) now ask)
opened_is_held station now ask slots open_messages are put forgot = record {
  own = refl;
  device = refl;
  timing = refl;
  pace = refl;
  count = refl;
  remembered = λ n. ap (λ xs. remembered_in (station.count + 1) xs n) put ∙ opened_in station n (memo_with (held_of station) now ask) are;
  open_messages = forgot;
  last = refl;
}

pub memo_is : (station : RequesterView) (now : ℕ) (ask : Ask) (tag : ℕ) → tag ≡ tag_of station.count
    → (let memo : Memo = record { kind = ask.kind; packets = written_packets (record { destination = station.device; source = station.own; owner = true; tag = tag }) (ask_message (id_of station.count) ask); course = begun now; is_whole = true } in memo ≡ memo_with (held_of station) now ask)
memo_is station now ask tag e = λ i. record { kind = ask.kind; packets = written_packets (record { destination = station.device; source = station.own; owner = true; tag = e i }) (ask_message (id_of station.count) ask); course = begun now; is_whole = true }

-- ---- which requests are remembered whole
module _ (station : RequesterView) (is : IsStation station) (n : ℕ) where
  abbrev seen : Option Memo
  seen = remembered_in station.count station.slots n

  neither : (b : Bool) → ◌≡◌ {A = Option Memo} (cond b None None) None
  neither true = refl
  neither false = refl

  pub at_hand_is : whole seen ≡ at_hand (held_of station) n
  at_hand_is = go (is_recent station.count n) refl
    where
      some : (o : Option Memo) → IsWholeBy station.pace station.count n o → whole o ≡ cond (is_kept station.pace station.count n) o None
      some None same = sym (neither (is_kept station.pace station.count n))
      some (Some memo) same = ap (λ b. cond b (Some memo) None) same

      go : (b : Bool) → is_recent station.count n ≡ b → whole seen ≡ cond (b && is_kept station.pace station.count n) seen None
      go true e = some seen (is.whole n)
      go false e = ap whole (cond-false (is_recent station.count n) _ _ e)

  pub there_is : is_some (at_hand (held_of station) n) ≡ is_there (held_of station) n
  there_is = go (is_recent station.count n) refl
    where
      some : (b : Bool) (memo : Memo) → is_some (cond b (Some memo) None) ≡ b
      some true memo = refl
      some false memo = refl

      go : (b : Bool) → is_recent station.count n ≡ b → is_some (cond (b && is_kept station.pace station.count n) seen None) ≡ (b && is_kept station.pace station.count n)
      go true e =
          let parts = recent_parts station.count n e in
          let found = remembered_there station.count station.slots n is.slots parts.0 parts.1 in
          ap (λ o. is_some (cond (is_kept station.pace station.count n) o None)) found.1 ∙ some (is_kept station.pace station.count n) found.0
      go false e = refl

-- ---- the numbers that pass a test
pub filter_more : (test : ℕ → Bool) (a n j : ℕ) → a + n ≡ j → filter test (range_with_len a (n + 1)) ≡ filter test (range_with_len a n) ++ cond (test j) (j ∷ []) []
filter_more test a n j e =
    ap (filter test) (sym (map-id (range_with_len a (n + 1))))
    ∙ filter_of_map_range_with_len_more test (λ x. x) a n j e
    ∙ ap (λ xs. filter test xs ++ cond (test j) (j ∷ []) []) (map-id (range_with_len a n))

-- one more number is looked at
pub listed_more : (test : ℕ → Bool) (a n : ℕ) (listed new : List ℕ) (due : Bool) → a ≤ n → listed ≡ filter test (range_with_len a (n - a)) → due ≡ test n → new ≡ listed ++ cond due (n ∷ []) []
    → new ≡ filter test (range_with_len a (n + 1 - a))
listed_more test a n listed new due le before is after =
    let next : n - a + 1 ≡ n + 1 - a = omega arith in
    after ∙ ap (λ xs. xs ++ cond due (n ∷ []) []) before ∙ ap (λ b. filter test (range_with_len a (n - a)) ++ cond b (n ∷ []) []) is
    ∙ sym (filter_more test a (n - a) n (omega arith)) ∙ ap (λ k. filter test (range_with_len a k)) next
