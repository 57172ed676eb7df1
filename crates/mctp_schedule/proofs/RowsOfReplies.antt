-- Where only packets of one message came, and whole packets of others, that message is given exactly where its packets
-- came in a row, and no other one is.
use Rattle.std.proofs.Common.{◌≡◌, ◌≢◌, ◌⊎◌, ℕ, zero, suc, ◌+◌, ◌*◌, ◌%◌, ◌<◌, ◌≤◌, List, [], ◌∷◌, ◌++◌, length, map, take, drop, find, Some, None, Option, Bool, true, false, cond, refl, sym, ap, ◌∙◌, inl, inr, arith, eqb-true, eq-eqb, length-take, length-drop}
use Rattle.std.specs.Prelude.{not, ◌&&◌, ◌==◌, nat_le}
use Rattle.std.specs.List.{range_with_len}
use Rattle.std.proofs.lemmas.Bool.{and_from, and_parts, not-true, le-leb, eqb-false, ne_eqb, cases_Bool, cond-true, cond-false}
use Rattle.std.proofs.lemmas.List.{take-append-drop, take-take, drop-take, take_all}
use Rattle.mctp_packet.specs.Packets.{Packet}
use Rattle.mctp_packet.specs.Pieces.{packet_at, piece, piece_count}
use Rattle.mctp_packet.specs.declared.packet.Route.{Route}
use Rattle.mctp_packet.specs.declared.reason.Reason.{Reason}
use Rattle.mctp_packet.specs.declared.reason.Reason.TheVariants.{OutOfSequence, TooLong, WrongUnit}
use Rattle.mctp_packet.specs.declared.TheConstants.{BASELINE_UNIT, SEQUENCE_NUMBERS}
use Rattle.mctp_assembly.specs.Rows.{unit_of, follows, is_middle, is_end, is_row, is_message, newest, joined, given, next_within}
use Rattle.mctp_assembly.specs.declared.fed.Fed.TheVariants.{Whole, Dropped}
use Rattle.mctp_schedule.specs.TakenReplies.{row}

-- packets 0, 1, .. so many, the newest first
abbrev pub rising : ℕ → List (Option ℕ)
rising zero = []
rising (suc n) = Some n ∷ rising n

abbrev pub Below : ℕ → List (Option ℕ) → Type 0
Below count [] = Unit {0}
Below count (None ∷ js) = Below count js
Below count (Some j ∷ js) = (j < count) × Below count js

-- ---- a row of deliveries
pub row_taken : (n : ℕ) (js : List (Option ℕ)) → row n js ≡ true → take n js ≡ rising n
row_taken zero js e = refl
row_taken (suc n) [] e = cc
row_taken (suc n) (None ∷ js) e = cc
row_taken (suc n) (Some j ∷ js) e =
    let p = and_parts (j == n) (row n js) e in
    let here = eqb-true j n p.0 in
    let rest = row_taken n js p.1 in
    (λ i. Some (here i) ∷ rest i)

some_is : (x : Option ℕ) (n : ℕ) (xs ys : List (Option ℕ)) → ◌≡◌ {A = List (Option ℕ)} (x ∷ xs) (Some n ∷ ys) → (x ≡ Some n) × (xs ≡ ys)
some_is x n xs ys e = (cc, cc)

pub taken_row : (n c : ℕ) (js : List (Option ℕ)) → take n js ≡ rising c → row c js ≡ true
taken_row n zero js e = refl
taken_row zero (suc c) js e = cc
taken_row (suc n) (suc c) [] e = cc
taken_row (suc n) (suc c) (None ∷ js) e = cc
taken_row (suc n) (suc c) (Some j ∷ js) e =
    let p = some_is (Some j) c (take n js) (rising c) e in
    let same : j ≡ c = (let q = p.0 in cc) in
    and_from (j == c) (row c js) (eq-eqb j c same) (taken_row n c js p.1)

-- ---- the newest packets that pass
found_only : (test : List Packet → Bool) (ps x : List Packet) (a n c : ℕ) → a ≤ c → c < a + n → take c ps ≡ x → test x ≡ true → ((k : ℕ) → test (take k ps) ≡ true → take k ps ≡ x)
    → find test (map (λ k. take k ps) (range_with_len a n)) ≡ Some x
found_only test ps x a zero c l m is passes only = absurd (omega arith)
found_only test ps x a (suc n) c l m is passes only = step (cases_Bool (test (take a ps))) (λ lower. found_only test ps x (a + 1) n c lower (omega arith) is passes only)
  where
    step : (test (take a ps) ≡ true) ⊎ (test (take a ps) ≡ false) → (a + 1 ≤ c → find test (map (λ k. take k ps) (range_with_len (a + 1) n)) ≡ Some x) → find test (map (λ k. take k ps) (range_with_len a (suc n))) ≡ Some x
    step (inl here) rest = cond-true (test (take a ps)) _ _ here ∙ ap Some (only a here)
    step (inr off) rest =
        let later : a ≡ c → ⊥ = (λ e. let y : test (take a ps) ≡ true = ap (λ k. test (take k ps)) e ∙ ap test is ∙ passes in cc) in
        cond-false (test (take a ps)) _ _ off ∙ rest (omega arith)

found_none : (test : List Packet → Bool) (ps : List Packet) (a n : ℕ) → ((k : ℕ) → test (take k ps) ≡ false) → find test (map (λ k. take k ps) (range_with_len a n)) ≡ None
found_none test ps a zero off = refl
found_none test ps a (suc n) off = cond-false (test (take a ps)) _ _ (off a) ∙ found_none test ps (a + 1) n off

-- what is given without a message is not one
never_dropped : (f l : Bool) (a b c : Reason) (body : List ℕ) → cond f (Dropped a) (cond l (Dropped b) (Dropped c)) ≡ Whole (record { items = body }) → ⊥
never_dropped true l a b c body h = cc
never_dropped false true a b c body h = cc
never_dropped false false a b c body h = cc

never_whole : (limit : ℕ) (r b : Option (List Packet)) (p : Packet) (body : List ℕ) → given limit None r b p ≡ Whole (record { items = body }) → ⊥
never_whole limit (Some r) b p body h = cc
never_whole limit None None p body h = cc
never_whole limit None (Some []) p body h = cc
never_whole limit None (Some (q ∷ qs)) p body h =
    never_dropped (not (follows p q.seq)) (length (q ∷ qs) == limit) OutOfSequence TooLong WrongUnit body h

-- a packet with SOM and EOM gives its payload, whatever came before
pub given_alone : (limit : ℕ) (before : List Packet) (p : Packet) → 0 < limit → p.start ≡ true → p.end ≡ true → next_within limit before p ≡ Whole (record { items = p.payload })
given_alone zero before p some starts ends = absurd (omega arith)
given_alone (suc n) before p some starts ends =
    ap (λ (m : Option (List Packet)). given (suc n) m (newest (suc n) is_row (p ∷ before)) (newest (suc n) is_row before) p)
    (cond-true (is_message (take 1 (p ∷ before))) _ _ (and_from p.start p.end starts ends))

module _ (route : Route) (message : List ℕ) (other : Packet) (other_starts : other.start ≡ true) (other_ends : other.end ≡ true) (few : piece_count message ≤ SEQUENCE_NUMBERS + 1) where
  abbrev count : ℕ
  count = piece_count message

  abbrev pub pick : Option ℕ → Packet
  pick (Some j) = packet_at route message j
  pick None = other

  abbrev picked : List (Option ℕ) → List Packet
  picked js = map pick js

  take_picked : (n : ℕ) (js : List (Option ℕ)) → take n (picked js) ≡ picked (take n js)
  take_picked zero js = refl
  take_picked (suc n) [] = refl
  take_picked (suc n) (j ∷ js) = ap (λ ps. pick j ∷ ps) (take_picked n js)

  below_taken : (n : ℕ) (js : List (Option ℕ)) → Below count js → Below count (take n js)
  below_taken zero js b = tt
  below_taken (suc n) [] b = tt
  below_taken (suc n) (None ∷ js) b = below_taken n js b
  below_taken (suc n) (Some j ∷ js) b = (b.0, below_taken n js b.1)

  place : (i k own last : ℕ) → i < count → k < count → (i ≡ 0 → ⊥) → own ≡ (last + 1) % SEQUENCE_NUMBERS → own ≡ i % SEQUENCE_NUMBERS → last ≡ k % SEQUENCE_NUMBERS → suc k < count → i ≡ suc k
  place i k own last below before later number here was more = omega arith

  -- ---- packets that begin a message are its first ones in order
  row_is_rising : (js : List (Option ℕ)) → Below count js → is_row (picked js) ≡ true → (js ≡ rising (length js)) × (0 < length js) × (length js < count)
  row_is_rising [] b e = cc
  row_is_rising (None ∷ []) b e = absurd (let p = and_parts other.start (not other.end) e in let x = ap not other_ends in cc)
  row_is_rising (Some j ∷ []) b e =
      let p = and_parts (j == 0) (not (j + 1 == count)) e in
      let z = eqb-true j 0 p.0 in
      let more = eqb-false (j + 1) count (not-true _ p.1) in
      let l = b.0 in
      ((λ i. Some (z i) ∷ []), omega arith, omega arith)
  row_is_rising (None ∷ i ∷ js) b e =
      absurd (let p = and_parts (is_middle other (pick i)) (is_row (picked (i ∷ js))) e in let q = and_parts (not other.start && not other.end && follows other (pick i).seq) _ p.0 in let r = and_parts (not other.start && not other.end) _ q.0 in let s = and_parts (not other.start) (not other.end) r.0 in let x = ap not other_starts in cc)
  row_is_rising (Some j ∷ i ∷ js) b e =
      let p = and_parts (is_middle (pick (Some j)) (pick i)) (is_row (picked (i ∷ js))) e in
      let q = and_parts (not (j == 0) && not (j + 1 == count) && follows (pick (Some j)) (pick i).seq) (unit_of (pick (Some j)) == unit_of (pick i)) p.0 in
      let r = and_parts (not (j == 0) && not (j + 1 == count)) (follows (pick (Some j)) (pick i).seq) q.0 in
      let s = and_parts (not (j == 0)) (not (j + 1 == count)) r.0 in
      let ih = row_is_rising (i ∷ js) b.1 p.1 in
      let first : i ≡ Some (length js) = (let same = ih.0 in cc) in
      let number = eqb-true (j % SEQUENCE_NUMBERS) (((pick i).seq + 1) % SEQUENCE_NUMBERS) r.1 in
      let was : (pick i).seq ≡ length js % SEQUENCE_NUMBERS = ap (λ (o : Option ℕ). (pick o).seq) first in
      let not_first = eqb-false j 0 (not-true _ s.0) in
      let not_last = eqb-false (j + 1) count (not-true _ s.1) in
      let within = ih.2 in
      let l = b.0 in
      let here : j ≡ suc (length js) = omega arith in
      ((λ x. Some (here x) ∷ ih.0 x), omega arith, omega arith)

  -- a message that a packet of it ends is all of its packets in order
  message_is_rising : (j : ℕ) (js : List (Option ℕ)) → Below count (Some j ∷ js) → is_message (picked (Some j ∷ js)) ≡ true → Some j ∷ js ≡ rising count
  message_is_rising j [] b e =
      let p = and_parts (j == 0) (j + 1 == count) e in
      let z = eqb-true j 0 p.0 in
      let done = eqb-true (j + 1) count p.1 in
      let one : suc zero ≡ count = omega arith in
      (λ i. Some (z i) ∷ []) ∙ ap rising one
  message_is_rising j (i ∷ js) b e =
      let p = and_parts (is_end (pick (Some j)) (pick i)) (is_row (picked (i ∷ js))) e in
      let q = and_parts (not (j == 0) && (j + 1 == count) && follows (pick (Some j)) (pick i).seq) (nat_le (unit_of (pick (Some j))) (unit_of (pick i))) p.0 in
      let r = and_parts (not (j == 0) && (j + 1 == count)) (follows (pick (Some j)) (pick i).seq) q.0 in
      let s = and_parts (not (j == 0)) (j + 1 == count) r.0 in
      let before = row_is_rising (i ∷ js) b.1 p.1 in
      let first : i ≡ Some (length js) = (let same = before.0 in cc) in
      let number = eqb-true (j % SEQUENCE_NUMBERS) (((pick i).seq + 1) % SEQUENCE_NUMBERS) r.1 in
      let was : (pick i).seq ≡ length js % SEQUENCE_NUMBERS = ap (λ (o : Option ℕ). (pick o).seq) first in
      let not_first = eqb-false j 0 (not-true _ s.0) in
      let last = eqb-true (j + 1) count s.1 in
      let within = before.2 in
      let l = b.0 in
      let here : j ≡ suc (length js) = omega arith in
      let all : suc (suc (length js)) ≡ count = omega arith in
      (λ x. Some (here x) ∷ before.0 x) ∙ ap rising all

  -- ---- and those are one
  full : (j : ℕ) → suc j < count → length (piece message j) ≡ BASELINE_UNIT
  full j more = simp (length-take, length-drop) (omega arith)

  follow_up : (n : ℕ) → follows (pick (Some (suc n))) (pick (Some n)).seq ≡ true
  follow_up n = eq-eqb (suc n % SEQUENCE_NUMBERS) ((n % SEQUENCE_NUMBERS + 1) % SEQUENCE_NUMBERS) (omega arith)

  not_zero : (n : ℕ) → not (suc n == 0) ≡ true
  not_zero n = ap not (ne_eqb (suc n) 0 (λ e. absurd (omega arith)))

  not_last : (n : ℕ) → suc n < count → not (n + 1 == count) ≡ true
  not_last n more = ap not (ne_eqb (n + 1) count (λ e. absurd (omega arith)))

  rising_is_row : (n : ℕ) → suc n < count → is_row (picked (rising (suc n))) ≡ true
  rising_is_row zero more = and_from (0 == 0) (not (0 + 1 == count)) refl (not_last zero more)
  rising_is_row (suc n) more =
      let p = pick (Some (suc n)) in
      let q = pick (Some n) in
      let flags = and_from (not p.start) (not p.end) (not_zero n) (not_last (suc n) more) in
      let number = and_from (not p.start && not p.end) (follows p q.seq) flags (follow_up n) in
      let units = eq-eqb (unit_of p) (unit_of q) (full (suc n) more ∙ sym (full n (omega arith))) in
      and_from (is_middle p q) (is_row (picked (rising (suc n)))) (and_from (not p.start && not p.end && follows p q.seq) (unit_of p == unit_of q) number units) (rising_is_row n (omega arith))

  rising_is_message : (n : ℕ) → n ≡ count → 0 < n → is_message (picked (rising n)) ≡ true
  rising_is_message zero all some = absurd (omega arith)
  rising_is_message (suc zero) all some = and_from (0 == 0) (0 + 1 == count) refl (eq-eqb 1 count all)
  rising_is_message (suc (suc n)) all some =
      let p = pick (Some (suc n)) in
      let q = pick (Some n) in
      let flags = and_from (not p.start) p.end (not_zero n) (eq-eqb (suc n + 1) count (omega arith)) in
      let number = and_from (not p.start && p.end) (follows p q.seq) flags (follow_up n) in
      let before = full n (omega arith) in
      let last : unit_of p ≤ BASELINE_UNIT = simp (length-take, length-drop) (omega arith) in
      let units = le-leb (unit_of p) (unit_of q) (omega (arith, before, last)) in
      and_from (is_end p q) (is_row (picked (rising (suc n)))) (and_from (not p.start && p.end && follows p q.seq) (nat_le (unit_of p) (unit_of q)) number units) (rising_is_row n (omega arith))

  take_two : (a b : ℕ) (xs : List ℕ) → take a xs ++ take b (drop a xs) ≡ take (a + b) xs
  take_two a b xs =
      ap (λ rest. take a xs ++ rest) (sym (drop-take a b xs))
      ∙ ap (λ front. front ++ drop a (take (a + b) xs)) (sym (take-take a (a + b) xs (omega arith)))
      ∙ take-append-drop a (take (a + b) xs)

  joined_rising : (n : ℕ) → joined (picked (rising n)) ≡ take (BASELINE_UNIT * n) message
  joined_rising zero = refl
  joined_rising (suc n) =
      let more : BASELINE_UNIT * n + BASELINE_UNIT ≡ BASELINE_UNIT * suc n = omega arith in
      ap (λ front. front ++ piece message n) (joined_rising n) ∙ take_two (BASELINE_UNIT * n) BASELINE_UNIT message ∙ ap (λ k. take k message) more

  whole_joined : joined (picked (rising count)) ≡ message
  whole_joined = joined_rising count ∙ take_all (BASELINE_UNIT * count) message (omega arith)

  -- ---- the message is given where its packets came in a row
  pub given_in_row : (limit j : ℕ) (js : List (Option ℕ)) → count ≤ limit → 0 < count → Below count (Some j ∷ js) → row count (Some j ∷ js) ≡ true → next_within limit (map pick js) (packet_at route message j) ≡ Whole (record { items = message })
  given_in_row limit j js l some b r =
      let all = take_picked count (Some j ∷ js) ∙ ap picked (row_taken count (Some j ∷ js) r) in
      let found = found_only is_message (picked (Some j ∷ js)) (picked (rising count)) 1 limit count (omega arith) (omega arith) all (rising_is_message count refl some) only in
      ap (λ (m : Option (List Packet)). given limit m (newest limit is_row (picked (Some j ∷ js))) (newest limit is_row (picked js)) (packet_at route message j)) found
      ∙ ap (λ items. Whole (record { items = items })) whole_joined
    where
      only : (k : ℕ) → is_message (take k (picked (Some j ∷ js))) ≡ true → take k (picked (Some j ∷ js)) ≡ picked (rising count)
      only zero e = cc
      only (suc k) e =
          let same = take_picked (suc k) (Some j ∷ js) in
          same ∙ ap picked (message_is_rising j (take k js) (below_taken (suc k) (Some j ∷ js) b) (ap is_message (sym same) ∙ e))

  -- and nowhere else is any message given
  pub given_else : (limit j : ℕ) (js : List (Option ℕ)) → Below count (Some j ∷ js) → row count (Some j ∷ js) ≡ false → (body : List ℕ) → next_within limit (map pick js) (packet_at route message j) ≢ Whole (record { items = body })
  given_else limit j js b out body e =
      let none = found_none is_message (picked (Some j ∷ js)) 1 limit (λ k. off k (cases_Bool (is_message (take k (picked (Some j ∷ js)))))) in
      never_whole limit (newest limit is_row (picked (Some j ∷ js))) (newest limit is_row (picked js)) (packet_at route message j) body
      (ap (λ (m : Option (List Packet)). given limit m (newest limit is_row (picked (Some j ∷ js))) (newest limit is_row (picked js)) (packet_at route message j)) (sym none) ∙ e)
    where
      off : (k : ℕ) → (is_message (take k (picked (Some j ∷ js))) ≡ true) ⊎ (is_message (take k (picked (Some j ∷ js))) ≡ false) → is_message (take k (picked (Some j ∷ js))) ≡ false
      off k (inr f) = f
      off zero (inl t) = refl
      off (suc k) (inl t) =
          let same = take_picked (suc k) (Some j ∷ js) in
          let all = message_is_rising j (take k js) (below_taken (suc k) (Some j ∷ js) b) (ap is_message (sym same) ∙ t) in
          let on = taken_row (suc k) count (Some j ∷ js) all in
          absurd (let wrong : true ≡ false = sym on ∙ out in cc)
