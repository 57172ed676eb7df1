-- Copies of one message's packets give that message and no other. The packets of a row are distinguished by SOM and
-- their numbers: all packets but the start packet have different ones, where there are at most as many as numbers.
use Rattle.std.proofs.Common.{◌≡◌, ℕ, zero, suc, ◌+◌, ◌*◌, ◌%◌, ◌<◌, ◌≤◌, Bool, true, false, cond, not, ◌&&◌, ◌==◌, nat_le, List, [], ◌∷◌, ◌++◌, length, map, take, drop, find, Option, Some, None, refl, sym, ap, ◌∙◌, arith, eqb-true, length-take}
use Rattle.std.specs.List.{range_with_len, AllByRecursion}
use Rattle.std.proofs.lemmas.Bool.{and_parts, eqb-false}
use Rattle.std.proofs.lemmas.List.{take-append-drop, take-take, drop-take, take_all}
use Rattle.mctp_packet.specs.Packets.{Packet}
use Rattle.mctp_packet.specs.Pieces.{piece_count, piece, packet_at}
use Rattle.mctp_packet.specs.declared.reason.Reason.{Reason}
use Rattle.mctp_packet.specs.declared.reason.Reason.TheVariants.{OutOfSequence, TooLong, WrongUnit}
use Rattle.mctp_packet.specs.declared.packet.Route.{Route}
use Rattle.mctp_packet.specs.declared.TheConstants.{BASELINE_UNIT, SEQUENCE_NUMBERS}
use Rattle.mctp_assembly.specs.Rows.{unit_of, follows, is_middle, is_end, is_row, is_message, newest, joined, given}
use Rattle.mctp_assembly.specs.Laws.{CopiesGiveNoOther}
use Rattle.mctp_assembly.specs.declared.fed.Fed.{Fed}
use Rattle.mctp_assembly.specs.declared.fed.Fed.TheVariants.{Whole, Partial, Dropped}
use Rattle.mctp_assembly.proofs.RowsAreOne.{opposite, started, not_started}

-- ---- the pieces of a message, joined
take_two : (a b : ℕ) (xs : List ℕ) → take a xs ++ take b (drop a xs) ≡ take (a + b) xs
take_two a b xs =
    ap (λ rest. take a xs ++ rest) (sym (drop-take a b xs))
    ∙ ap (λ front. front ++ drop a (take (a + b) xs)) (sym (take-take a (a + b) xs (omega arith)))
    ∙ take-append-drop a (take (a + b) xs)

-- ---- numbers and tests
place : (i k count own last : ℕ) → count ≤ SEQUENCE_NUMBERS + 1 → k < SEQUENCE_NUMBERS → i < count → (i ≡ 0 → ⊥)
    → own ≡ (last + 1) % SEQUENCE_NUMBERS → own ≡ i % SEQUENCE_NUMBERS → last ≡ k % SEQUENCE_NUMBERS → i ≡ suc k
place i k count own last few low below later number here before = omega arith

head_is : (p : Packet) (ps : List Packet) (q : Packet) (qs : List Packet) → p ∷ ps ≡ q ∷ qs → p ≡ q
head_is p ps q qs h = cc

middle_follows : (p q : Packet) → is_middle p q ≡ true → follows p q.seq ≡ true
middle_follows p q h =
    (and_parts (not p.start && not p.end) (follows p q.seq) (and_parts (not p.start && not p.end && follows p q.seq) (unit_of p == unit_of q) h).0).1

-- the parts of the test for an end packet
end_tests : (p q : Packet) → is_end p q ≡ true → (p.start ≡ false) × (p.end ≡ true) × (follows p q.seq ≡ true)
end_tests p q h =
    let a = (and_parts (not p.start && p.end && follows p q.seq) (nat_le (unit_of p) (unit_of q)) h).0 in
    let b = and_parts (not p.start && p.end) (follows p q.seq) a in
    let c = and_parts (not p.start) p.end b.0 in
    (opposite p.start c.0, c.1, b.1)

module _ (route : Route) (message : List ℕ) where
  -- the first packets of the message, the newest first
  abbrev first : ℕ → List Packet
  first zero = []
  first (suc k) = packet_at route message k ∷ first k

  joined_first : (k : ℕ) → joined (first k) ≡ take (BASELINE_UNIT * k) message
  joined_first zero = refl
  joined_first (suc k) =
      let more : BASELINE_UNIT * k + BASELINE_UNIT ≡ BASELINE_UNIT * suc k = omega arith in
      ap (λ front. front ++ piece message k) (joined_first k) ∙ take_two (BASELINE_UNIT * k) BASELINE_UNIT message ∙ ap (λ n. take n message) more

  whole_joined : joined (first (piece_count message)) ≡ message
  whole_joined = joined_first (piece_count message) ∙ take_all (BASELINE_UNIT * piece_count message) message (omega arith)

  -- ---- each packet of a row stands in its place
  abbrev IsCopy : Packet → Type 0
  IsCopy p = (i : ℕ) × (i < piece_count message) × (p ≡ packet_at route message i)

  at_start : (p : Packet) → IsCopy p → p.start ≡ true → p ≡ packet_at route message 0
  at_start p copy h =
      copy.2 ∙ ap (packet_at route message) (eqb-true copy.0 0 (sym (ap (λ r. r.start) copy.2) ∙ h))

  next_place : (p q : Packet) (k : ℕ) → piece_count message ≤ SEQUENCE_NUMBERS + 1 → k < SEQUENCE_NUMBERS → (copy : IsCopy p) → q ≡ packet_at route message k → p.start ≡ false → follows p q.seq ≡ true
      → copy.0 ≡ suc k
  next_place p q k few low copy before middle next =
      let later : copy.0 ≡ 0 → ⊥ = eqb-false copy.0 0 (sym (ap (λ r. r.start) copy.2) ∙ middle) in
      let number : p.seq ≡ (q.seq + 1) % SEQUENCE_NUMBERS = eqb-true p.seq ((q.seq + 1) % SEQUENCE_NUMBERS) next in
      let own : p.seq ≡ copy.0 % SEQUENCE_NUMBERS = ap (λ r. r.seq) copy.2 in
      let last : q.seq ≡ k % SEQUENCE_NUMBERS = ap (λ r. r.seq) before in
      let below : copy.0 < piece_count message = copy.1 in
      place copy.0 k (piece_count message) p.seq q.seq few low below later number own last

  in_place : (p : Packet) (copy : IsCopy p) (k : ℕ) → copy.0 ≡ k → p ≡ packet_at route message k
  in_place p copy k h = copy.2 ∙ ap (packet_at route message) h

  row_is_first : (row : List Packet) → piece_count message ≤ SEQUENCE_NUMBERS + 1 → length row ≤ SEQUENCE_NUMBERS + 1 → AllByRecursion IsCopy row → is_row row ≡ true → row ≡ first (length row)
  row_is_first [] few short copies h = cc
  row_is_first (p ∷ []) few short copies h = λ i. at_start p copies.0 (started p h) i ∷ []
  row_is_first (p ∷ q ∷ rest) few short copies h =
      let tests = and_parts (is_middle p q) (is_row (q ∷ rest)) h in
      let before : q ∷ rest ≡ first (suc (length rest)) = row_is_first (q ∷ rest) few (omega arith) copies.1 tests.1 in
      let latest : q ≡ packet_at route message (length rest) = head_is q rest (packet_at route message (length rest)) (first (length rest)) before in
      let here = in_place p copies.0 (suc (length rest)) (next_place p q (length rest) few (omega arith) copies.0 latest (not_started p q tests.0) (middle_follows p q tests.0)) in
      λ i. here i ∷ before i

  at_end : (p : Packet) (copy : IsCopy p) → p.end ≡ true → copy.0 + 1 ≡ piece_count message
  at_end p copy h = eqb-true (copy.0 + 1) (piece_count message) (sym (ap (λ r. r.end) copy.2) ∙ h)

  message_is_first : (packets : List Packet) → piece_count message ≤ SEQUENCE_NUMBERS + 1 → length packets ≤ SEQUENCE_NUMBERS + 1 → AllByRecursion IsCopy packets → is_message packets ≡ true → packets ≡ first (piece_count message)
  message_is_first [] few short copies h = cc
  message_is_first (p ∷ []) few short copies h =
      let tests = and_parts p.start p.end h in
      let zeroth : copies.0.0 ≡ 0 = eqb-true copies.0.0 0 (sym (ap (λ r. r.start) copies.0.2) ∙ tests.0) in
      let last = at_end p copies.0 tests.1 in
      let all : 1 ≡ piece_count message = omega arith in
      (λ i. at_start p copies.0 tests.0 i ∷ []) ∙ ap first all
  message_is_first (p ∷ q ∷ rest) few short copies h =
      let tests = and_parts (is_end p q) (is_row (q ∷ rest)) h in
      let ends = end_tests p q tests.0 in
      let before : q ∷ rest ≡ first (suc (length rest)) = row_is_first (q ∷ rest) few (omega arith) copies.1 tests.1 in
      let latest : q ≡ packet_at route message (length rest) = head_is q rest (packet_at route message (length rest)) (first (length rest)) before in
      let stands = next_place p q (length rest) few (omega arith) copies.0 latest ends.0 ends.2 in
      let here = in_place p copies.0 (suc (length rest)) stands in
      let last = at_end p copies.0 ends.1 in
      let all : suc (suc (length rest)) ≡ piece_count message = omega arith in
      (λ i. here i ∷ before i) ∙ ap first all

  -- a message among copies is all of the message's packets in order
  whole_is_message : (packets : List Packet) → piece_count message ≤ SEQUENCE_NUMBERS + 1 → length packets ≤ SEQUENCE_NUMBERS + 1 → AllByRecursion IsCopy packets → is_message packets ≡ true → joined packets ≡ message
  whole_is_message packets few short copies h = ap joined (message_is_first packets few short copies h) ∙ whole_joined

-- ---- the newest message is among the last packets
items_of : Fed → List ℕ
items_of (Whole body) = body.items
items_of Partial = []
items_of (Dropped reason) = []

never_whole : (f l : Bool) (a b c : Reason) (body : List ℕ) → cond f (Dropped a) (cond l (Dropped b) (Dropped c)) ≡ Whole (record { items = body }) → ⊥
never_whole true l a b c body h = cc
never_whole false true a b c body h = cc
never_whole false false a b c body h = cc

given_whole : (limit : ℕ) (m r b : Option (List Packet)) (p : Packet) (body : List ℕ) → given limit m r b p ≡ Whole (record { items = body }) → (packets : List Packet) × (m ≡ Some packets) × (joined packets ≡ body)
unfolding items_of
given_whole limit (Some packets) r b p body h = (packets, refl, ap items_of h)
given_whole limit None (Some row) b p body h = cc
given_whole limit None None None p body h = cc
given_whole limit None None (Some []) p body h = cc
given_whole limit None None (Some (q ∷ qs)) p body h =
    absurd (never_whole (not (follows p q.seq)) (length (q ∷ qs) == limit) OutOfSequence TooLong WrongUnit body h)

abbrev Among : (List Packet → Bool) → List Packet → List Packet → ℕ → Type 0
Among test ps qs limit = (k : ℕ) × (k < limit) × (qs ≡ take k ps) × (test (take k ps) ≡ true)

here_or_later : (test : List Packet → Bool) (ps qs : List Packet) (a n : ℕ) (later : Option (List Packet)) (b : Bool) → test (take a ps) ≡ b → (later ≡ Some qs → Among test ps qs (a + 1 + n)) → cond b (Some (take a ps)) later ≡ Some qs → Among test ps qs (a + suc n)
here_or_later test ps qs a n later true passes rest h = (a, omega arith, cc, passes)
here_or_later test ps qs a n later false passes rest h =
    let r = rest h in
    (r.0, omega (arith, r.1), r.2, r.3)

found_among : (test : List Packet → Bool) (ps qs : List Packet) (a n : ℕ) → find test (map (λ k. take k ps) (range_with_len a n)) ≡ Some qs → Among test ps qs (a + n)
found_among test ps qs a zero h = cc
found_among test ps qs a (suc n) h =
    here_or_later test ps qs a n (find test (map (λ k. take k ps) (range_with_len (a + 1) n))) (test (take a ps)) refl (found_among test ps qs (a + 1) n) h

copies_among : (P : Packet → Type 0) (k : ℕ) (ps : List Packet) → AllByRecursion P ps → AllByRecursion P (take k ps)
copies_among P zero ps h = tt
copies_among P (suc k) [] h = tt
copies_among P (suc k) (p ∷ ps) h = (h.0, copies_among P k ps h.1)

pub copies_give_no_other : CopiesGiveNoOther
copies_give_no_other limit route message before p body five fits copies h =
    let told = given_whole limit (newest limit is_message (p ∷ before)) (newest limit is_row (p ∷ before)) (newest limit is_row before) p body h in
    let among = found_among is_message (p ∷ before) told.0 1 limit told.1 in
    let few : piece_count message ≤ SEQUENCE_NUMBERS + 1 = omega arith in
    let short : length (take among.0 (p ∷ before)) ≤ SEQUENCE_NUMBERS + 1 = omega (arith, length-take among.0 (p ∷ before)) in
    sym told.2 ∙ ap joined among.2
    ∙ whole_is_message route message (take among.0 (p ∷ before)) few short (copies_among (IsCopy route message) among.0 (p ∷ before) copies) among.3
