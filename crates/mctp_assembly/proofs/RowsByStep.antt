-- The newest row and the newest message, packet by packet: each goes on the newest row of the packets before.
use Rattle.std.proofs.Common.{◌≡◌, ℕ, zero, suc, ◌+◌, Bool, true, false, cond, not, ◌&&◌, ◌==◌, List, [], ◌∷◌, length, map, take, find, Option, Some, None, refl, sym, ap, ◌∙◌, add-one, arith}
use Rattle.std.specs.List.{range_with_len}
use Rattle.std.specs.Option.{option_map}
use Rattle.std.proofs.lemmas.Bool.Decides.{nat_tests}
use Rattle.mctp_packet.specs.Packets.{Packet}
use Rattle.mctp_assembly.specs.Rows.{is_middle, is_end, is_row, is_message, newest}

-- p in front of the row, where it passes
abbrev pub in_front : Bool → Packet → Option (List Packet) → Option (List Packet)
in_front passes p row = cond passes (option_map (λ ps. p ∷ ps) row) None

-- the newest row of at most n packets
abbrev pub row_in : ℕ → List Packet → Option (List Packet)
row_in zero ps = None
row_in (suc n) [] = None
row_in (suc n) (p ∷ []) = cond (p.start && not p.end) (Some (p ∷ [])) None
row_in (suc n) (p ∷ q ∷ ps) = cond (p.start && not p.end) (Some (p ∷ [])) (in_front (is_middle p q) p (row_in n (q ∷ ps)))

-- the newest message of at most n + 1 packets, the last of them p
abbrev pub message_in : ℕ → Packet → List Packet → Option (List Packet)
message_in n p [] = cond (p.start && p.end) (Some (p ∷ [])) None
message_in n p (q ∷ ps) = cond (p.start && p.end) (Some (p ∷ [])) (in_front (is_end p q) p (row_in n (q ∷ ps)))

-- the first of the last a, a + 1, .. packets that passes
abbrev found : (List Packet → Bool) → List Packet → ℕ → ℕ → Option (List Packet)
found test ps a n = find test (map (λ k. take k ps) (range_with_len a n))

found_in_none : (test : List Packet → Bool) → test [] ≡ false → (a n : ℕ) → found test [] a n ≡ None
found_in_none test h a zero = refl
found_in_none test h zero (suc n) = rw h (found_in_none test h 1 n)
found_in_none test h (suc a) (suc n) = rw h (found_in_none test h (suc a + 1) n)

map_cond : (f : List Packet → List Packet) (b : Bool) (x : List Packet) (o : Option (List Packet)) → cond b (Some (f x)) (option_map f o) ≡ option_map f (cond b (Some x) o)
map_cond f true x o = refl
map_cond f false x o = refl

found_behind : (test : List Packet → Bool) (p : Packet) (ps : List Packet) (a n : ℕ) → found test (p ∷ ps) (a + 1) n ≡ option_map (λ qs. p ∷ qs) (found (λ qs. test (p ∷ qs)) ps a n)
found_behind test p ps a zero = refl
found_behind test p ps a (suc n) =
    let one : take (a + 1) (p ∷ ps) ≡ p ∷ take a ps = rw add-one refl in
    ap (λ qs. cond (test qs) (Some qs) (found test (p ∷ ps) (a + 1 + 1) n)) one
    ∙ ap (cond (test (p ∷ take a ps)) (Some (p ∷ take a ps))) (found_behind test p ps (a + 1) n)
    ∙ map_cond (λ qs. p ∷ qs) (test (p ∷ take a ps)) (take a ps) (found (λ qs. test (p ∷ qs)) ps (a + 1) n)

never : (lists : List (List Packet)) → find (λ _. false) lists ≡ None
never [] = refl
never (x ∷ lists) = never lists

guarded : (b : Bool) (test : List Packet → Bool) (lists : List (List Packet)) → find (λ qs. b && test qs) lists ≡ cond b (find test lists) None
guarded true test lists = refl
guarded false test lists = never lists

map_guarded : (f : List Packet → List Packet) (b : Bool) (o : Option (List Packet)) → option_map f (cond b o None) ≡ cond b (option_map f o) None
map_guarded f true o = refl
map_guarded f false o = refl

-- two tests that agree on lists which begin with q find the same among them
agree : (s t : List Packet → Bool) (q : Packet) (ps : List Packet) (n : ℕ) → ((qs : List Packet) → s (q ∷ qs) ≡ t (q ∷ qs)) → found s (q ∷ ps) 1 n ≡ found t (q ∷ ps) 1 n
agree s t q ps n h =
    found_behind s q ps 0 n ∙ ap (λ test. option_map (λ qs. q ∷ qs) (found test ps 0 n)) (λ i qs. h qs i) ∙ sym (found_behind t q ps 0 n)

-- what stands behind a packet alone is nothing
alone : (test : List Packet → Bool) (p : Packet) (n : ℕ) (b : Bool) → test (p ∷ []) ≡ b → cond b (Some (p ∷ [])) (found test (p ∷ []) 2 n) ≡ cond b (Some (p ∷ [])) None
alone test p n true h = refl
alone test p n false h =
    found_behind test p [] 1 n ∙ ap (option_map (λ qs. p ∷ qs)) (found_in_none (λ qs. test (p ∷ qs)) h 1 n)

-- what passes behind p and goes on a row before it
goes_on : (test : List Packet → Bool) (b : Bool) (p q : Packet) (ps : List Packet) (n : ℕ) → ((qs : List Packet) → test (p ∷ q ∷ qs) ≡ (b && is_row (q ∷ qs))) → newest n is_row (q ∷ ps) ≡ row_in n (q ∷ ps)
    → found test (p ∷ q ∷ ps) 2 n ≡ in_front b p (row_in n (q ∷ ps))
goes_on test b p q ps n h before =
    found_behind test p (q ∷ ps) 1 n
    ∙ ap (option_map (λ qs. p ∷ qs)) (agree (λ qs. test (p ∷ qs)) (λ qs. b && is_row qs) q ps n h ∙ guarded b is_row (map (λ k. take k (q ∷ ps)) (range_with_len 1 n)) ∙ ap (λ o. cond b o None) before)
    ∙ map_guarded (λ qs. p ∷ qs) b (row_in n (q ∷ ps))

pub rows_by_step : (n : ℕ) (ps : List Packet) → newest n is_row ps ≡ row_in n ps
rows_by_step zero ps = refl
rows_by_step (suc n) [] = found_in_none is_row refl 1 (suc n)
rows_by_step (suc n) (p ∷ []) = alone is_row p n (p.start && not p.end) refl
rows_by_step (suc n) (p ∷ q ∷ ps) =
    ap (cond (p.start && not p.end) (Some (p ∷ []))) (goes_on is_row (is_middle p q) p q ps n (λ qs. refl) (rows_by_step n (q ∷ ps)))

pub messages_by_step : (n : ℕ) (p : Packet) (ps : List Packet) → newest (suc n) is_message (p ∷ ps) ≡ message_in n p ps
messages_by_step n p [] = alone is_message p n (p.start && p.end) refl
messages_by_step n p (q ∷ ps) =
    ap (cond (p.start && p.end) (Some (p ∷ []))) (goes_on is_message (is_end p q) p q ps n (λ qs. refl) (rows_by_step n (q ∷ ps)))

-- a row that is not too long to be gone on
abbrev pub shorter_than : ℕ → Option (List Packet) → Option (List Packet)
shorter_than n None = None
shorter_than n (Some ps) = cond (length ps == n) None (Some ps)

both_one_more : (a b : ℕ) → (suc a == suc b) ≡ (a == b)
both_one_more a b = grind (arith, nat_tests)

not_one : (n : ℕ) → (1 == suc (suc n)) ≡ false
not_one n = grind (arith, nat_tests)

map_unless : (f : List Packet → List Packet) (b : Bool) (x : List Packet) → option_map f (cond b None (Some x)) ≡ cond b None (Some (f x))
map_unless f true x = refl
map_unless f false x = refl

in_front_shorter : (b : Bool) (p : Packet) (n : ℕ) (o : Option (List Packet)) → in_front b p (shorter_than n o) ≡ shorter_than (suc n) (in_front b p o)
in_front_shorter false p n o = refl
in_front_shorter true p n None = refl
in_front_shorter true p n (Some ps) =
    map_unless (λ qs. p ∷ qs) (length ps == n) ps ∙ ap (λ b. cond b None (Some (p ∷ ps))) (sym (both_one_more (length ps) n))

one_or_shorter : (b : Bool) (p : Packet) (n : ℕ) (x y : Option (List Packet)) → x ≡ shorter_than (suc (suc n)) y → cond b (Some (p ∷ [])) x ≡ shorter_than (suc (suc n)) (cond b (Some (p ∷ [])) y)
one_or_shorter true p n x y h = ap (λ b. cond b None (Some (p ∷ []))) (sym (not_one n))
one_or_shorter false p n x y h = h

one_only : (b m : Bool) (p : Packet) → None ≡ shorter_than 1 (cond b (Some (p ∷ [])) (in_front m p None))
one_only true m p = refl
one_only false true p = refl
one_only false false p = refl

-- a row of at most n packets is one of at most n + 1 that has not n + 1
pub rows_shorter : (n : ℕ) (ps : List Packet) → row_in n ps ≡ shorter_than (suc n) (row_in (suc n) ps)
rows_shorter zero [] = refl
rows_shorter zero (p ∷ []) = one_only (p.start && not p.end) false p
rows_shorter zero (p ∷ q ∷ ps) = one_only (p.start && not p.end) (is_middle p q) p
rows_shorter (suc n) [] = refl
rows_shorter (suc n) (p ∷ []) = one_or_shorter (p.start && not p.end) p n None None refl
rows_shorter (suc n) (p ∷ q ∷ ps) =
    one_or_shorter (p.start && not p.end) p n (in_front (is_middle p q) p (row_in n (q ∷ ps))) (in_front (is_middle p q) p (row_in (suc n) (q ∷ ps)))
    (ap (in_front (is_middle p q) p) (rows_shorter n (q ∷ ps)) ∙ in_front_shorter (is_middle p q) p (suc n) (row_in (suc n) (q ∷ ps)))

-- a row ends with the newest packet
pub row_headed : (n : ℕ) (q : Packet) (ps : List Packet) → (o : Option (List Packet)) × (row_in n (q ∷ ps) ≡ option_map (λ qs. q ∷ qs) o)
row_headed zero q ps = (None, refl)
row_headed (suc n) q [] = (cond (q.start && not q.end) (Some []) None, map_cond (λ qs. q ∷ qs) (q.start && not q.end) [] None)
row_headed (suc n) q (r ∷ ps) = (
  cond (q.start && not q.end) (Some []) (cond (is_middle q r) (row_in n (r ∷ ps)) None),
  ap (cond (q.start && not q.end) (Some (q ∷ []))) (sym (map_guarded (λ qs. q ∷ qs) (is_middle q r) (row_in n (r ∷ ps)))) ∙ map_cond (λ qs. q ∷ qs) (q.start && not q.end) [] (cond (is_middle q r) (row_in n (r ∷ ps)) None),
)
