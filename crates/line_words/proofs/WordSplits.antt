-- The first word of a text, by the place of its first space.
use Rattle.std.proofs.Common.{◌≡◌, ◌≢◌, ℕ, ◌+◌, ◌==◌, ◌<◌, ◌≤◌, zero, suc, Bool, true, false, cond, nat_lt, List, [], ◌∷◌, length, take, drop, filter, get_or, slice_get, unwrap_or, Some, None, position, refl, sym, ap, subst, ◌∙◌, add-one, drop-cons, drop_of_length-le, length-take, arith, rules}
use Rattle.std.specs.List.{position_or_len, slice_split}
use Rattle.std.proofs.lemmas.List.Sums.{passes_at_first, fails_before_first}
use Rattle.std.proofs.lemmas.List.Splits.{slice_split_first, slice_split_none}
use Rattle.std.proofs.lemmas.List.{take_all}
use Rattle.std.proofs.lemmas.Bool.Decides.{nat_tests}
use Rattle.line_words.specs.Lines.{words_of}

-- `end` is the end of the text's first word
pub record EndsWord (text : List ℕ) (end : ℕ) : Type 0 where
  pub words : words_of text ≡ take end text ∷ words_of (drop end text)

keeps_word : (word : List ℕ) (more : List (List ℕ)) → 0 < length word → filter (λ piece. nat_lt 0 (length piece)) (word ∷ more) ≡ word ∷ filter (λ piece. nat_lt 0 (length piece)) more
keeps_word word more some =
    let test : nat_lt 0 (length word) ≡ true = search (rules, nat_tests) in
    rw test refl

starts_apart : (text : List ℕ) → 0 < length text → slice_get text 0 ≢ Some 32 → get_or text 0 0 ≢ 32
starts_apart [] some apart = absurd (omega arith)
starts_apart (b ∷ bs) some apart = λ e. apart (ap Some e)

after_space : (rest : List ℕ) → words_of (32 ∷ rest) ≡ words_of rest
after_space rest = refl

ends_here : (text : List ℕ) (end : ℕ) → 0 < end → end < length text → get_or text end 0 ≡ 32 → slice_split (λ b. b == 32) text ≡ take end text ∷ slice_split (λ b. b == 32) (drop (end + 1) text) → EndsWord text end
ends_here text end some within space pieces =
    let rest_is : drop end text ≡ 32 ∷ drop (end + 1) text = rw (add-one, drop-cons text end 0, space) refl in
    let word : 0 < length (take end text) = omega (arith, length-take {A = ℕ}) in
    record {
      words = ap (λ l. filter (λ piece. nat_lt 0 (length piece)) l) pieces ∙ keeps_word (take end text) (slice_split (λ b. b == 32) (drop (end + 1) text)) word ∙ ap (λ l. take end text ∷ l) (sym (after_space (drop (end + 1) text)) ∙ sym (ap (λ l. words_of l) rest_is));
    }

later : (text : List ℕ) (n : ℕ) → get_or text 0 0 ≢ 32 → get_or text n 0 ≡ 32 → 0 < n
later text zero apart space = absurd (apart space)
later text (suc n) apart space = omega arith

ends_at_space : (text : List ℕ) → get_or text 0 0 ≢ 32 → position_or_len (λ b. b == 32) text < length text → EndsWord text (position_or_len (λ b. b == 32) text)
ends_at_space text apart within =
    let space : get_or text (position_or_len (λ b. b == 32) text) 0 ≡ 32 = search (rules, nat_tests, passes_at_first (λ b. b == 32) text 0 within) in
    let some : 0 < position_or_len (λ b. b == 32) text = later text (position_or_len (λ b. b == 32) text) apart space in
    ends_here text (position_or_len (λ b. b == 32) text) some within space (slice_split_first (λ b. b == 32) text 0 within)

ends_at_end : (text : List ℕ) → 0 < length text → length text ≤ position_or_len (λ b. b == 32) text → EndsWord text (length text)
ends_at_end text some past =
    let whole = slice_split_none (λ b. b == 32) text (λ k d within. fails_before_first (λ b. b == 32) text k d (omega arith)) in
    let front : take (length text) text ≡ text = take_all (length text) text (omega arith) in
    let rest : drop (length text) text ≡ [] = drop_of_length-le text {i = length text} (omega arith) in
    record {
      words = ap (λ l. filter (λ piece. nat_lt 0 (length piece)) l) whole ∙ keeps_word text [] some ∙ rw (front, rest) refl;
    }

first_word_by : (text : List ℕ) (end : ℕ) (found : Bool) → 0 < length text → get_or text 0 0 ≢ 32 → nat_lt (position_or_len (λ b. b == 32) text) (length text) ≡ found → end ≡ unwrap_or (cond found (Some (position_or_len (λ b. b == 32) text)) None) (length text) → EndsWord text end
first_word_by text end true some apart inside e =
    let P : ℕ → Type 0 = λ n. EndsWord text n in
    subst P (sym e) (ends_at_space text apart (search (rules, nat_tests)))
first_word_by text end false some apart inside e =
    let P : ℕ → Type 0 = λ n. EndsWord text n in
    subst P (sym e) (ends_at_end text some (search (rules, nat_tests)))

pub first_word : (text : List ℕ) (end : ℕ) → 0 < length text → slice_get text 0 ≢ Some 32 → end ≡ unwrap_or (position (λ b. b == 32) text) (length text) → EndsWord text end
first_word text end some apart e =
    first_word_by text end (nat_lt (position_or_len (λ b. b == 32) text) (length text)) some (starts_apart text some apart) refl e
