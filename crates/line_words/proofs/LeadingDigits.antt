-- The digits that a text begins with: their value, digit by digit, and where they end.
use Rattle.std.proofs.Common.{◌≡◌, ℕ, ◌+◌, ◌-◌, ◌*◌, ◌^◌, ◌<◌, ◌≤◌, ◌==◌, ◌&&◌, Bool, true, false, cond, nat_lt, nat_le, List, [], ◌∷◌, ◌++◌, length, take, get_or, None, Some, position, unwrap_or, refl, sym, ap, ◌∙◌, add-one, length-append, length-take, get_or-take, take-suc, arith, rules}
use Rattle.std.specs.List.{list_all, position_or_len}
use Rattle.std.proofs.Math.Nat.{pow-suc}
use Rattle.std.proofs.lemmas.List.Folds.{list_all_more}
use Rattle.std.proofs.lemmas.List.Sums.{position_or_len_is, AllPass-from_list_all}
use Rattle.std.proofs.lemmas.Bool.Decides.{nat_tests}
use Rattle.std.proofs.lemmas.List.{get_or_default}
use Rattle.line_words.specs.declared.numbers.TheConstants.{MAX_DIGITS}
use Rattle.line_words.specs.Numbers.{decimal_of, decimal_value, is_digit}

one_more : (digit place rest last : ℕ) → digit * (place * 10) + (rest * 10 + last) ≡ (digit * place + rest) * 10 + last
one_more digit place rest last = omega arith

-- a digit after others makes each of them worth ten times as much
after : (word : List ℕ) (last : ℕ) → decimal_value (word ++ last ∷ []) ≡ decimal_value word * 10 + (last - 48)
after [] last = omega arith
after (digit ∷ more) last =
    let long : length (more ++ last ∷ []) ≡ length more + 1 = omega (arith, length-append more (last ∷ [])) in
    rw (long, add-one, pow-suc, after more last) (one_more (digit - 48) (10 ^ length more) (decimal_value more) (last - 48))

pub next_value : (text : List ℕ) (count digit : ℕ) → count < length text → digit ≡ get_or text count 0 - 48
    → decimal_value (take (count + 1) text) ≡ decimal_value (take count text) * 10 + digit
next_value text count digit within is =
    let longer : take (count + 1) text ≡ take count text ++ get_or text count 0 ∷ [] = rw add-one (take-suc text count 0 within) in
    rw (longer, is) (after (take count text) (get_or text count 0))

-- what is known of one more digit, at the place that comes next
pub record NextDigit (text : List ℕ) (count byte digit : ℕ) : Type 0 where
  pub within : count < length text
  pub here : byte ≡ get_or text count 0
  pub passes : is_digit byte ≡ true
  pub is : digit ≡ byte - 48

pub next_digits : (text : List ℕ) (count byte digit : ℕ) → NextDigit text count byte digit
    → list_all is_digit (take count text) ≡ true → list_all is_digit (take (count + 1) text) ≡ true
next_digits text count byte digit next before =
    list_all_more is_digit text count 0 next.within
    ∙ ap (λ t. t && is_digit (get_or text count 0)) before
    ∙ ap is_digit (sym next.here) ∙ next.passes

pub value_after : (text : List ℕ) (count byte digit value : ℕ) → NextDigit text count byte digit
    → value ≡ decimal_value (take count text) → value * 10 + digit ≡ decimal_value (take (count + 1) text)
value_after text count byte digit value next so_far =
    rw so_far (sym (next_value text count digit next.within (next.is ∙ ap (λ b. b - 48) next.here)))

-- ---- where the digits end

no_space : (byte : ℕ) → is_digit byte ≡ true → (byte == 32) ≡ false
no_space byte is = grind (arith, nat_tests)

no_space_before : (text : List ℕ) (count k : ℕ) → list_all is_digit (take count text) ≡ true → k < count
    → count ≤ length text → (get_or text k 0 == 32) ≡ false
no_space_before text count k digits before within =
    let inside : k < length (take count text) = omega (arith, length-take count text) in
    let passes = AllPass-from_list_all is_digit (take count text) digits k 0 inside in
    no_space (get_or text k 0) (ap is_digit (sym (get_or-take count text k 0 before)) ∙ passes)

-- a place that is past none of a text is the first space's, or the end
or_end : (place long : ℕ) (found : Bool) → nat_lt place long ≡ found → place ≤ long
    → place ≡ unwrap_or (cond found (Some place) None) long
or_end place long true inside within = refl
or_end place long false past within =
    let after : long ≤ place = search (rules, nat_tests) in
    omega arith

-- they end where the text does, or before a space
pub ends_at : (text : List ℕ) (count : ℕ) → list_all is_digit (take count text) ≡ true → count ≤ length text
    → (count < length text → get_or text count 0 ≡ 32)
    → count ≡ unwrap_or (position (λ b. b == 32) text) (length text)
ends_at text count digits within space =
    let first : position_or_len (λ b. b == 32) text ≡ count =
    position_or_len_is (λ b. b == 32) text count 0 within
    (λ k before. no_space_before text count k digits before within)
    (λ inside. rw (space inside) refl) in
    rw first (or_end count (length text) (nat_lt count (length text)) refl within)

pub spells : (text : List ℕ) (count value : ℕ) → 0 < count → count ≤ MAX_DIGITS → count ≤ length text
    → list_all is_digit (take count text) ≡ true → value ≡ decimal_value (take count text)
    → Some value ≡ decimal_of (take count text)
spells text count value some few within digits is =
    let long : length (take count text) ≡ count = omega (arith, length-take count text) in
    let more : nat_lt 0 count ≡ true = search (rules, nat_tests) in
    let less : nat_le count MAX_DIGITS ≡ true = search (rules, nat_tests) in
    rw (long, more, less, digits, is) refl

pub space_here : (text : List ℕ) (end byte : ℕ) → (byte == 32) ≡ true → byte ≡ get_or text end byte → end < length text
    → get_or text end 0 ≡ 32
space_here text end byte space here inside =
    let same : byte ≡ 32 = search (rules, nat_tests) in
    sym (here ∙ get_or_default text end byte 0 inside) ∙ same

pub nothing_here : (text : List ℕ) (end : ℕ) → false ≡ nat_lt end (length text) → end < length text
    → get_or text end 0 ≡ 32
nothing_here text end past inside =
    let within : nat_lt end (length text) ≡ true = search (rules, nat_tests) in
    cc
