-- The first word of a text that begins with a number and a space.
use Rattle.std.proofs.Common.{◌≡◌, ◌≢◌, ℕ, ◌<◌, ◌&&◌, cond, nat_le, nat_lt, Bool, true, false, List, [], ◌∷◌, length, take, drop, get_or, slice_get, None, Some, refl, sym, ap, ◌∙◌, get_or-take, length-take, arith, rules}
use Rattle.std.specs.List.{list_all}
use Rattle.std.proofs.lemmas.Bool.{false≢true}
use Rattle.std.proofs.lemmas.Bool.Decides.{nat_tests}
use Rattle.std.proofs.lemmas.List.Sums.{AllPass-from_list_all}
use Rattle.line_words.specs.Lines.{words_of}
use Rattle.line_words.specs.Numbers.{decimal_of, decimal_value, is_digit, is_number}
use Rattle.line_words.specs.declared.numbers.TheConstants.{MAX_DIGITS}
use Rattle.line_words.proofs.LeadingDigits.{ends_at}
use Rattle.line_words.proofs.WordSplits.{first_word}

both : (a b : Bool) → (a && b) ≡ true → (a ≡ true) × (b ≡ true)
both true b e = (refl, e)
both false b e = absurd (false≢true e)

numbers_are : (word : List ℕ) (number : ℕ) → decimal_of word ≡ Some number → is_number word ≡ true
numbers_are word number e = go (is_number word) refl e
  where
    go : (b : Bool) → is_number word ≡ b → cond b (Some (decimal_value word)) None ≡ Some number → is_number word ≡ true
    go true t e = t
    go false t e = absurd (let wrong : None ≡ Some number = e in cc)

apart : (text : List ℕ) → is_digit (get_or text 0 0) ≡ true → slice_get text 0 ≢ Some 32
apart [] is = λ e. cc
apart (b ∷ bs) is = λ e.
    let same : Some b ≡ Some 32 = e in
    let space : b ≡ 32 = cc in
    false≢true (sym (ap is_digit space) ∙ is)

pub number_first : (text : List ℕ) (count number : ℕ) → decimal_of (take count text) ≡ Some number → count < length text → get_or text count 0 ≡ 32 → words_of text ≡ take count text ∷ words_of (drop count text)
number_first text count number is inside space =
    let word = take count text in
    let parts = both (nat_lt 0 (length word) && nat_le (length word) MAX_DIGITS) (list_all is_digit word) (numbers_are word number is) in
    let digits : list_all is_digit word ≡ true = parts.1 in
    let many : nat_lt 0 (length word) ≡ true = (both (nat_lt 0 (length word)) (nat_le (length word) MAX_DIGITS) parts.0).0 in
    let some : 0 < length word = search (rules, nat_tests) in
    let long = length-take count text in
    let more : 0 < count = omega (arith, some, long) in
    let first : is_digit (get_or text 0 0) ≡ true = ap is_digit (sym (get_or-take count text 0 0 more)) ∙ AllPass-from_list_all is_digit word digits 0 0 some in
    (first_word text count (omega (arith, inside)) (apart text first) (ends_at text count digits (omega (arith, inside)) (λ _. space))).words
