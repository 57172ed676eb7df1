-- Hex digits hold no space, so they are one word.
use Rattle.std.proofs.Common.{◌≡◌, ℕ, ◌==◌, Bool, true, false, List, [], ◌∷◌, length, drop, nat_lt, get_or, slice_get, Some, None, Ok, refl, sym, ap, ◌∙◌, rules}
use Rattle.std.specs.List.{AllPass, slice_split}
use Rattle.std.proofs.lemmas.Bool.Decides.{nat_tests}
use Rattle.std.proofs.lemmas.List.Splits.{slice_split_none}
use Rattle.hex.specs.Hex.{decode_of, is_hex_digit}
use Rattle.hex.proofs.HexLemmas.{decode_of-ok}
use Rattle.line_words.specs.Lines.{words_of}
use Rattle.mctpctl_input.specs.CaptureLine.{packet_word}

digit_apart : (b : ℕ) (is_space : Bool) → is_hex_digit b ≡ true → (b == 32) ≡ is_space → (b == 32) ≡ false
digit_apart b false digit e = e
digit_apart b true digit e =
    let space : b ≡ 32 = search (rules, nat_tests) in
    let none : is_hex_digit 32 ≡ true = ap is_hex_digit (sym space) ∙ digit in
    cc

no_space : (digits : List ℕ) → AllPass is_hex_digit digits → slice_split (λ b. b == 32) digits ≡ digits ∷ []
no_space digits all =
    slice_split_none (λ b. b == 32) digits
    (λ k d within. digit_apart (get_or digits k d) (get_or digits k d == 32) (all k d within) refl)

plain_word : (digits bytes : List ℕ) → decode_of digits ≡ Ok bytes → packet_word (words_of (32 ∷ digits)) ≡ Ok digits
plain_word [] bytes decoded = refl
plain_word (digit ∷ more) bytes decoded =
    let whole = no_space (digit ∷ more) (decode_of-ok (digit ∷ more) bytes decoded).1 in
    let kept : nat_lt 0 (length (digit ∷ more)) ≡ true = search (rules, nat_tests) in
    rw (whole, kept) refl

none_first : {P : Type 0} (b : ℕ) → None ≡ Some b → P
none_first b e = let none : None ≡ Some b = e in cc

-- a space and then hex digits hold one word, or none where there is no digit
pub plain_text : (text bytes : List ℕ) → slice_get text 0 ≡ Some 32 → decode_of (drop 1 text) ≡ Ok bytes → packet_word (words_of text) ≡ Ok (drop 1 text)
plain_text [] bytes space decoded = none_first 32 space
plain_text (first ∷ digits) bytes space decoded =
    let some : Some first ≡ Some 32 = space in
    let same : first ≡ 32 = cc in
    ap (λ b. packet_word (words_of (b ∷ digits))) same ∙ plain_word digits bytes decoded
