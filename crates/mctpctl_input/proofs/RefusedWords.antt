-- What a word that is refused as a packet says.
use Rattle.std.proofs.Common.{◌≡◌, ℕ, ◌-◌, ◌%◌, ◌==◌, Bool, true, false, List, [], ◌∷◌, length, None, Some, Result, Ok, Err, refl, sym, ap, ◌∙◌, arith, rules}
use Rattle.std.specs.Prelude.{◌&&◌, ◌||◌, is_ok, is_some, if◌then◌else◌}
use Rattle.std.specs.Char.{is_ascii_hexdigit}
use Rattle.std.specs.List.{list_all}
use Rattle.std.proofs.lemmas.Bool.Decides.{nat_tests}
use Rattle.std.proofs.lemmas.List.Sums.{AllPass-from_list_all, list_all-from_AllPass}
use Rattle.hex.specs.Hex.{decode_of, decode_pairs, is_hex_digit}
use Rattle.hex.specs.declared.error.FromHexError.{FromHexError}
use Rattle.hex.proofs.HexLemmas.{decode_of-digits, decode_of-ok}
use Rattle.mctpctl_input.specs.CaptureLine.{packet_at}
use Rattle.mctpctl_input.specs.CaptureRefusals.{fault_of}
use Rattle.mctpctl_input.specs.declared.faults.LineKind.TheVariants.{BadHex}

by_class : (digit upper lower : Bool) (x y z : ℕ) → ((digit || upper) || lower) ≡ is_some (if upper then Some x else if lower then Some y else if digit then Some z else None)
by_class true true true x y z = refl
by_class true true false x y z = refl
by_class true false true x y z = refl
by_class true false false x y z = refl
by_class false true true x y z = refl
by_class false true false x y z = refl
by_class false false true x y z = refl
by_class false false false x y z = refl

same_digit : (b : ℕ) → is_ascii_hexdigit b ≡ is_hex_digit b
same_digit b = by_class _ _ _ (b - 55) (b - 87) (b - 48)

same_digits : (word : List ℕ) → list_all is_ascii_hexdigit word ≡ list_all is_hex_digit word
same_digits [] = refl
same_digits (b ∷ more) = rw (same_digit b, same_digits more) refl

module _ (word : List ℕ) where
  by_decoded : (even digits : Bool) (decoded : Result (List ℕ) FromHexError) → (length word % 2 == 0) ≡ even
      → list_all is_hex_digit word ≡ digits → decode_of word ≡ decoded → (even && digits) ≡ is_ok decoded
  by_decoded even digits (Ok bytes) e d w =
      let parts = decode_of-ok word bytes w in
      let yes : (length word % 2 == 0) ≡ true = search (rules, nat_tests, parts.0) in
      let all = list_all-from_AllPass is_hex_digit word parts.1 in
      rw (sym e, sym d, yes, all) refl
  by_decoded true true (Err fault) e d w =
      let even : length word % 2 ≡ 0 = grind (arith, nat_tests, e) in
      let read = decode_of-digits word even (AllPass-from_list_all is_hex_digit word d) in
      let wrong : Ok read.0 ≡ Err fault = sym read.1 ∙ w in
      cc
  by_decoded true false (Err fault) e d w = refl
  by_decoded false digits (Err fault) e d w = refl

  -- two digits for each byte
  pub spelled : ((length word % 2 == 0) && list_all is_ascii_hexdigit word) ≡ is_ok (decode_of word)
  spelled = ap (λ d. (length word % 2 == 0) && d) (same_digits word) ∙ by_decoded _ _ _ refl refl refl

-- digits of an even number
pub even_spelled : (word : List ℕ) → length word % 2 ≡ 0 → list_all is_ascii_hexdigit word ≡ is_ok (decode_of word)
even_spelled word even =
    let yes : (length word % 2 == 0) ≡ true = search (rules, nat_tests, even) in
    sym (ap (λ b. b && list_all is_ascii_hexdigit word) yes) ∙ spelled word

-- no digits spell no bytes
pub no_bytes : is_ok (decode_of []) ≡ true
unfolding decode_pairs
no_bytes = refl

-- a packet has a fault where its word spells no bytes
pub packet_fault : (moment : ℕ) (decoded : Result (List ℕ) FromHexError)
    → fault_of (packet_at moment decoded) ≡ (if is_ok decoded then None else Some BadHex)
packet_fault moment (Ok bytes) = refl
packet_fault moment (Err fault) = refl
