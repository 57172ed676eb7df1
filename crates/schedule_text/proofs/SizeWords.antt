-- A word that is no text names no data size.
use Rattle.std.proofs.Common.{◌≡◌, List, [], ◌∷◌, ℕ, Bool, true, false, codes, None, refl, sym, subst}
use Rattle.std.specs.Prelude.{bytes_eq, nat_lt, if◌then◌else◌}
use Rattle.std.specs.List.{list_all}
use Rattle.std.specs.Str.{IsAscii, IsUtf8}
use Rattle.std.proofs.lemmas.Bool.{and_parts, ltb-true}
use Rattle.std.proofs.lemmas.Slice.Eq.{bytes_eq-Decides}
use Rattle.std.proofs.lemmas.Str.{IsUtf8-from_ascii}
use Rattle.std.proofs.lemmas.Str.Ascii.{IsAscii-nil, IsAscii-cons}
use Rattle.pldm_wire.specs.SizeNames.{size_named}

is_ascii : (text : List ℕ) → list_all (λ b. nat_lt b 128) text ≡ true → IsAscii text
is_ascii [] e = IsAscii-nil
is_ascii (b ∷ bs) e =
    let parts = and_parts (nat_lt b 128) (list_all (λ b. nat_lt b 128) bs) e in
    IsAscii-cons b bs (ltb-true b 128 parts.0) (is_ascii bs parts.1)

other_text : (word text : List ℕ) → (IsUtf8 word → ⊥) → list_all (λ b. nat_lt b 128) text ≡ true → bytes_eq word text ≡ false
other_text word text none is = go (bytes_eq word text) refl
  where
    go : (b : Bool) → bytes_eq word text ≡ b → b ≡ false
    go false e = refl
    go true e = absurd (none (subst IsUtf8 (sym ((bytes_eq-Decides word text).0 e)) (IsUtf8-from_ascii text (is_ascii text is))))

either : {A : Type 0} (b : Bool) (x y z : A) → b ≡ false → y ≡ z → (if b then x else y) ≡ z
either true x y z e q = cc
either false x y z e q = q

pub no_size : (word : List ℕ) → (IsUtf8 word → ⊥) → size_named word ≡ None
no_size word none =
    either _ _ _ _ (other_text word (codes "uint8") none refl) (
    either _ _ _ _ (other_text word (codes "sint8") none refl) (
    either _ _ _ _ (other_text word (codes "uint16") none refl) (
    either _ _ _ _ (other_text word (codes "sint16") none refl) (
    either _ _ _ _ (other_text word (codes "uint32") none refl) (
    either _ _ _ _ (other_text word (codes "sint32") none refl) refl)))))
