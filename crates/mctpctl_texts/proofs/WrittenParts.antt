-- A text that is written part by part.
use Rattle.std.proofs.Common.{◌≡◌, ℕ, ◌/◌, ◌%◌, List, [], ◌∷◌, ◌++◌, slice_index, Option, Result, Ok, Err, OnOk, refl, ap, subst}
use Rattle.std.specs.Io.KnownBytes.{Appends}
use Rattle.std.proofs.KnownBytes.{Appends-trans}
use Rattle.hex.specs.Hex.{encode_lower, encode_with, lower_digits}

-- what is written last comes after what was written before
pub and_last : {E : Type 0} (result : Result Unit E) (a b c : Option (List ℕ)) (front back : List ℕ)
    → Appends a b front → OnOk result (Appends b c back) → OnOk result (Appends a c (front ++ back))
and_last (Ok done) a b c front back first last = Appends-trans a b c front back first last
and_last (Err fault) a b c front back first last = tt

-- a text that is the same
pub given_as : {E : Type 0} (result : Result Unit E) (a b : Option (List ℕ)) (text other : List ℕ)
    → text ≡ other → OnOk result (Appends a b text) → OnOk result (Appends a b other)
given_as (Ok done) a b text other same written = subst (Appends a b) same written
given_as (Err fault) a b text other same written = tt

encoded_after : (table front back : List ℕ) → encode_with table front ++ encode_with table back ≡ encode_with table (front ++ back)
unfolding encode_with
encoded_after table [] back = refl
encoded_after table (byte ∷ front) back =
    ap (λ t. slice_index table (byte / 16) ∷ slice_index table (byte % 16) ∷ t) (encoded_after table front back)

-- bytes in hex, and then others
pub hex_after : (front back : List ℕ) → encode_lower front ++ encode_lower back ≡ encode_lower (front ++ back)
hex_after front back = encoded_after lower_digits front back

pub hex_of_nothing : [] ≡ encode_lower []
unfolding encode_with
hex_of_nothing = refl
