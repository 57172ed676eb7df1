-- The name of a line's file: its path, with no slash.
use Rattle.std.specs.List.{flat_map}
use Rattle.std.specs.Prelude.{ℕ, ◌+◌, ◌-◌, ◌/◌, ◌%◌, ◌==◌, nat_le, nat_lt, ◌&&◌, ◌||◌, Bool, List, [], ◌∷◌, if◌then◌else◌}

abbrev pub is_within : ℕ → ℕ → ℕ → Bool
is_within low high byte = nat_le low byte && nat_le byte high

-- a digit, a letter of ASCII, or a point
abbrev pub is_plain : ℕ → Bool
is_plain byte = is_within 48 57 byte || is_within 65 90 byte || is_within 97 122 byte || byte == 46

-- a number below 16 as a digit in hex
abbrev pub hex_digit : ℕ → ℕ
hex_digit number = if nat_lt number 10 then 48 + number else 97 + (number - 10)

-- '-' for a slash; what is plain as it is; of any other '%' and its two hex digits
abbrev pub byte_part : ℕ → List ℕ
byte_part byte =
    if byte == 47 then 45 ∷ []
    else if is_plain byte then byte ∷ []
    else 37 ∷ hex_digit (byte / 16) ∷ hex_digit (byte % 16) ∷ []

abbrev pub name_part : List ℕ → List ℕ
name_part path = flat_map byte_part path
