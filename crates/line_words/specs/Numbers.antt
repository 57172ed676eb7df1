-- The numbers that words spell.
use Rattle.std.specs.Prelude.{ℕ, ◌+◌, ◌-◌, ◌*◌, ◌^◌, ◌==◌, ◌&&◌, nat_lt, nat_le, ℤ, pos, neg_ℤ, Bool, if◌then◌else◌, List, [], ◌∷◌, length, Option, None, Some, option_map}
use Rattle.std.specs.List.{list_all}
use Rattle.line_words.specs.declared.numbers.TheConstants.{MAX_DIGITS}

-- whether the byte is `0` to `9`
abbrev pub is_digit : ℕ → Bool
is_digit b = nat_le 48 b && nat_le b 57

-- the value of decimal digits, each by its place
abbrev pub decimal_value : List ℕ → ℕ
decimal_value [] = 0
decimal_value (digit ∷ more) = (digit - 48) * 10 ^ length more + decimal_value more

-- whether the word is a number: decimal digits alone, of which there are one or more, but not too many
abbrev pub is_number : List ℕ → Bool
is_number word = nat_lt 0 (length word) && nat_le (length word) MAX_DIGITS && list_all is_digit word

-- the number that a word spells
abbrev pub decimal_of : List ℕ → Option ℕ
decimal_of word = if is_number word then Some (decimal_value word) else None

abbrev pub up_to : ℕ → Option ℕ → Option ℕ
up_to most None = None
up_to most (Some number) = if nat_le number most then Some number else None

-- the number that a word spells, where it is at most this
abbrev pub number_of : ℕ → List ℕ → Option ℕ
number_of most word = up_to most (decimal_of word)

-- the value that a word spells: a number, or `-` and a number
abbrev pub value_of : List ℕ → Option ℤ
value_of [] = None
value_of (sign ∷ digits) =
    if sign == 45 then option_map (λ number. neg_ℤ (pos number)) (decimal_of digits)
    else option_map pos (decimal_of (sign ∷ digits))
