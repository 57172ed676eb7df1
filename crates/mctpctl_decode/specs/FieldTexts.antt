-- The parts of a decoded line: a space, and a field by name.
use Rattle.std.specs.Prelude.{ℕ, ◌+◌, ℤ, Bool, true, false, List, [], ◌∷◌, ◌++◌, Option, None, Some}
use Rattle.std.specs.Fmt.{decimal, signed_decimal}
use Rattle.hex.specs.Hex.{encode_lower}
use Rattle.mctp_packet.specs.Bits.{is_set}

abbrev pub word : List ℕ → List ℕ
word text = 32 ∷ text

-- a number in decimal after its name
abbrev pub field : List ℕ → ℕ → List ℕ
field name number = word name ++ word (decimal number)

abbrev pub signed_field : List ℕ → ℤ → List ℕ
signed_field name number = word name ++ word (signed_decimal number)

-- bytes in lower-case hex after their name
abbrev pub hex_field : List ℕ → List ℕ → List ℕ
hex_field name bytes = word name ++ word (encode_lower bytes)

-- a state by its name, else by its number
abbrev pub named : Option (List ℕ) → ℕ → List ℕ
named (Some name) number = word name
named None number = word (decimal number)

-- a completion code by its name, else in hex
abbrev pub code_word : Option (List ℕ) → ℕ → List ℕ
code_word (Some name) code = word name
code_word None code = word (encode_lower (code ∷ []))

-- the number of a bit that is set
abbrev pub bit_number : ℕ → Bool → List ℕ
bit_number number false = []
bit_number number true = word (decimal number)

-- the numbers of the bits of a byte that are set, the lowest bit being this number
abbrev pub byte_bits : ℕ → ℕ → List ℕ
byte_bits first byte =
    bit_number first (is_set byte 0) ++ bit_number (first + 1) (is_set byte 1)
    ++ bit_number (first + 2) (is_set byte 2) ++ bit_number (first + 3) (is_set byte 3)
    ++ bit_number (first + 4) (is_set byte 4) ++ bit_number (first + 5) (is_set byte 5)
    ++ bit_number (first + 6) (is_set byte 6) ++ bit_number (first + 7) (is_set byte 7)

-- the same of more bytes, eight bits to a byte
abbrev pub bits_from : ℕ → List ℕ → List ℕ
bits_from first [] = []
bits_from first (byte ∷ more) = byte_bits first byte ++ bits_from (first + 8) more
