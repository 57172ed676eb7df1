-- A real32 (IEEE 754, binary32) as the shortest decimal that is rounded to it.
use Rattle.std.specs.Prelude.{ℕ, ◌+◌, ◌-◌, ◌*◌, ◌/◌, ◌%◌, ◌^◌, ◌==◌, nat_le, nat_lt, pos, neg_ℤ, Bool, ◌&&◌}
use Rattle.std.specs.Prelude.{Option, Some, None, option_map, if◌then◌else◌}
use Rattle.std.specs.List.{find, range_with_len}
use Rattle.mctpctl_table.specs.Decimals.{decimal_of}
use Rattle.mctpctl_table.specs.declared.decimal.TheConstants.{MAX_PLACES}
use Rattle.mctpctl_table.specs.declared.decimal.Decimal.{Decimal}

-- the fields of a real32: a sign, an exponent of 8 bits and a fraction of 23

abbrev pub is_negative : ℕ → Bool
is_negative bits = nat_le (2 ^ 31) bits

abbrev pub exponent : ℕ → ℕ
exponent bits = bits / 2 ^ 23 % 2 ^ 8

abbrev pub fraction : ℕ → ℕ
fraction bits = bits % 2 ^ 23

-- its size is significand * 2 ^ (exponent - 150), where the exponent is neither 0 nor 255
abbrev pub significand : ℕ → ℕ
significand bits = 2 ^ 23 + fraction bits

-- the whole number nearest to a / b; of two that are as near, the even one
abbrev pub nearest : ℕ → ℕ → ℕ
nearest a b =
    if nat_lt (2 * (a % b)) b then a / b
    else if nat_lt b (2 * (a % b)) then a / b + 1
    else if a / b % 2 == 0 then a / b
    else a / b + 1

-- The real32s next to n / unit are (n + 1) / unit and (n - 1) / unit. Only below a power of two, where n is 2 ^ 23, the
-- lower one is half as far. In quarters of 1 / unit, here are the middles between it and these:

abbrev pub upper_middle : ℕ → ℕ
upper_middle n = 4 * n + 2

abbrev pub lower_middle : ℕ → ℕ
lower_middle n = if n == 2 ^ 23 then 4 * n - 1 else 4 * n - 2

-- the real32 nearest to digits / scale is n / unit
abbrev pub is_rounded : ℕ → ℕ → ℕ → ℕ → Bool
is_rounded n unit scale digits =
    nat_lt (lower_middle n * scale) (4 * (digits * unit)) && nat_lt (4 * (digits * unit)) (upper_middle n * scale)

-- the digits of the decimal nearest to n / unit, with so many places
abbrev pub digits_at : ℕ → ℕ → ℕ → ℕ
digits_at n unit places = nearest (n * 10 ^ places) unit

-- that decimal is rounded to n / unit
abbrev pub is_enough : ℕ → ℕ → ℕ → Bool
is_enough n unit places = is_rounded n unit (10 ^ places) (digits_at n unit places)

-- the fewest places that are enough, up to ten, and the digits with these
unfoldable pub shortest : ℕ → ℕ → Option (ℕ × ℕ)
shortest n unit =
    option_map (λ places. (digits_at n unit places, places))
    (find (is_enough n unit) (range_with_len 0 (MAX_PLACES + 1)))

abbrev pub with_sign : Bool → ℕ × ℕ → Decimal
with_sign negative found = decimal_of (if negative then neg_ℤ (pos found.0) else pos found.0) found.1

-- The decimal of a real32: none for one that is no number, of 2 ^ 24 or more, or that has more than ten places.
unfoldable pub real32_decimal : ℕ → Option Decimal
real32_decimal bits =
    if bits % 2 ^ 31 == 0 then Some (decimal_of (pos 0) 0)
    else if nat_le 90 (exponent bits) && nat_le (exponent bits) 150 then
    option_map (with_sign (is_negative bits)) (shortest (significand bits) (2 ^ (150 - exponent bits)))
    else None
