-- Decimal numbers, and how they are written: in plain notation, with a digit before the point.
use Rattle.std.specs.Prelude.{ℕ, ◌-◌, ◌^◌, ◌==◌, nat_le, nat_lt, ℤ, pos, negsuc, ◌+ℤ◌, ◌*ℤ◌, Bool}
use Rattle.std.specs.Prelude.{int_lt, unsigned_abs, List, [], ◌∷◌, ◌++◌, length, take, drop, replicate, Option, Some}
use Rattle.std.specs.Prelude.{None, if◌then◌else◌}
use Rattle.std.specs.Fmt.{decimal}
use Rattle.mctpctl_table.specs.declared.decimal.Decimal.{Decimal}

-- number * 10 ^ -places
abbrev pub decimal_of : ℤ → ℕ → Decimal
decimal_of number places = record { number = number; places = places }

-- whether a number has room in 128 bits: negsuc n is -1 - n
abbrev pub has_room : ℤ → Bool
has_room (pos n) = nat_lt n (2 ^ 127)
has_room (negsuc n) = nat_lt n (2 ^ 127)

-- a number that has room
abbrev pub exact : ℤ → Option ℤ
exact z = if has_room z then Some z else None

abbrev pub and_then : {A B : Type 0} → Option A → (A → Option B) → Option B
and_then None f = None
and_then (Some x) f = f x

-- a decimal times a whole number
abbrev pub product : ℤ → Decimal → Option Decimal
product number factor = and_then (exact (number *ℤ factor.number)) (λ digits. Some (decimal_of digits factor.places))

-- the number that a decimal is with more places
abbrev pub at_places : ℕ → Decimal → Option ℤ
at_places places d = exact (d.number *ℤ pos (10 ^ (places - d.places)))

-- the sum of two decimals, with the places of the one that has more
abbrev pub sum_at : ℕ → Decimal → Decimal → Option Decimal
sum_at places left right =
    and_then (at_places places left) (λ x.
    and_then (at_places places right) (λ y.
    and_then (exact (x +ℤ y)) (λ z. Some (decimal_of z places))))

abbrev pub sum : Decimal → Decimal → Option Decimal
sum left right = sum_at (if nat_le left.places right.places then right.places else left.places) left right

-- digits with so many behind the point: at least one before it
abbrev pub pointed : List ℕ → ℕ → List ℕ
pointed digits places =
    if nat_lt places (length digits) then
    take (length digits - places) digits ++ 46 ∷ drop (length digits - places) digits
    else 48 ∷ 46 ∷ replicate (places - length digits) 48 ++ digits

-- digits and so many zeros; zero is one digit
abbrev pub with_zeros : ℕ → ℕ → List ℕ
with_zeros number zeros = if number == 0 then 48 ∷ [] else decimal number ++ replicate zeros 48

-- number * 10 ^ exponent
unfoldable pub size_text : ℕ → ℤ → List ℕ
size_text number exponent =
    if int_lt exponent (pos 0) then pointed (decimal number) (unsigned_abs exponent)
    else with_zeros number (unsigned_abs exponent)

-- the sign of a number
abbrev pub sign : ℤ → List ℕ
sign number = if int_lt number (pos 0) then 45 ∷ [] else []

-- the same with its sign
abbrev pub decimal_text : ℤ → ℤ → List ℕ
decimal_text number exponent = sign number ++ size_text (unsigned_abs number) exponent
