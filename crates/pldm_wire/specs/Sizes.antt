-- The data sizes of numeric sensors and effecters (DSP0248, "sensorDataSize" and
-- "effecterDataSize").
use Rattle.std.specs.Prelude.{ℕ, ◌==◌, ℤ, pos, negsuc, ◌≤ℤ◌, int_le, Bool, true}
use Rattle.std.specs.Prelude.{false, ◌&&◌, Option, Some, None, if◌then◌else◌}
use Rattle.pldm_wire.specs.declared.size.Size.{Size}
use Rattle.pldm_wire.specs.declared.size.Size.TheVariants.{Uint8, Sint8, Uint16, Sint16, Uint32, Sint32}

-- the number of a size on the wire
abbrev pub size_code : Size → ℕ
size_code Uint8 = 0
size_code Sint8 = 1
size_code Uint16 = 2
size_code Sint16 = 3
size_code Uint32 = 4
size_code Sint32 = 5

-- the size of a number on the wire
abbrev pub size_of : ℕ → Option Size
size_of code =
    if code == 0 then Some Uint8
    else if code == 1 then Some Sint8
    else if code == 2 then Some Uint16
    else if code == 3 then Some Sint16
    else if code == 4 then Some Uint32
    else if code == 5 then Some Sint32
    else None

-- the bytes of a number of the size
abbrev pub width : Size → ℕ
width Uint8 = 1
width Sint8 = 1
width Uint16 = 2
width Sint16 = 2
width Uint32 = 4
width Sint32 = 4

-- whether a number of the size may be negative
abbrev pub is_signed : Size → Bool
is_signed Uint8 = false
is_signed Sint8 = true
is_signed Uint16 = false
is_signed Sint16 = true
is_signed Uint32 = false
is_signed Sint32 = true

-- the least number of the size: negsuc n is -1 - n
abbrev pub least : Size → ℤ
least Uint8 = pos 0
least Sint8 = negsuc 127
least Uint16 = pos 0
least Sint16 = negsuc 32767
least Uint32 = pos 0
least Sint32 = negsuc 2147483647

-- the greatest number of the size
abbrev pub greatest : Size → ℤ
greatest Uint8 = pos 255
greatest Sint8 = pos 127
greatest Uint16 = pos 65535
greatest Sint16 = pos 32767
greatest Uint32 = pos 4294967295
greatest Sint32 = pos 2147483647

-- the number fits the size
abbrev pub Fits : Size → ℤ → Type 0
Fits size value = (least size ≤ℤ value) × (value ≤ℤ greatest size)

-- the same as a test
abbrev pub fits : Size → ℤ → Bool
fits size value = int_le (least size) value && int_le value (greatest size)
