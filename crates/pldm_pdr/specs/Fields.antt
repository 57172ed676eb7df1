-- A field that is read is a value and the bytes after it; or the first fault (DSP0240, "Byte ordering").
use Rattle.std.specs.Prelude.{◌≡◌, ℕ, ℤ, ◌==◌, nat_lt, Bool, ◌&&◌, true, false, List, [], ◌∷◌, ◌++◌, length, take, drop}
use Rattle.std.specs.Prelude.{Option, Some, None, Result, Ok, Err, if◌then◌else◌}
use Rattle.std.specs.Int.{w8, cast_signed, cast_unsigned}
use Rattle.byteorder.specs.Endian.{little_number}
use Rattle.pldm_wire.specs.Numbers.{sized, value_of, number_bytes}
use Rattle.pldm_wire.specs.Sizes.{fits, size_of, width}
use Rattle.pldm_wire.specs.declared.size.Size.{Size}
use Rattle.pldm_pdr.specs.declared.fault.RecordFault.{RecordFault}
use Rattle.pldm_pdr.specs.declared.fault.RecordFault.TheVariants.{Short, Flag, Size as WrongSize}

-- the value goes on to what is read after it; a fault ends it
unfoldable pub and_then : {A B : Type 0} → Result A RecordFault → (A → Result B RecordFault) → Result B RecordFault
and_then (Ok x) f = f x
and_then (Err fault) f = Err fault

infixl 10 ◌>>=◌
abbrev pub ◌>>=◌ : {A B : Type 0} → Result A RecordFault → (A → Result B RecordFault) → Result B RecordFault
r >>= f = and_then r f

-- a fault where the test says so
unfoldable pub refused : {A : Type 0} → Bool → RecordFault → Result A RecordFault → Result A RecordFault
refused true fault r = Err fault
refused false fault r = r

-- a field that is read with the bytes after it
abbrev pub Field : Type 0 → Type 0
Field A = Result (A × List ℕ) RecordFault

-- what a function returned, seen by view, is what reading gives
abbrev pub Gives : {X Y : Type 0} → (X → Y) → Result X RecordFault → Result Y RecordFault → Type 0
Gives view (Ok x) read = read ≡ Ok (view x)
Gives view (Err fault) read = read ≡ Err fault

-- one byte
abbrev pub byte : ℕ → List ℕ
byte b = b ∷ []

unfoldable pub byte_at : List ℕ → Field ℕ
byte_at [] = Err Short
byte_at (b ∷ rest) = Ok (b, rest)

-- one byte in two's complement
abbrev pub signed_byte : ℤ → List ℕ
signed_byte z = cast_unsigned w8 z ∷ []

unfoldable pub signed_byte_at : List ℕ → Field ℤ
signed_byte_at [] = Err Short
signed_byte_at (b ∷ rest) = Ok (cast_signed w8 b, rest)

-- one byte, 0 for no and 1 for yes
abbrev pub flag : Bool → List ℕ
flag false = 0 ∷ []
flag true = 1 ∷ []

unfoldable pub flag_at : List ℕ → Field Bool
flag_at [] = Err Short
flag_at (b ∷ rest) = if b == 0 then Ok (false, rest) else if b == 1 then Ok (true, rest) else Err Flag

-- an unsigned number of so many bytes, lowest first
unfoldable pub number_at : ℕ → List ℕ → Field ℕ
number_at count bytes =
    if nat_lt (length bytes) count then Err Short else Ok (little_number count bytes, drop count bytes)

-- so many bytes
unfoldable pub list_at : ℕ → List ℕ → Field (List ℕ)
list_at count bytes = refused (nat_lt (length bytes) count) Short (Ok (take count bytes, drop count bytes))

-- a number in the bytes of a data size
abbrev pub sized_bytes : Size → ℤ → List ℕ
sized_bytes size value = number_bytes (sized size value)

unfoldable pub sized_at : Size → List ℕ → Field ℤ
sized_at size bytes =
    if nat_lt (length bytes) (width size) then Err Short
    else Ok (value_of size (little_number (width size) bytes), drop (width size) bytes)

-- whether numbers fit a data size
abbrev pub all_fit : Size → List ℤ → Bool
all_fit size [] = true
all_fit size (value ∷ values) = fits size value && all_fit size values

-- the byte of a data size
abbrev pub size_or : Option Size → List ℕ → Field Size
size_or None rest = Err WrongSize
size_or (Some size) rest = Ok (size, rest)

unfoldable pub size_at : List ℕ → Field Size
size_at [] = Err Short
size_at (b ∷ rest) = size_or (size_of b) rest

-- a byte that has to have one value, for a fault else
unfoldable pub constant_at : RecordFault → ℕ → List ℕ → Result (List ℕ) RecordFault
constant_at fault value [] = Err Short
constant_at fault value (b ∷ rest) = if b == value then Ok rest else Err fault

-- what was added to bytes after those that were there
pub record Adds (old new added : List ℕ) : Type 0 where
  pub is : new ≡ old ++ added
