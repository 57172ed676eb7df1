-- What stands at a place of a message's data.
use Rattle.std.specs.Prelude.{ℕ, zero, suc, List, [], ◌∷◌, slice_index}
use Rattle.byteorder.specs.Endian.{little_from}

-- the unsigned number of two bytes, lowest first
abbrev pub u16_at : ℕ → List ℕ → ℕ
u16_at place bytes = little_from place 2 bytes

-- the unsigned number of four bytes, lowest first
abbrev pub u32_at : ℕ → List ℕ → ℕ
u32_at place bytes = little_from place 4 bytes

-- so many bytes from a place on
abbrev pub bytes_at : ℕ → ℕ → List ℕ → List ℕ
bytes_at place zero bytes = []
bytes_at place (suc count) bytes = slice_index bytes place ∷ bytes_at (suc place) count bytes
