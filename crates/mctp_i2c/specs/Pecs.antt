-- The packet error code (PEC) of SMBus, which I3C has too: the remainder of the bytes before it by x^8 + x^2 + x + 1.
use Rattle.std.specs.Prelude.{ℕ, List, [], ◌∷◌, ◌++◌}
use Rattle.pldm_wire.specs.Crc.{crc}

-- bytes, and their PEC after them
abbrev pub with_pec : List ℕ → List ℕ
with_pec bytes = bytes ++ crc bytes ∷ []
