-- What a definition takes from the source, written a second time.
use Rattle.std.proofs.Common.{◌≡◌, [], ◌∷◌, refl}
use Rattle.update_line.specs.declared.type_answers.TheConstants.{TYPES, VERSION}

-- types 0, 2 and 5, a bit each
types : TYPES ≡ 0x25 ∷ 0 ∷ 0 ∷ 0 ∷ 0 ∷ 0 ∷ 0 ∷ 0 ∷ []
types = refl

-- 1.1.0, and the CRC-32 of its bytes
version : VERSION ≡ 0x00 ∷ 0xF0 ∷ 0xF1 ∷ 0xF1 ∷ 0xBA ∷ 0xBE ∷ 0x9D ∷ 0x53 ∷ []
version = refl
