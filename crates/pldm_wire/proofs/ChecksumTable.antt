-- A table is held against the checksum of each byte alone, by computing.
use Rattle.std.proofs.Common.{◌≡◌, ℕ, zero, suc, ◌<◌, Bool, true, ◌&&◌, eqb, eqb-true, get_or, List, [], ◌∷◌, arith, inl, inr}
use Rattle.std.proofs.lemmas.Bool.{cases_eq, and_parts}
use Rattle.pldm_wire.specs.Crc.{crc}

-- the first n entries are the checksums of their places
unfoldable pub has_checksums : List ℕ → ℕ → Bool
has_checksums table zero = true
has_checksums table (suc n) = eqb (get_or table n 0) (crc (n ∷ [])) && has_checksums table n

pub entry_at : (table : List ℕ) (n byte : ℕ) → byte < n → has_checksums table n ≡ true → get_or table byte 0 ≡ crc (byte ∷ [])
unfolding has_checksums
entry_at table zero byte lt h = absurd (omega arith)
entry_at table (suc n) byte lt h =
    let both = and_parts (eqb (get_or table n 0) (crc (n ∷ []))) (has_checksums table n) h in
    elim (cases_eq byte n) [
      | inl same ↦ rw same (eqb-true (get_or table n 0) (crc (n ∷ [])) both.0)
      | inr other ↦ entry_at table n byte (omega arith) both.1
    ]
