-- A checksum stands after some bytes.
use Rattle.std.proofs.Common.{◌≡◌, ℕ, ◌<◌, Bool, true, false, ◌&&◌, ◌==◌, nat_lt, List, length, refl, ltb-true}
use Rattle.pldm_wire.specs.Crc32.{crc32}
use Rattle.pldm_wire.specs.Places.{u32_at}
use Rattle.pldm_discovery.specs.Versions.{is_checksum_of}

by_tests : (front : List ℕ) (some same : Bool) → nat_lt 0 (length front) ≡ some → (some && same) ≡ true → 0 < length front
by_tests front true same some e = ltb-true _ _ some
by_tests front false same some e = cc

pub some_before : (last front : List ℕ) → is_checksum_of last front ≡ true → 0 < length front
unfolding is_checksum_of
some_before last front e = by_tests front (nat_lt 0 (length front)) (u32_at 0 last == crc32 front) refl e
