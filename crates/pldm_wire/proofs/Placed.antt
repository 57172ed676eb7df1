-- What stands at a place, read from the place on.
use Rattle.std.proofs.Common.{◌≡◌, ℕ, zero, suc, ◌+◌, ◌≤◌, List, length, take, drop, refl, arith, add-one}
use Rattle.std.proofs.lemmas.List.{get_or-drop, drop_more}
use Rattle.byteorder.specs.Endian.{little_from}
use Rattle.pldm_wire.specs.Places.{bytes_at}

little_from_dropped : (i j n : ℕ) (bytes : List ℕ) → little_from j n (drop i bytes) ≡ little_from (i + j) n bytes
little_from_dropped i j zero bytes = refl
little_from_dropped i j (suc n) bytes =
    let next : i + suc j ≡ suc (i + j) = omega arith in
    let rest = little_from_dropped i (suc j) n bytes in
    let here = get_or-drop i bytes j 0 in
    rw (here, rest, next) refl

-- a number at a place is the first of what is left from there
pub little_from_drop : (i n : ℕ) (bytes : List ℕ) → little_from 0 n (drop i bytes) ≡ little_from i n bytes
little_from_drop i n bytes =
    let here : i + 0 ≡ i = omega arith in
    let moved = little_from_dropped i 0 n bytes in
    rw (moved, here) refl

-- bytes from a place on are a range of the bytes
pub take_bytes : (i n : ℕ) (bytes : List ℕ) → i + n ≤ length bytes → take n (drop i bytes) ≡ bytes_at i n bytes
take_bytes i zero bytes h = refl
take_bytes i (suc n) bytes h =
    let rest = take_bytes (suc i) n bytes (omega arith) in
    rw (drop_more bytes i 0 (omega arith), add-one, rest) refl
