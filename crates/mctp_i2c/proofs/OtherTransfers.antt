-- A frame on I3C is refused in any other transfer.
use Rattle.std.proofs.Common.{◌≡◌, ◌≢◌, ℕ, ◌+◌, ◌*◌, ◌^◌, ◌==◌, bit_xor, false, [], ◌∷◌, ◌++◌, length, refl}
use Rattle.std.proofs.Common.{sym, ap, subst, ◌∙◌, arith}
use Rattle.std.proofs.lemmas.Bool.{ne_eqb}
use Rattle.std.proofs.lemmas.Nat.{xor_lt}
use Rattle.std.specs.Int.Bits.{xor_self}
use Rattle.pldm_wire.specs.Crc.{crc, number_of}
use Rattle.pldm_wire.proofs.Polynomials.{same_from_xor}
use Rattle.mctp_i2c.specs.Refusals.{front, last}
use Rattle.mctp_i2c.specs.I3cFrames.{address_byte, frame}
use Rattle.mctp_i2c.specs.Laws.{I3cOthersAreRefused}
use Rattle.mctp_i2c.proofs.Passing.{front-append, last-append}
use Rattle.mctp_i2c.proofs.Codewords.{IsMultiple, sum_of_multiples, no_burst}
use Rattle.mctp_i2c.proofs.FirstBytes.{firsts_differ}
use Rattle.mctp_i2c.proofs.I3cReadBack.{enough_bytes}
use Rattle.mctp_i2c.proofs.ChangesSeen.{address_byte_small, with_address, frame_bytes}

none_behind : (a b : ℕ) → a + bit_xor b b ≡ a
none_behind a b = ap (λ n. a + n) (xor_self b) ∙ omega arith

pub others_refused : I3cOthersAreRefused
others_refused address other direction other_direction packet small other_small framed are differ =
    let first = address_byte address direction in
    let second = address_byte other other_direction in
    let bytes = frame address direction packet in
    let sum = crc (first ∷ packet) in
    let bytes_are = frame_bytes address direction packet small are in
    let k = 8 * length bytes in
    let apart : crc (second ∷ packet) ≢ sum = λ same.
    let one = with_address address direction packet small are in
    let two : IsMultiple (number_of (second ∷ bytes)) =
    subst (λ (n : ℕ). IsMultiple (number_of (second ∷ (packet ++ n ∷ [])))) same
    (with_address other other_direction packet other_small are) in
    let changed : bit_xor (number_of (first ∷ bytes)) (number_of (second ∷ bytes)) ≡ bit_xor first second * 2 ^ k =
    firsts_differ first second bytes bytes bytes_are bytes_are refl
    ∙ none_behind (bit_xor first second * 2 ^ k) (number_of bytes) in
    no_burst (bit_xor first second * 2 ^ k)
    (subst IsMultiple changed (sum_of_multiples (number_of (first ∷ bytes)) (number_of (second ∷ bytes)) one two))
    (record {
      burst = bit_xor first second;
      place = k;
      some = λ none. differ (same_from_xor first second none);
      short = xor_lt 8 first second (address_byte_small address direction small)
          (address_byte_small other other_direction other_small);
      placed = refl;
    }) in
    let other_sum : crc (second ∷ front bytes) ≡ crc (second ∷ packet) =
    ap (λ p. crc (second ∷ p)) (front-append packet sum) in
    let enough = enough_bytes address direction packet framed.0 in
    let wrong : (last bytes == crc (second ∷ front bytes)) ≡ false =
    ne_eqb (last bytes) (crc (second ∷ front bytes)) (λ e. apart (sym other_sum ∙ sym e ∙ last-append packet sum)) in
    simp (enough, wrong) refl
