-- The register, step by step.
use Rattle.std.proofs.Common.{◌≡◌, ℕ, suc, ◌+◌, ◌-◌, ◌<◌, List, [], ◌∷◌, ◌++◌, length, take, slice_index, refl, ap, sym, ◌∙◌, arith, append_assoc}
use Rattle.std.specs.List.{fold}
use Rattle.std.proofs.lemmas.Grind.{fold-append}
use Rattle.std.proofs.lemmas.List.{take_more}
use Rattle.mctp_serial.specs.CheckSequences.{bit_further, bits_further, byte_further}

-- one bit more, of so many
pub one_further : (n done register : ℕ) → done < n → bits_further (n - done) register ≡ bits_further (n - (done + 1)) (bit_further register)
unfolding bits_further
one_further n done register h =
    let e : n - done ≡ suc (n - (done + 1)) = omega arith in
    rw e refl

-- one byte more, of those of a list
pub next_taken : (front bytes : List ℕ) (start i : ℕ) → i < length bytes → fold byte_further start (front ++ take (i + 1) bytes) ≡ byte_further (fold byte_further start (front ++ take i bytes)) (slice_index bytes i)
next_taken front bytes start i within =
    rw (take_more bytes i 0 within) (ap (fold byte_further start) (sym (append_assoc front (take i bytes) (slice_index bytes i ∷ []))) ∙ fold-append byte_further start (front ++ take i bytes) (slice_index bytes i ∷ []))
