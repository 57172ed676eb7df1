-- The spelling of a packet, byte after byte.
use Rattle.std.proofs.Common.{◌≡◌, ℕ, ◌+◌, ◌<◌, ◌≤◌, ◌==◌, Bool, true, false, List, [], ◌∷◌, ◌++◌, length, take, slice_index, refl, ap, sym, ◌∙◌, arith, append_assoc, append-nil}
use Rattle.std.proofs.lemmas.List.{take_more}
use Rattle.mctp_serial.specs.Frames.{spelled, spelled_all}
use Rattle.mctp_serial.specs.declared.TheConstants.{FLAG, ESCAPE}

pub spelled_all-append : (a b : List ℕ) → spelled_all (a ++ b) ≡ spelled_all a ++ spelled_all b
spelled_all-append [] b = refl
spelled_all-append (x ∷ a) b = ap (λ l. spelled x ++ l) (spelled_all-append a b) ∙ sym (append_assoc (spelled x) (spelled_all a) (spelled_all b))

pub next_spelled : (bytes : List ℕ) (i : ℕ) → i < length bytes → spelled_all (take (i + 1) bytes) ≡ spelled_all (take i bytes) ++ spelled (slice_index bytes i)
next_spelled bytes i within =
    rw (take_more bytes i 0 within)
    (spelled_all-append (take i bytes) (slice_index bytes i ∷ []) ∙ ap (λ l. spelled_all (take i bytes) ++ l) (append-nil (spelled (slice_index bytes i))))

length_by : (byte : ℕ) (x y : Bool) → (byte == FLAG) ≡ x → (byte == ESCAPE) ≡ y → length (spelled byte) ≤ 2
length_by byte true y p q = simp (p) (omega arith)
length_by byte false true p q = simp (p, q) (omega arith)
length_by byte false false p q = simp (p, q) (omega arith)

-- a byte is sent as two at most
pub few_spelled : (byte : ℕ) → length (spelled byte) ≤ 2
few_spelled byte = length_by byte (byte == FLAG) (byte == ESCAPE) refl refl
