-- The packet of a frame on a serial line is found, byte by byte.
use Rattle.std.proofs.Common.{◌≡◌, ℕ, ◌+◌, ◌*◌, ◌/◌, ◌%◌, ◌==◌, nat_le, Bool, true, false, List, [], ◌∷◌, ◌++◌, Ok, length, refl, sym, ap, ◌∙◌, append_assoc, append-nil, length-append, arith}
use Rattle.std.proofs.lemmas.Bool.{eqb-true, eq-eqb, ne_eqb, le-leb}
use Rattle.mctp_packet.specs.declared.TheConstants.{MAX_PACKET_BYTES}
use Rattle.mctp_serial.specs.CheckSequences.{check_sequence}
use Rattle.mctp_serial.specs.Frames.{HasFrame, spelled, spelled_all, ending, frame}
use Rattle.mctp_serial.specs.Readings.{idle, inside, high, inside_or_past}
use Rattle.mctp_serial.specs.declared.TheConstants.{FLAG, ESCAPE}
use Rattle.mctpctl_input.specs.SerialPackets.{serial_packet}

byte_by : (count : ℕ) (done : List ℕ) (b : ℕ) (rest : List ℕ) (x y : Bool) → (b == FLAG) ≡ x → (b == ESCAPE) ≡ y → serial_packet (inside count done) (spelled b ++ rest) ≡ serial_packet (inside_or_past count (done ++ b ∷ [])) rest
byte_by count done b rest true y p q =
    let e : b ≡ FLAG = eqb-true b FLAG p in
    rw e refl
byte_by count done b rest false true p q =
    let e : b ≡ ESCAPE = eqb-true b ESCAPE q in
    rw e refl
byte_by count done b rest false false p q = simp (p, q) refl

byte_read : (count : ℕ) (done : List ℕ) (b : ℕ) (rest : List ℕ) → serial_packet (inside count done) (spelled b ++ rest) ≡ serial_packet (inside_or_past count (done ++ b ∷ [])) rest
byte_read count done b rest = byte_by count done b rest (b == FLAG) (b == ESCAPE) refl refl

-- the bytes of a packet of this count, of which some have been read
bytes_read : (count : ℕ) (packet done rest : List ℕ) → count ≡ length done + length packet → serial_packet (inside_or_past count done) (spelled_all packet ++ rest) ≡ serial_packet (high (done ++ packet)) rest
bytes_read count [] done rest h =
    let e : (length done == count) ≡ true = eq-eqb (length done) count (omega arith) in
    simp e (ap (λ l. serial_packet (high l) rest) (sym (append-nil done)))
bytes_read count (b ∷ packet) done rest h =
    let e : (length done == count) ≡ false = ne_eqb (length done) count (λ same. omega arith) in
    let more : count ≡ length (done ++ b ∷ []) + length packet = omega (arith, length-append done (b ∷ [])) in
    simp e
    (ap (serial_packet (inside count done)) (append_assoc (spelled b) (spelled_all packet) rest)
    ∙ byte_read count done b (spelled_all packet ++ rest)
    ∙ bytes_read count packet (done ++ b ∷ []) rest more
    ∙ ap (λ l. serial_packet (high l) rest) (append_assoc done (b ∷ []) packet))

-- the last byte gives the packet
end_read : (packet : List ℕ) → serial_packet (high packet) (ending (check_sequence packet)) ≡ Ok packet
end_read packet =
    let sum = check_sequence packet in
    let e : (sum == sum / 256 * 256 + sum % 256) ≡ true = eq-eqb sum _ (omega arith) in
    simp e refl

pub frame_read : (packet : List ℕ) → HasFrame packet → serial_packet idle (frame packet) ≡ Ok packet
frame_read packet h =
    let count = length packet in
    let tail = ending (check_sequence packet) in
    let some : (count == 0) ≡ false = ne_eqb count 0 (λ none. omega arith) in
    let first : (0 == count) ≡ false = ne_eqb 0 count (λ none. omega arith) in
    let few : nat_le count MAX_PACKET_BYTES ≡ true = le-leb count MAX_PACKET_BYTES h.1 in
    let counted : serial_packet idle (frame packet) ≡ serial_packet (inside count []) (spelled_all packet ++ tail) = simp (some, few) refl in
    let begun : serial_packet (inside_or_past count []) (spelled_all packet ++ tail) ≡ serial_packet (inside count []) (spelled_all packet ++ tail) = simp first refl in
    counted
    ∙ sym begun
    ∙ bytes_read count packet [] tail (omega arith)
    ∙ end_read packet
