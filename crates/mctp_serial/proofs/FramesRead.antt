-- A frame is read, byte by byte.
use Rattle.std.proofs.Common.{◌≡◌, ℕ, ◌+◌, ◌*◌, ◌/◌, ◌%◌, ◌==◌, nat_le, Bool, true, false, List, [], ◌∷◌, ◌++◌, length, refl, sym, ap, ◌∙◌, append_assoc, append-nil, length-append, arith}
use Rattle.std.proofs.lemmas.Bool.{eqb-true, eq-eqb, ne_eqb, le-leb}
use Rattle.mctp_packet.specs.declared.TheConstants.{MAX_PACKET_BYTES}
use Rattle.mctp_serial.specs.CheckSequences.{check_sequence}
use Rattle.mctp_serial.specs.Frames.{HasFrame, spelled, spelled_all, ending, frame}
use Rattle.mctp_serial.specs.Readings.{Reading, idle, opened, inside, high, inside_or_past, packet_of, step, after, then_event, events_in}
use Rattle.mctp_serial.specs.declared.TheConstants.{FLAG, ESCAPE}
use Rattle.mctp_serial.specs.declared.reader.FrameEvent.{FrameEvent}
use Rattle.mctp_serial.specs.declared.reader.FrameEvent.TheVariants.{Nothing, Packet, Dropped}

byte_by : (count : ℕ) (done : List ℕ) (b : ℕ) (rest : List ℕ) (x y : Bool) → (b == FLAG) ≡ x → (b == ESCAPE) ≡ y → events_in (inside count done) (spelled b ++ rest) ≡ events_in (inside_or_past count (done ++ b ∷ [])) rest
byte_by count done b rest true y p q =
    let e : b ≡ FLAG = eqb-true b FLAG p in
    rw e refl
byte_by count done b rest false true p q =
    let e : b ≡ ESCAPE = eqb-true b ESCAPE q in
    rw e refl
byte_by count done b rest false false p q = simp (p, q) refl

byte_read : (count : ℕ) (done : List ℕ) (b : ℕ) (rest : List ℕ) → events_in (inside count done) (spelled b ++ rest) ≡ events_in (inside_or_past count (done ++ b ∷ [])) rest
byte_read count done b rest = byte_by count done b rest (b == FLAG) (b == ESCAPE) refl refl

-- the bytes of a packet of this count, of which some have been read
bytes_read : (count : ℕ) (packet done rest : List ℕ) → count ≡ length done + length packet → events_in (inside_or_past count done) (spelled_all packet ++ rest) ≡ events_in (high (done ++ packet)) rest
bytes_read count [] done rest h =
    let e : (length done == count) ≡ true = eq-eqb (length done) count (omega arith) in
    simp e (ap (λ l. events_in (high l) rest) (sym (append-nil done)))
bytes_read count (b ∷ packet) done rest h =
    let e : (length done == count) ≡ false = ne_eqb (length done) count (λ same. omega arith) in
    let more : count ≡ length (done ++ b ∷ []) + length packet = omega (arith, length-append done (b ∷ [])) in
    simp e
    (ap (events_in (inside count done)) (append_assoc (spelled b) (spelled_all packet) rest)
    ∙ byte_read count done b (spelled_all packet ++ rest)
    ∙ bytes_read count packet (done ++ b ∷ []) rest more
    ∙ ap (λ l. events_in (high l) rest) (append_assoc done (b ∷ []) packet))

-- the end of a frame
end_read : (packet rest : List ℕ) → events_in (high packet) (ending (check_sequence packet) ++ rest) ≡ packet_of packet ∷ events_in opened rest
end_read packet rest =
    let sum = check_sequence packet in
    let e : (sum == sum / 256 * 256 + sum % 256) ≡ true = eq-eqb sum _ (omega arith) in
    simp e refl

-- the bytes of a frame after its flag
after_flag : (packet rest : List ℕ) → HasFrame packet → events_in opened (frame packet ++ rest) ≡ packet_of packet ∷ events_in opened rest
after_flag packet rest h =
    let count = length packet in
    let tail = ending (check_sequence packet) in
    let some : (count == 0) ≡ false = ne_eqb count 0 (λ none. omega arith) in
    let first : (0 == count) ≡ false = ne_eqb 0 count (λ none. omega arith) in
    let few : nat_le count MAX_PACKET_BYTES ≡ true = le-leb count MAX_PACKET_BYTES h.1 in
    let counted : events_in opened (frame packet ++ rest) ≡ events_in (inside count []) ((spelled_all packet ++ tail) ++ rest) = simp (some, few) refl in
    let begun : events_in (inside_or_past count []) ((spelled_all packet ++ tail) ++ rest) ≡ events_in (inside count []) ((spelled_all packet ++ tail) ++ rest) = simp first refl in
    counted
    ∙ sym begun
    ∙ ap (events_in (inside_or_past count [])) (append_assoc (spelled_all packet) tail rest)
    ∙ bytes_read count packet [] (tail ++ rest) (omega arith)
    ∙ end_read packet rest

pub frame_read : (packet rest : List ℕ) → HasFrame packet → (events_in idle (frame packet ++ rest) ≡ packet_of packet ∷ events_in opened rest) × (events_in opened (frame packet ++ rest) ≡ packet_of packet ∷ events_in opened rest)
frame_read packet rest h = (after_flag packet rest h, after_flag packet rest h)

then_append : (t : FrameEvent) (x y : List FrameEvent) → then_event t (x ++ y) ≡ then_event t x ++ y
then_append Nothing x y = refl
then_append (Packet packet) x y = refl
then_append (Dropped drop) x y = refl

pub events_join : (r : Reading) (a b : List ℕ) → events_in r (a ++ b) ≡ events_in r a ++ events_in (after r a) b
events_join r [] b = refl
events_join r (c ∷ a) b =
    ap (then_event (step r c).event) (events_join (step r c).next a b)
    ∙ then_append (step r c).event (events_in (step r c).next a) (events_in (after (step r c).next a) b)

pub after_joins : (r : Reading) (a b : List ℕ) → after r (a ++ b) ≡ after (after r a) b
after_joins r [] b = refl
after_joins r (c ∷ a) b = after_joins (step r c).next a b
