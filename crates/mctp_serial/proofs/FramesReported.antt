-- Where a reader stands, the front of a frame has come; so a packet is reported only where its frame has.
use Rattle.std.proofs.Common.{◌≡◌, ℕ, ◌+◌, ◌*◌, ◌/◌, ◌%◌, ◌<◌, ◌≤◌, ◌==◌, nat_le, Bool, true, false, if◌then◌else◌, List, [], ◌∷◌, ◌++◌, length, Option, Some, None, refl, sym, ap, ◌∙◌, append_assoc, append-nil, length-append, suc, subst, arith}
use Rattle.std.proofs.lemmas.Bool.{eqb-true, eqb-false, leb-true}
use Rattle.mctp_packet.specs.declared.TheConstants.{MAX_PACKET_BYTES}
use Rattle.mctp_serial.specs.CheckLaws.{AreBytes}
use Rattle.mctp_serial.specs.CheckSequences.{check_sequence}
use Rattle.mctp_serial.specs.Frames.{HasFrame, spelled, spelled_all, ending, frame}
use Rattle.mctp_serial.specs.Laws.{OnlyFramesAreReported}
use Rattle.mctp_serial.specs.Readings.{Reading, idle, opened, counting, inside, escaped, high, low, closing, Step, nothing_yet, drops, adds, after_end, inside_or_past, checks, packet_of, step, after}
use Rattle.mctp_serial.specs.declared.TheConstants.{FLAG, ESCAPE, ESCAPED_FLAG, ESCAPED_ESCAPE, REVISION}
use Rattle.mctp_serial.specs.declared.fault.SerialFault.TheVariants.{WrongRevision, Empty, TooLong, CutShort, BadEscape, WrongCheck, NoEnd}
use Rattle.mctp_serial.specs.declared.reader.FrameEvent.{FrameEvent}
use Rattle.mctp_serial.specs.declared.reader.FrameEvent.TheVariants.{Nothing, Packet, Dropped}
use Rattle.mctp_serial.proofs.Spelling.{spelled_all-append}

-- the bytes end with these
abbrev EndsWith : List ℕ → List ℕ → Type 0
EndsWith bytes end = (before : List ℕ) × (bytes ≡ before ++ end)

abbrev begun : ℕ → List ℕ → List ℕ
begun count rest = FLAG ∷ REVISION ∷ count ∷ rest

-- what has come where a reader stands
abbrev Stands : Reading → List ℕ → Type 0
Stands idle bytes = Unit {0}
Stands opened bytes = EndsWith bytes (FLAG ∷ [])
Stands counting bytes = EndsWith bytes (FLAG ∷ REVISION ∷ [])
Stands (inside count done) bytes = EndsWith bytes (begun count (spelled_all done)) × (length done < count) × (count ≤ MAX_PACKET_BYTES)
Stands (escaped count done) bytes = EndsWith bytes (begun count (spelled_all done ++ ESCAPE ∷ [])) × (length done < count) × (count ≤ MAX_PACKET_BYTES)
Stands (high done) bytes = EndsWith bytes (begun (length done) (spelled_all done)) × HasFrame done
Stands (low done first) bytes = EndsWith bytes (begun (length done) (spelled_all done ++ first ∷ [])) × HasFrame done
Stands (closing done sent) bytes = EndsWith bytes (begun (length done) (spelled_all done ++ (sent / 256 ∷ sent % 256 ∷ []))) × HasFrame done

-- a byte further
further : (bytes end : List ℕ) (byte : ℕ) → EndsWith bytes end → EndsWith (bytes ++ byte ∷ []) (end ++ byte ∷ [])
further bytes end byte s = (s.0, ap (λ l. l ++ byte ∷ []) s.1 ∙ append_assoc s.0 end (byte ∷ []))

same_end : (bytes end other : List ℕ) → end ≡ other → EndsWith bytes end → EndsWith bytes other
same_end bytes end other e s = (s.0, s.1 ∙ ap (λ l. s.0 ++ l) e)

end_by : (byte : ℕ) (bytes : List ℕ) (x : Bool) → (byte == FLAG) ≡ x → Stands (after_end byte) (bytes ++ byte ∷ [])
end_by byte bytes true p = simp p (bytes, ap (λ b. bytes ++ b ∷ []) (eqb-true byte FLAG p))
end_by byte bytes false p = simp p tt

progress_after_end : (byte : ℕ) (bytes : List ℕ) → Stands (after_end byte) (bytes ++ byte ∷ [])
progress_after_end byte bytes = end_by byte bytes (byte == FLAG) refl

opened_by : (byte : ℕ) (bytes : List ℕ) (x y : Bool) → (byte == FLAG) ≡ x → (byte == REVISION) ≡ y → Stands opened bytes → Stands (step opened byte).next (bytes ++ byte ∷ [])
opened_by byte bytes true y p q s = simp p (bytes, ap (λ b. bytes ++ b ∷ []) (eqb-true byte FLAG p))
opened_by byte bytes false true p q s =
    simp (p, q) (same_end (bytes ++ byte ∷ []) (FLAG ∷ byte ∷ []) (FLAG ∷ REVISION ∷ []) (ap (λ b. FLAG ∷ b ∷ []) (eqb-true byte REVISION q)) (further bytes (FLAG ∷ []) byte s))
opened_by byte bytes false false p q s = simp (p, q) tt

counting_by : (byte : ℕ) (bytes : List ℕ) (x y : Bool) → (byte == 0) ≡ x → nat_le byte MAX_PACKET_BYTES ≡ y → Stands counting bytes → Stands (step counting byte).next (bytes ++ byte ∷ [])
counting_by byte bytes true y p q s = simp p (progress_after_end byte bytes)
counting_by byte bytes false true p q s =
    let some = eqb-false byte 0 p in
    let few = leb-true byte MAX_PACKET_BYTES q in
    simp (p, q) (further bytes (FLAG ∷ REVISION ∷ []) byte s, omega (arith, some), few)
counting_by byte bytes false false p q s = simp (p, q) (progress_after_end byte bytes)

one_more : (done : List ℕ) (byte : ℕ) → spelled_all done ++ spelled byte ≡ spelled_all (done ++ byte ∷ [])
one_more done byte = sym (spelled_all-append done (byte ∷ []) ∙ ap (λ l. spelled_all done ++ l) (append-nil (spelled byte)))

added_by : (count : ℕ) (done : List ℕ) (byte : ℕ) (bytes : List ℕ) (x : Bool) → (length (done ++ byte ∷ []) == count) ≡ x
    → EndsWith bytes (begun count (spelled_all done ++ spelled byte)) → length done < count → count ≤ MAX_PACKET_BYTES
    → Stands (inside_or_past count (done ++ byte ∷ [])) bytes
added_by count done byte bytes true p s less few =
    let e : length (done ++ byte ∷ []) ≡ count = eqb-true (length (done ++ byte ∷ [])) count p in
    let all : begun count (spelled_all done ++ spelled byte) ≡ begun (length (done ++ byte ∷ [])) (spelled_all (done ++ byte ∷ [])) =
    ap (λ n. begun n (spelled_all done ++ spelled byte)) (sym e) ∙ ap (begun (length (done ++ byte ∷ []))) (one_more done byte) in
    simp p (same_end bytes _ _ all s, (omega (arith, e, less), omega (arith, e, few)))
added_by count done byte bytes false p s less few =
    let ne = eqb-false (length (done ++ byte ∷ [])) count p in
    simp p (same_end bytes _ _ (ap (begun count) (one_more done byte)) s, omega (arith, ne, less, length-append done (byte ∷ [])), few)

stands_added : (count : ℕ) (done : List ℕ) (byte : ℕ) (bytes : List ℕ) → EndsWith bytes (begun count (spelled_all done ++ spelled byte)) → length done < count → count ≤ MAX_PACKET_BYTES
    → Stands (inside_or_past count (done ++ byte ∷ [])) bytes
stands_added count done byte bytes s less few = added_by count done byte bytes (length (done ++ byte ∷ []) == count) refl s less few

plain : (byte : ℕ) → (byte == FLAG) ≡ false → (byte == ESCAPE) ≡ false → byte ∷ [] ≡ spelled byte
plain byte p q = simp (p, q) refl

inside_by : (count : ℕ) (done : List ℕ) (byte : ℕ) (bytes : List ℕ) (x y : Bool) → (byte == FLAG) ≡ x → (byte == ESCAPE) ≡ y → Stands (inside count done) bytes → Stands (step (inside count done) byte).next (bytes ++ byte ∷ [])
inside_by count done byte bytes true y p q s = simp p (bytes, ap (λ b. bytes ++ b ∷ []) (eqb-true byte FLAG p))
inside_by count done byte bytes false true p q s =
    simp (p, q)
    (same_end (bytes ++ byte ∷ []) _ _ (ap (λ b. begun count (spelled_all done ++ b ∷ [])) (eqb-true byte ESCAPE q)) (further bytes (begun count (spelled_all done)) byte s.0), s.1, s.2)
inside_by count done byte bytes false false p q s =
    let grown = same_end (bytes ++ byte ∷ []) _ _ (ap (λ l. begun count (spelled_all done ++ l)) (plain byte p q)) (further bytes (begun count (spelled_all done)) byte s.0) in
    let next = stands_added count done byte (bytes ++ byte ∷ []) grown s.1 s.2 in
    simp (p, q) next

escaped_by : (count : ℕ) (done : List ℕ) (byte : ℕ) (bytes : List ℕ) (x y : Bool) → (byte == ESCAPED_FLAG) ≡ x → (byte == ESCAPED_ESCAPE) ≡ y → Stands (escaped count done) bytes → Stands (step (escaped count done) byte).next (bytes ++ byte ∷ [])
escaped_by count done byte bytes true y p q s =
    let grown = same_end (bytes ++ byte ∷ []) _ _ (ap (begun count) (append_assoc (spelled_all done) (ESCAPE ∷ []) (byte ∷ []) ∙ ap (λ b. spelled_all done ++ ESCAPE ∷ b ∷ []) (eqb-true byte ESCAPED_FLAG p))) (further bytes (begun count (spelled_all done ++ ESCAPE ∷ [])) byte s.0) in
    let next = stands_added count done FLAG (bytes ++ byte ∷ []) grown s.1 s.2 in
    simp p next
escaped_by count done byte bytes false true p q s =
    let grown = same_end (bytes ++ byte ∷ []) _ _ (ap (begun count) (append_assoc (spelled_all done) (ESCAPE ∷ []) (byte ∷ []) ∙ ap (λ b. spelled_all done ++ ESCAPE ∷ b ∷ []) (eqb-true byte ESCAPED_ESCAPE q))) (further bytes (begun count (spelled_all done ++ ESCAPE ∷ [])) byte s.0) in
    let next = stands_added count done ESCAPE (bytes ++ byte ∷ []) grown s.1 s.2 in
    simp (p, q) next
escaped_by count done byte bytes false false p q s = simp (p, q) (progress_after_end byte bytes)

closing_by : (done : List ℕ) (sent byte : ℕ) (bytes : List ℕ) (x : Bool) → (byte == FLAG) ≡ x → Stands (step (closing done sent) byte).next (bytes ++ byte ∷ [])
closing_by done sent byte bytes true p = simp p (bytes, ap (λ b. bytes ++ b ∷ []) (eqb-true byte FLAG p))
closing_by done sent byte bytes false p = simp p tt

two_bytes : (first byte : ℕ) → byte < 256 → first ∷ byte ∷ [] ≡ (first * 256 + byte) / 256 ∷ (first * 256 + byte) % 256 ∷ []
two_bytes first byte small =
    let a : first ≡ (first * 256 + byte) / 256 = omega arith in
    let b : byte ≡ (first * 256 + byte) % 256 = omega arith in
    ap (λ n. n ∷ byte ∷ []) a ∙ ap (λ n. (first * 256 + byte) / 256 ∷ n ∷ []) b

stands_further : (r : Reading) (byte : ℕ) (bytes : List ℕ) → byte < 256 → Stands r bytes → Stands (step r byte).next (bytes ++ byte ∷ [])
stands_further idle byte bytes small s = progress_after_end byte bytes
stands_further opened byte bytes small s = opened_by byte bytes (byte == FLAG) (byte == REVISION) refl refl s
stands_further counting byte bytes small s = counting_by byte bytes (byte == 0) (nat_le byte MAX_PACKET_BYTES) refl refl s
stands_further (inside count done) byte bytes small s = inside_by count done byte bytes (byte == FLAG) (byte == ESCAPE) refl refl s
stands_further (escaped count done) byte bytes small s = escaped_by count done byte bytes (byte == ESCAPED_FLAG) (byte == ESCAPED_ESCAPE) refl refl s
stands_further (high done) byte bytes small s = (further bytes (begun (length done) (spelled_all done)) byte s.0, s.1)
stands_further (low done first) byte bytes small s =
    (same_end (bytes ++ byte ∷ []) _ _ (ap (begun (length done)) (append_assoc (spelled_all done) (first ∷ []) (byte ∷ []) ∙ ap (λ l. spelled_all done ++ l) (two_bytes first byte small))) (further bytes (begun (length done) (spelled_all done ++ first ∷ [])) byte s.0), s.1)
stands_further (closing done sent) byte bytes small s = closing_by done sent byte bytes (byte == FLAG) refl

-- after all bytes
progress_after : (r : Reading) (came bytes : List ℕ) → AreBytes bytes → Stands r came → Stands (after r bytes) (came ++ bytes)
progress_after r came [] are s = rw (append-nil came) s
progress_after r came (b ∷ bytes) are s =
    rw (← append_assoc came (b ∷ []) bytes) (progress_after (step r b).next (came ++ b ∷ []) bytes (λ i. are (suc i)) (stands_further r b came (are 0) s))

-- the packet that is reported, if one is
abbrev packet_in_event : FrameEvent → Option (List ℕ)
packet_in_event Nothing = None
packet_in_event (Packet packet) = Some packet.items
packet_in_event (Dropped fault) = None

either_silent : (x : Bool) (s t : Step) → packet_in_event s.event ≡ None → packet_in_event t.event ≡ None → packet_in_event (if x then s else t).event ≡ None
either_silent true s t h g = h
either_silent false s t h g = g

none_reported : (packet : List ℕ) (t : FrameEvent) → packet_in_event t ≡ None → t ≡ packet_of packet → ⊥
none_reported packet t h e =
    let some : packet_in_event t ≡ Some packet = ap packet_in_event e in
    cc

sum_reported : (done : List ℕ) (sent : ℕ) (packet : List ℕ) (x : Bool) → (check_sequence done == sent) ≡ x → checks done sent ≡ packet_of packet → (sent ≡ check_sequence done) × (done ≡ packet)
sum_reported done sent packet true p e =
    let same : check_sequence done ≡ sent = eqb-true (check_sequence done) sent p in
    let taken : packet_of done ≡ packet_of packet = simp p at e in
    let some : Some done ≡ Some packet = ap packet_in_event taken in
    (sym same, cc)
sum_reported done sent packet false p e =
    let dropped : Dropped WrongCheck ≡ packet_of packet = simp p at e in
    absurd (none_reported packet (Dropped WrongCheck) refl dropped)

closed_by : (done : List ℕ) (sent byte : ℕ) (bytes packet : List ℕ) (x : Bool) → (byte == FLAG) ≡ x → Stands (closing done sent) bytes → (step (closing done sent) byte).event ≡ packet_of packet
    → HasFrame packet × EndsWith (bytes ++ byte ∷ []) (frame packet)
closed_by done sent byte bytes packet true p s e =
    let event : checks done sent ≡ packet_of packet = simp p at e in
    let t = sum_reported done sent packet (check_sequence done == sent) refl event in
    let whole : begun (length done) ((spelled_all done ++ (sent / 256 ∷ sent % 256 ∷ [])) ++ byte ∷ []) ≡ frame packet =
    ap (begun (length done)) (append_assoc (spelled_all done) (sent / 256 ∷ sent % 256 ∷ []) (byte ∷ []))
    ∙ ap (λ b. begun (length done) (spelled_all done ++ sent / 256 ∷ sent % 256 ∷ b ∷ [])) (eqb-true byte FLAG p)
    ∙ ap (λ n. begun (length done) (spelled_all done ++ ending n)) t.0
    ∙ ap frame t.1 in (
      subst HasFrame t.1 s.1,
      same_end (bytes ++ byte ∷ []) _ _ whole (further bytes (begun (length done) (spelled_all done ++ (sent / 256 ∷ sent % 256 ∷ []))) byte s.0),
    )
closed_by done sent byte bytes packet false p s e =
    let dropped : Dropped NoEnd ≡ packet_of packet = simp p at e in
    absurd (none_reported packet (Dropped NoEnd) refl dropped)

reported_frame : (r : Reading) (byte : ℕ) (bytes packet : List ℕ) → Stands r bytes → (step r byte).event ≡ packet_of packet → HasFrame packet × EndsWith (bytes ++ byte ∷ []) (frame packet)
reported_frame idle byte bytes packet s e = absurd (none_reported packet Nothing refl e)
reported_frame opened byte bytes packet s e =
    absurd
    (none_reported packet (step opened byte).event
    (either_silent (byte == FLAG) (nothing_yet opened) (if byte == REVISION then nothing_yet counting else drops WrongRevision byte) refl
    (either_silent (byte == REVISION) (nothing_yet counting) (drops WrongRevision byte) refl refl))
    e)
reported_frame counting byte bytes packet s e =
    absurd
    (none_reported packet (step counting byte).event
    (either_silent (byte == 0) (drops Empty byte) (if nat_le byte MAX_PACKET_BYTES then nothing_yet (inside byte []) else drops TooLong byte) refl
    (either_silent (nat_le byte MAX_PACKET_BYTES) (nothing_yet (inside byte [])) (drops TooLong byte) refl refl))
    e)
reported_frame (inside count done) byte bytes packet s e =
    absurd
    (none_reported packet (step (inside count done) byte).event
    (either_silent (byte == FLAG) (drops CutShort byte) (if byte == ESCAPE then nothing_yet (escaped count done) else adds count done byte) refl
    (either_silent (byte == ESCAPE) (nothing_yet (escaped count done)) (adds count done byte) refl refl))
    e)
reported_frame (escaped count done) byte bytes packet s e =
    absurd
    (none_reported packet (step (escaped count done) byte).event
    (either_silent (byte == ESCAPED_FLAG) (adds count done FLAG) (if byte == ESCAPED_ESCAPE then adds count done ESCAPE else drops BadEscape byte) refl
    (either_silent (byte == ESCAPED_ESCAPE) (adds count done ESCAPE) (drops BadEscape byte) refl refl))
    e)
reported_frame (high done) byte bytes packet s e = absurd (none_reported packet Nothing refl e)
reported_frame (low done first) byte bytes packet s e = absurd (none_reported packet Nothing refl e)
reported_frame (closing done sent) byte bytes packet s e = closed_by done sent byte bytes packet (byte == FLAG) refl s e

pub only_frames : OnlyFramesAreReported
only_frames bytes packet byte are small e = reported_frame (after idle bytes) byte bytes packet (progress_after idle [] bytes are tt) e
