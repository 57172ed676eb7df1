-- The frames that are read of bytes, and of more bytes.
use Rattle.std.proofs.Common.{◌≡◌, ℕ, List, [], ◌∷◌, ◌++◌, refl, ap, ◌∙◌}
use Rattle.mctp_serial.specs.Readings.{Reading, step, after, events_in, then_event}
use Rattle.mctp_serial.specs.declared.reader.FrameEvent.{FrameEvent}
use Rattle.mctp_serial.specs.declared.reader.FrameEvent.TheVariants.{Nothing, Packet, Dropped}
use Rattle.pldm_line.specs.Serving.{packets_of, packets_in}

then-append : (t : FrameEvent) (es fs : List FrameEvent) → then_event t (es ++ fs) ≡ then_event t es ++ fs
then-append Nothing es fs = refl
then-append (Packet packet) es fs = refl
then-append (Dropped fault) es fs = refl

pub events-append : (r : Reading) (a b : List ℕ) → events_in r (a ++ b) ≡ events_in r a ++ events_in (after r a) b
events-append r [] b = refl
events-append r (c ∷ a) b =
    let t = (step r c).event in
    let next = (step r c).next in
    ap (then_event t) (events-append next a b) ∙ then-append t (events_in next a) (events_in (after next a) b)

packets-of-both : (es fs : List FrameEvent) → packets_of (es ++ fs) ≡ packets_of es ++ packets_of fs
packets-of-both [] fs = refl
packets-of-both (Nothing ∷ es) fs = packets-of-both es fs
packets-of-both (Packet packet ∷ es) fs = ap (λ (l : List (List ℕ)). packet.items ∷ l) (packets-of-both es fs)
packets-of-both (Dropped fault ∷ es) fs = packets-of-both es fs

pub packets-append : (r : Reading) (a b : List ℕ) → packets_in r (a ++ b) ≡ packets_in r a ++ packets_in (after r a) b
packets-append r a b = ap packets_of (events-append r a b) ∙ packets-of-both (events_in r a) (events_in (after r a) b)

pub after-append : (r : Reading) (a b : List ℕ) → after r (a ++ b) ≡ after (after r a) b
after-append r [] b = refl
after-append r (c ∷ a) b = after-append (step r c).next a b
