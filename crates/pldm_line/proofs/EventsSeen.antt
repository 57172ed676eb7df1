-- What is seen of frames, and of more frames.
use Rattle.std.proofs.Common.{◌≡◌, ℕ, List, [], ◌∷◌, ◌++◌, length, refl, sym, ap, subst, ◌∙◌, append_assoc, arith}
use Rattle.std.specs.List.{FoldsTo}
use Rattle.mctp_serial.specs.declared.reader.FrameEvent.{FrameEvent}
use Rattle.mctp_serial.specs.declared.reader.FrameEvent.TheVariants.{Nothing, Packet, Dropped}
use Rattle.pldm_line.proofs.LastMoments.{last_after}
use Rattle.pldm_line.specs.Events.{Seen, NoFrame}
use Rattle.pldm_line.specs.Serving.{Answerers, moment_after, packet_after, packets_after, packets_of, timed}
use Rattle.pldm_line.specs.Seen.{frames_seen, packet_seen}
use Rattle.pldm_responder.specs.Performing.{Rules}

pub folds-append : {L : Type 0} (sees : L → Seen → L → Type 0) (w : L) (es : List Seen) (v : L) (fs : List Seen) (u : L)
    → FoldsTo sees w es v → FoldsTo sees v fs u → FoldsTo sees w (es ++ fs) u
folds-append {L} sees w [] v fs u p q = subst (λ (x : L). FoldsTo sees x fs u) (sym p) q
folds-append sees w (e ∷ es) v fs u p q = (p.0, p.1, folds-append sees p.0 es v fs u p.2 q)

pub frames_seen-append : {S : Type 0} (device : Rules S) (a : Answerers S) (es fs : List FrameEvent) (rs ss : List ℕ) → length rs ≡ length (packets_of es)
    → frames_seen device a (es ++ fs) (rs ++ ss)
    ≡ frames_seen device a es rs ++ frames_seen device (packets_after device a (timed a.held.last rs (packets_of es))) fs ss
frames_seen-append device a [] fs [] ss same = refl
frames_seen-append device a [] fs (r ∷ rs) ss same = absurd (omega arith)
frames_seen-append device a (Nothing ∷ es) fs rs ss same = frames_seen-append device a es fs rs ss same
frames_seen-append device a (Dropped fault ∷ es) fs rs ss same =
    ap (λ (l : List Seen). NoFrame fault ∷ l) (frames_seen-append device a es fs rs ss same)
frames_seen-append device a (Packet packet ∷ es) fs [] ss same = absurd (omega arith)
frames_seen-append device a (Packet packet ∷ es) fs (r ∷ rs) ss same =
    let moment = moment_after a.held.last r in
    let first = packet_seen device a moment packet.items in
    let next = packet_after device a moment packet.items in
    let then = frames_seen device (packets_after device next (timed moment rs (packets_of es))) fs ss in
    ap (λ (l : List Seen). first ++ l)
    (subst (λ last. frames_seen device next (es ++ fs) (rs ++ ss) ≡ frames_seen device next es rs ++ frames_seen device (packets_after device next (timed last rs (packets_of es))) fs ss)
    (last_after device a moment packet.items) (frames_seen-append device next es fs rs ss (omega arith)))
    ∙ sym (append_assoc first (frames_seen device next es rs) then)
