-- A packet that the responder of PLDM drops is answered as if none had stood before the control responder.
use Rattle.std.proofs.Common.{◌≡◌, ℕ, ◌%◌, ◌==◌, ◌<◌, nat_lt, nat_le, not, Bool, true, false, List, [], ◌∷◌, length, slice_index, drop, Option, None, Some, IfSome, if◌then◌else◌, refl, ap, arith}
use Rattle.std.specs.Prelude.{unwrap_or}
use Rattle.std.proofs.lemmas.Bool.Decides.{nat_tests}
use Rattle.mctp_packet.specs.Ids.{IsEid}
use Rattle.mctp_packet.specs.Refusals.{is_destination, is_source, refusal}
use Rattle.mctp_packet.specs.declared.TheConstants.{HEADER, MAX_PACKET_BYTES, NULL_EID, VERSION}
use Rattle.mctp_packet.specs.declared.reason.Reason.{Reason}
use Rattle.mctp_packet.specs.declared.reason.Reason.TheVariants.{UnknownDestination}
use Rattle.mctp_control.proofs.Cells.{by_test}
use Rattle.mctp_control.specs.Dropped.{is_handed_on}
use Rattle.mctp_control.specs.Laws.{AsksNothing, IsSeenDropped}
use Rattle.mctp_control.specs.Messages.{is_control, request_of}
use Rattle.mctp_control.specs.Packets.{comes_to, is_whole_request, left_by, reply_to, request_in}
use Rattle.mctp_control.specs.Settings.{own_eid}
use Rattle.mctp_control.specs.declared.assigned.TheConstants.{CONTROL}
use Rattle.mctp_control.specs.declared.control_responder.ControlResponder.{ControlResponder}

-- handed on, or no request to the endpoint
abbrev Seen : ControlResponder → List ℕ → Reason → Type 0
Seen e bytes reason = is_handed_on reason bytes ≡ false → request_in e bytes ≡ None

not_to_it : (e : ControlResponder) (bytes : List ℕ) → comes_to e bytes ≡ false → request_in e bytes ≡ None
not_to_it e bytes away = rw away refl

-- a message that is none of control messages
no_message : (e : ControlResponder) (bytes : List ℕ) → is_control 3 2 (drop HEADER bytes) ≡ false → request_in e bytes ≡ None
unfolding request_of
no_message e bytes other =
    by_test (λ r. r ≡ None) (comes_to e bytes) _ _ (λ _. rw other refl) (λ _. refl)

short : (e : ControlResponder) (bytes : List ℕ) → nat_lt (length bytes) HEADER ≡ true → request_in e bytes ≡ None
short e bytes t = not_to_it e bytes (grind (arith, nat_tests, t))

four : (e : ControlResponder) (own a b c d : ℕ) (rest : List ℕ) → IsEid own → own_eid e ≡ own → IfSome (refusal (Some own) (a ∷ b ∷ c ∷ d ∷ rest)) (Seen e (a ∷ b ∷ c ∷ d ∷ rest))
four e own a b c d rest eid has =
    let bytes : List ℕ = a ∷ b ∷ c ∷ d ∷ rest in
    by_test (λ r. IfSome r (Seen e bytes)) (nat_lt (length bytes) HEADER) _ _
    (λ t _. short e bytes t)
    (λ _. by_test (λ r. IfSome r (Seen e bytes)) (not (a % 16 == VERSION)) _ _
    (λ t _. not_to_it e bytes (grind (arith, nat_tests, t)))
    (λ _. by_test (λ r. IfSome r (Seen e bytes)) (not (is_destination (Some own) b)) _ _
    (λ t kept. not_to_it e bytes (grind (arith, nat_tests, eid.0, eid.1, has, t, kept)))
    (λ _. by_test (λ r. IfSome r (Seen e bytes)) (not (is_source (Some own) c)) _ _
    (λ t kept. not_to_it e bytes (grind (arith, nat_tests, has, t, kept)))
    (λ _. by_test (λ r. IfSome r (Seen e bytes)) (nat_le (length bytes) HEADER) _ _
    (λ t _. no_message e bytes (grind (arith, nat_tests, t)))
    (λ _. by_test (λ r. IfSome r (Seen e bytes)) (nat_lt MAX_PACKET_BYTES (length bytes)) _ _
    (λ t _. not_to_it e bytes (grind (arith, nat_tests, t)))
    (λ _. tt))))))

seen : (e : ControlResponder) (own : ℕ) (bytes : List ℕ) → IsEid own → own_eid e ≡ own → IfSome (refusal (Some own) bytes) (Seen e bytes)
seen e own [] eid has = λ _. refl
seen e own (a ∷ []) eid has = λ _. refl
seen e own (a ∷ b ∷ []) eid has = λ _. refl
seen e own (a ∷ b ∷ c ∷ []) eid has = λ _. refl
seen e own (a ∷ b ∷ c ∷ d ∷ rest) eid has = four e own a b c d rest eid has

no_id_seen : (e : ControlResponder) (bytes : List ℕ) → own_eid e ≡ NULL_EID → Seen e bytes UnknownDestination
no_id_seen e [] has away = refl
no_id_seen e (a ∷ []) has away = refl
no_id_seen e (a ∷ b ∷ rest) has away = not_to_it e (a ∷ b ∷ rest) (grind (arith, nat_tests, has, away))

-- what is answered and what is left, by whether the packet is handed on
nothing : (e : ControlResponder) (now : ℕ) (bytes : List ℕ) → request_in e bytes ≡ None → AsksNothing e now bytes
nothing e now bytes none = (rw none refl, rw none refl)

reply_alike : (e : ControlResponder) (now : ℕ) (bytes : List ℕ) (handed : Bool) → (handed ≡ false → request_in e bytes ≡ None) → (if handed then reply_to e now bytes else None) ≡ reply_to e now bytes
reply_alike e now bytes true h = refl
reply_alike e now bytes false h = rw (h refl) refl

left_alike : (e : ControlResponder) (now : ℕ) (bytes : List ℕ) (handed : Bool) → (handed ≡ false → request_in e bytes ≡ None) → (if handed then left_by e now bytes else e) ≡ left_by e now bytes
left_alike e now bytes true h = refl
left_alike e now bytes false h = rw (h refl) refl

alike : (e : ControlResponder) (now : ℕ) (bytes : List ℕ) (reason : Reason) → Seen e bytes reason → IsSeenDropped e now bytes reason
alike e now bytes reason h =
    (reply_alike e now bytes (is_handed_on reason bytes) h, left_alike e now bytes (is_handed_on reason bytes) h)

each : (e : ControlResponder) (now : ℕ) (bytes : List ℕ) (refused : Option Reason) → IfSome refused (Seen e bytes) → IfSome refused (IsSeenDropped e now bytes)
each e now bytes None h = tt
each e now bytes (Some reason) h = alike e now bytes reason h

pub headers : (e : ControlResponder) (own now : ℕ) (bytes : List ℕ) → IsEid own → e.eid ≡ Some own → IfSome (refusal (Some own) bytes) (IsSeenDropped e now bytes)
headers e own now bytes eid has =
    each e now bytes (refusal (Some own) bytes) (seen e own bytes eid (ap (λ o. unwrap_or o NULL_EID) has))

pub no_ids : (e : ControlResponder) (now : ℕ) (bytes : List ℕ) → e.eid ≡ None → IsSeenDropped e now bytes UnknownDestination
no_ids e now bytes has =
    alike e now bytes UnknownDestination (no_id_seen e bytes (ap (λ eid. unwrap_or eid NULL_EID) has))

pub shorts : (e : ControlResponder) (now : ℕ) (bytes : List ℕ) → length bytes < HEADER → AsksNothing e now bytes
shorts e now bytes few = nothing e now bytes (not_to_it e bytes (grind (arith, nat_tests, few)))

pub versions : (e : ControlResponder) (now : ℕ) (bytes : List ℕ) → (slice_index bytes 0 % 16 ≡ VERSION → ⊥) → AsksNothing e now bytes
versions e now bytes other = nothing e now bytes (not_to_it e bytes (grind (arith, nat_tests, other)))

pub parts : (e : ControlResponder) (now : ℕ) (bytes : List ℕ) → is_whole_request (slice_index bytes 3) ≡ false → AsksNothing e now bytes
parts e now bytes part = nothing e now bytes (not_to_it e bytes (grind (arith, nat_tests, part)))

pub messages : (e : ControlResponder) (now : ℕ) (bytes : List ℕ) → (slice_index bytes HEADER ≡ CONTROL → ⊥) → AsksNothing e now bytes
messages e now bytes other = nothing e now bytes (no_message e bytes (grind (arith, nat_tests, other)))
