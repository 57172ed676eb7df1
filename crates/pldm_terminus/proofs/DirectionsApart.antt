-- A packet of one direction means nothing to the half of the other.
use Rattle.std.proofs.Common.{◌≡◌, ℕ, Bool, true, false, List, length, Option, Some, None, Result, Ok, Err, refl, sym, ap, subst, ⊎_elim}
use Rattle.std.specs.Prelude.{◌==◌, ◌&&◌, not, is_some, nat_le, nat_lt, slice_index, if◌then◌else◌}
use Rattle.std.proofs.lemmas.Bool.{and_cases, and_parts, cond-true, cond-false, leb-false, lt-ltb, not-false, not-true}
use Rattle.mctp_packet.specs.Bits.{is_set}
use Rattle.mctp_packet.specs.Packets.{Packet}
use Rattle.mctp_packet.specs.Passing.{passed, passing}
use Rattle.mctp_packet.specs.Reading.{packet_of, unless}
use Rattle.mctp_packet.specs.Refusals.{refusal}
use Rattle.mctp_packet.specs.declared.reason.Reason.{Reason}
use Rattle.mctp_packet.specs.declared.reason.Reason.TheVariants.{BadTag, Short}
use Rattle.mctp_packet.specs.declared.TheConstants.{HEADER}
use Rattle.pldm_requester.specs.Arrivals.{got_of}
use Rattle.pldm_requester.specs.Steps as requester
use Rattle.pldm_requester.specs.Steps.{IsHeld, RequesterState, arrived_by, expects, got_at, held_by, is_open_in, latest_on, received_held, where_open}
use Rattle.pldm_responder.specs.Arrivals.{is_expected}
use Rattle.pldm_terminus.specs.Directions.{is_answer}
use Rattle.pldm_terminus.specs.Laws.{AsksNothing, BringsNoAnswer}

-- bytes that read as a packet which is not expected bring none
not_expected : (expected : Packet → Bool) (p : Packet) (o : Option Reason) → expected p ≡ false → (reason : Reason) × (passed expected (unless o p) ≡ Err reason)
not_expected expected p (Some reason) e = (reason, refl)
not_expected expected p None e = (BadTag, cond-false (expected p) (Ok p) (Err BadTag) e)

no_packet : (expected : Packet → Bool) (own : ℕ) (bytes : List ℕ) → expected (packet_of bytes) ≡ false → (reason : Reason) × (passing expected own bytes ≡ Err reason)
no_packet expected own bytes e = not_expected expected (packet_of bytes) (refusal (Some own) bytes) e

-- fewer bytes than a header
too_short : (expected : Packet → Bool) (own : ℕ) (bytes : List ℕ) → nat_le HEADER (length bytes) ≡ false → (reason : Reason) × (passing expected own bytes ≡ Err reason)
too_short expected own bytes short =
    let fails : nat_lt (length bytes) HEADER ≡ true = lt-ltb (length bytes) HEADER (leb-false HEADER (length bytes) short) in
    let why : refusal (Some own) bytes ≡ Some Short = cond-true (nat_lt (length bytes) HEADER) _ _ fails in
    (Short, ap (λ (o : Option Reason). passed expected (unless o (packet_of bytes))) why)

owner_expects : (held : RequesterState) (p : Packet) → p.route.owner ≡ true → expects held p ≡ false
owner_expects held p e =
    ap
    (λ (b : Bool). is_some
    (if not b && (p.route.source == held.device) then where_open (is_open_in held) (latest_on held.count p.route.tag) else None))
    e

no_answer : (held : RequesterState) (bytes : List ℕ) → is_answer bytes ≡ false → (reason : Reason) × (requester.passed held bytes ≡ Err reason)
no_answer held bytes e =
    ⊎_elim
    (λ (short : nat_le HEADER (length bytes) ≡ false). too_short (expects held) held.own bytes short)
    (λ (owner : not (is_set (slice_index bytes 3) 3) ≡ false). no_packet (expects held) held.own bytes (owner_expects held (packet_of bytes) (not-false _ owner)))
    (and_cases (nat_le HEADER (length bytes)) (not (is_set (slice_index bytes 3) 3)) e)

pub brings_no_answer : BringsNoAnswer
brings_no_answer held moment bytes e =
    let none = no_answer held bytes e in (
      (none.0, ap (λ (r : Result Packet Reason). got_of (arrived_by held r)) none.1),
      subst (λ (r : Result Packet Reason). IsHeld (record (held_by held r) { last = moment }) (record held { last = moment })) (sym none.1)
          (record { own = refl; device = refl; timing = refl; pace = refl; count = refl; remembered = λ n. refl; open_messages = refl; last = refl }),
    )

pub asks_nothing : AsksNothing
asks_nothing own bytes e =
    let parts = and_parts (nat_le HEADER (length bytes)) (not (is_set (slice_index bytes 3) 3)) e in
    no_packet is_expected own bytes (not-true _ parts.1)
