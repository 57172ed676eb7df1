-- An end that has no endpoint ID drops each packet.
use Rattle.std.proofs.Common.{◌≡◌, ℕ, Bool, true, false, List, [], ◌∷◌, Some, Err, refl, ap, ◌∙◌, eqb-true}
use Rattle.std.specs.Prelude.{not, ◌&&◌, ◌==◌, nat_le, nat_lt, length, slice_index}
use Rattle.std.proofs.lemmas.Bool.{and_right}
use Rattle.mctp_packet.specs.Reading.{packet_of, unless}
use Rattle.mctp_packet.specs.Refusals.{first_failing, is_eid, is_source}
use Rattle.mctp_packet.specs.Passing.{passed}
use Rattle.mctp_packet.specs.declared.TheConstants.{HEADER, MAX_PACKET_BYTES, NULL_EID}
use Rattle.mctp_packet.specs.declared.reason.Reason.{Reason}
use Rattle.mctp_packet.specs.declared.reason.Reason.TheVariants.{Short, BadVersion, UnknownDestination, BadSource, NoPayload, UnsupportedUnit}
use Rattle.mctp_assembly.specs.Steps as assembly
use Rattle.pldm_responder.specs.Arrivals.{is_expected, passed_arrival, request_packet}
use Rattle.pldm_responder.specs.Laws.{DropsWithoutEid}
use Rattle.pldm_responder.specs.Performing.{Rules, commands_of}
use Rattle.pldm_responder.specs.Steps.{arrival_asks, arrival_outcome}

some_reason : (a b c : Bool) (others : List (Bool × Reason)) → c ≡ true → (r : Reason) × (first_failing ((a, Short) ∷ (b, BadVersion) ∷ (c, UnknownDestination) ∷ others) ≡ Some r)
some_reason true b c others h = (Short, refl)
some_reason false true c others h = (BadVersion, refl)
some_reason false false true others h = (UnknownDestination, refl)
some_reason false false false others h = cc

-- the null endpoint ID is no destination
no_destination : (n : ℕ) (t : Bool) → (n == NULL_EID) ≡ t → not (is_eid n && t) ≡ true
no_destination n false h = ap not (and_right (is_eid n) false refl)
no_destination n true h = ap (λ m. not (is_eid m && true)) (eqb-true n NULL_EID h)

-- the checks after that of the destination
abbrev later_checks : List ℕ → List (Bool × Reason)
later_checks bytes =
    (not (is_source (Some NULL_EID) (slice_index bytes 2)), BadSource)
    ∷ (nat_le (length bytes) HEADER, NoPayload)
    ∷ (nat_lt MAX_PACKET_BYTES (length bytes), UnsupportedUnit)
    ∷ []

pub drops_without_eid : {S : Type 0} (device : Rules S) → DropsWithoutEid device
drops_without_eid device held moment bytes none =
    let n = slice_index bytes 1 in
    let found = some_reason _ _ _ (later_checks bytes) (no_destination n (n == NULL_EID) refl) in
    let read : request_packet held.own bytes ≡ Err found.0 = ap (λ own. request_packet own bytes) none ∙ ap (λ r. passed is_expected (unless r (packet_of bytes))) found.1 in (
      found.0,
      found.1,
      ap (λ p. arrival_outcome device held (passed_arrival (assembly.answer held.open_messages) moment p)) read,
      ap (λ p. arrival_asks held commands_of (passed_arrival (assembly.answer held.open_messages) moment p)) read,
    )
