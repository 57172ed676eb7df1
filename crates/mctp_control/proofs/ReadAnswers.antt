-- Reading by place gives the answer whose fields stand in the bytes, and every answer is read.
use Rattle.std.proofs.Common.{◌≡◌, ℕ, ◌/◌, ◌%◌, ◌<◌, ◌≤◌, ◌==◌, ◌&&◌, nat_le, true, false, List, [], ◌∷◌, length, slice_index, Option, Some, None, IfSome, option_map, refl, ap, ◌∙◌, arith, eqb-true}
use Rattle.std.proofs.lemmas.Bool.{eq-eqb, le-leb}
use Rattle.std.proofs.lemmas.Bool.Decides.{nat_tests}
use Rattle.mctp_control.proofs.Cells.{by_test}
use Rattle.mctp_control.specs.AnswerReading.{answer_of, endpoint_id_of, set_of, success_of, types_of, uuid_of, versions_of}
use Rattle.mctp_control.specs.Answers.{AnswerFields, HasTwoFields, assignment_code, assignment_of, eid_kind_code, eid_kind_of, endpoint_code, endpoint_of}
use Rattle.mctp_control.specs.Lists.{IsTypes, IsVersions, is_versions}
use Rattle.mctp_control.specs.declared.answer.Answer.{Answer}
use Rattle.mctp_control.specs.declared.answer.Answer.TheVariants.{Refused, EndpointIdSet, EndpointId, EndpointUuid, VersionSupport, MessageTypeSupport}
use Rattle.mctp_control.specs.declared.answer.Assignment.{Assignment}
use Rattle.mctp_control.specs.declared.answer.Assignment.TheVariants.{Accepted, Rejected}
use Rattle.mctp_control.specs.declared.answer.EidKind.{EidKind}
use Rattle.mctp_control.specs.declared.answer.EidKind.TheVariants.{Dynamic, Static, StaticNow, StaticNotNow}
use Rattle.mctp_control.specs.declared.answer.EndpointKind.{EndpointKind}
use Rattle.mctp_control.specs.declared.answer.EndpointKind.TheVariants.{Simple, BusOwner}
use Rattle.mctp_control.specs.declared.assigned.TheConstants.{SET_ENDPOINT_ID, GET_ENDPOINT_ID, GET_ENDPOINT_UUID, GET_VERSION_SUPPORT, GET_MESSAGE_TYPE_SUPPORT, SUCCESS, UUID_BYTES, VERSION_BYTES, MAX_MESSAGE_TYPES, MAX_VERSION_BYTES}

-- what was read, if anything, has its fields in these bytes
abbrev Sound : ℕ → List ℕ → Option Answer → Type 0
Sound number bytes r = IfSome r (λ a. AnswerFields a number SUCCESS bytes)

three : (bytes : List ℕ) → length bytes ≡ 3 → bytes ≡ slice_index bytes 0 ∷ slice_index bytes 1 ∷ slice_index bytes 2 ∷ []
three [] h = absurd (omega arith)
three (a ∷ []) h = absurd (omega arith)
three (a ∷ b ∷ []) h = absurd (omega arith)
three (a ∷ b ∷ c ∷ []) h = refl
three (a ∷ b ∷ c ∷ d ∷ rest) h = absurd (omega arith)

-- a byte has its two fields, and what is between
two_fields : (high low byte : ℕ) → byte < 256 → byte / 16 % 4 ≡ high → byte % 4 ≡ low → HasTwoFields high low byte
two_fields high low byte small h l = (byte / 64, byte / 4 % 4, omega arith, omega arith, omega arith)

set_by : (bytes : List ℕ) (assignment : Assignment) → slice_index bytes 0 < 256 → length bytes ≡ 3 → slice_index bytes 0 % 4 ≡ 0 → slice_index bytes 2 ≡ 0 → slice_index bytes 0 / 16 % 4 ≡ assignment_code assignment → AnswerFields (EndpointIdSet assignment (slice_index bytes 1)) SET_ENDPOINT_ID SUCCESS bytes
set_by bytes assignment small long low pool high = record {
  to = refl;
  code_is = refl;
  fields = (slice_index bytes 0, two_fields (assignment_code assignment) 0 (slice_index bytes 0) small high low, three bytes long ∙ ap (λ last. slice_index bytes 0 ∷ slice_index bytes 1 ∷ last ∷ []) pool);
}

-- the status is read where there is one of its number
set_status : (bytes : List ℕ) → slice_index bytes 0 < 256 → length bytes ≡ 3 → slice_index bytes 0 % 4 ≡ 0 → slice_index bytes 2 ≡ 0 → Sound SET_ENDPOINT_ID bytes (option_map (λ assignment. EndpointIdSet assignment (slice_index bytes 1)) (assignment_of (slice_index bytes 0)))
set_status bytes small long low pool =
    by_test (λ found. Sound SET_ENDPOINT_ID bytes (option_map (λ assignment. EndpointIdSet assignment (slice_index bytes 1)) found)) (slice_index bytes 0 / 16 % 4 == 0) _ _
    (λ t. set_by bytes Accepted small long low pool (eqb-true _ _ t))
    (λ _. by_test (λ found. Sound SET_ENDPOINT_ID bytes (option_map (λ assignment. EndpointIdSet assignment (slice_index bytes 1)) found)) (slice_index bytes 0 / 16 % 4 == 1) _ _
    (λ t. set_by bytes Rejected small long low pool (eqb-true _ _ t))
    (λ _. tt))

set_sound : (bytes : List ℕ) → slice_index bytes 0 < 256 → Sound SET_ENDPOINT_ID bytes (set_of bytes)
set_sound bytes small =
    by_test (Sound SET_ENDPOINT_ID bytes) ((length bytes == 3) && (slice_index bytes 0 % 4 == 0) && (slice_index bytes 2 == 0)) _ None
    (λ t.
    let long : length bytes ≡ 3 = grind (arith, nat_tests, t) in
    let low : slice_index bytes 0 % 4 ≡ 0 = grind (arith, nat_tests, t) in
    let pool : slice_index bytes 2 ≡ 0 = grind (arith, nat_tests, t) in
    set_status bytes small long low pool)
    (λ _. tt)

kind_codes : (byte : ℕ) → byte % 4 ≡ eid_kind_code (eid_kind_of byte)
kind_codes byte =
    by_test (λ kind. byte % 4 ≡ eid_kind_code kind) (byte % 4 == 0) _ _
    (λ t. eqb-true _ _ t)
    (λ a. by_test (λ kind. byte % 4 ≡ eid_kind_code kind) (byte % 4 == 1) _ _
    (λ t. eqb-true _ _ t)
    (λ b. by_test (λ kind. byte % 4 ≡ eid_kind_code kind) (byte % 4 == 2) _ _
    (λ t. eqb-true _ _ t)
    (λ c. grind (arith, nat_tests, a, b, c))))

id_by : (bytes : List ℕ) (endpoint : EndpointKind) → slice_index bytes 1 < 256 → length bytes ≡ 3 → slice_index bytes 1 / 16 % 4 ≡ endpoint_code endpoint → AnswerFields (EndpointId (slice_index bytes 0) endpoint (eid_kind_of (slice_index bytes 1)) (slice_index bytes 2)) GET_ENDPOINT_ID SUCCESS bytes
id_by bytes endpoint small long high = record {
  to = refl;
  code_is = refl;
  fields = (slice_index bytes 1, two_fields (endpoint_code endpoint) (eid_kind_code (eid_kind_of (slice_index bytes 1))) (slice_index bytes 1) small high (kind_codes (slice_index bytes 1)), three bytes long);
}

endpoint_id_sound : (bytes : List ℕ) → slice_index bytes 1 < 256 → Sound GET_ENDPOINT_ID bytes (endpoint_id_of bytes)
endpoint_id_sound bytes small =
    by_test (Sound GET_ENDPOINT_ID bytes) (length bytes == 3) _ None
    (λ t.
    let long : length bytes ≡ 3 = eqb-true _ _ t in
    by_test (λ found. Sound GET_ENDPOINT_ID bytes (option_map (λ endpoint. EndpointId (slice_index bytes 0) endpoint (eid_kind_of (slice_index bytes 1)) (slice_index bytes 2)) found)) (slice_index bytes 1 / 16 % 4 == 0) _ _
    (λ e. id_by bytes Simple small long (eqb-true _ _ e))
    (λ _. by_test (λ found. Sound GET_ENDPOINT_ID bytes (option_map (λ endpoint. EndpointId (slice_index bytes 0) endpoint (eid_kind_of (slice_index bytes 1)) (slice_index bytes 2)) found)) (slice_index bytes 1 / 16 % 4 == 1) _ _
    (λ e. id_by bytes BusOwner small long (eqb-true _ _ e))
    (λ _. tt)))
    (λ _. tt)

uuid_sound : (bytes : List ℕ) → Sound GET_ENDPOINT_UUID bytes (uuid_of bytes)
uuid_sound bytes =
    by_test (Sound GET_ENDPOINT_UUID bytes) (length bytes == UUID_BYTES) _ None
    (λ t. record { to = refl; code_is = refl; fields = (eqb-true _ _ t, refl) })
    (λ _. tt)

versions_sound : (bytes : List ℕ) → Sound GET_VERSION_SUPPORT bytes (versions_of bytes)
versions_sound [] = tt
versions_sound (count ∷ versions) =
    by_test (Sound GET_VERSION_SUPPORT (count ∷ versions)) (is_versions versions && (count == length versions / VERSION_BYTES)) _ None
    (λ t.
    let least : VERSION_BYTES ≤ length versions = grind (arith, nat_tests, t) in
    let most : length versions ≤ MAX_VERSION_BYTES = grind (arith, nat_tests, t) in
    let whole : length versions % VERSION_BYTES ≡ 0 = grind (arith, nat_tests, t) in
    let counted : count ≡ length versions / VERSION_BYTES = grind (arith, nat_tests, t) in
    record { to = refl; code_is = refl; fields = ((least, most, whole), ap (λ n. n ∷ versions) counted) })
    (λ _. tt)

types_sound : (bytes : List ℕ) → Sound GET_MESSAGE_TYPE_SUPPORT bytes (types_of bytes)
types_sound [] = tt
types_sound (count ∷ types) =
    by_test (Sound GET_MESSAGE_TYPE_SUPPORT (count ∷ types)) (nat_le 1 (length (count ∷ types)) && nat_le (length types) MAX_MESSAGE_TYPES && (count == length types)) _ None
    (λ t.
    let few : length types ≤ MAX_MESSAGE_TYPES = grind (arith, nat_tests, t) in
    let counted : count ≡ length types = grind (arith, nat_tests, t) in
    record { to = refl; code_is = refl; fields = (few, ap (λ n. n ∷ types) counted) })
    (λ _. tt)

success_sound : (number : ℕ) (bytes : List ℕ) → ((i : ℕ) → slice_index bytes i < 256) → Sound number bytes (success_of number bytes)
success_sound number bytes small =
    by_test (Sound number bytes) (number == SET_ENDPOINT_ID) _ _
    (λ t. rw (eqb-true number SET_ENDPOINT_ID t) (set_sound bytes (small 0)))
    (λ _. by_test (Sound number bytes) (number == GET_ENDPOINT_ID) _ _
    (λ t. rw (eqb-true number GET_ENDPOINT_ID t) (endpoint_id_sound bytes (small 1)))
    (λ _. by_test (Sound number bytes) (number == GET_ENDPOINT_UUID) _ _
    (λ t. rw (eqb-true number GET_ENDPOINT_UUID t) (uuid_sound bytes))
    (λ _. by_test (Sound number bytes) (number == GET_VERSION_SUPPORT) _ _
    (λ t. rw (eqb-true number GET_VERSION_SUPPORT t) (versions_sound bytes))
    (λ _. by_test (Sound number bytes) (number == GET_MESSAGE_TYPE_SUPPORT) _ _
    (λ t. rw (eqb-true number GET_MESSAGE_TYPE_SUPPORT t) (types_sound bytes))
    (λ _. tt)))))

-- what reading finds has its fields in the code and the bytes
pub found : (number code : ℕ) (bytes : List ℕ) → code < 256 → ((i : ℕ) → slice_index bytes i < 256) → IfSome (answer_of number code bytes) (λ a. AnswerFields a number code bytes)
unfolding answer_of
found number code bytes range small =
    by_test (λ r. IfSome r (λ a. AnswerFields a number code bytes)) (code == SUCCESS) _ _
    (λ t. rw (eqb-true code SUCCESS t) (success_sound number bytes small))
    (λ f.
    let refusal : 1 ≤ code = grind (arith, nat_tests, f) in
    record { to = tt; code_is = refl; fields = (refusal, omega (arith, range)) })

set_only : (assignment : Assignment) (status eid : ℕ) → HasTwoFields (assignment_code assignment) 0 status → set_of (status ∷ eid ∷ 0 ∷ []) ≡ Some (EndpointIdSet assignment eid)
set_only Accepted status eid h =
    let low : status % 4 ≡ 0 = omega (arith, h.2, h.3, h.4) in
    let high : status / 16 % 4 ≡ 0 = omega (arith, h.2, h.3, h.4) in
    rw (low, high) refl
set_only Rejected status eid h =
    let low : status % 4 ≡ 0 = omega (arith, h.2, h.3, h.4) in
    let high : status / 16 % 4 ≡ 1 = omega (arith, h.2, h.3, h.4) in
    rw (low, high) refl

kind_only : (kind : EidKind) (high types : ℕ) → HasTwoFields high (eid_kind_code kind) types → eid_kind_of types ≡ kind
kind_only Dynamic high types h = let low : types % 4 ≡ 0 = omega (arith, h.2, h.3, h.4) in rw low refl
kind_only Static high types h = let low : types % 4 ≡ 1 = omega (arith, h.2, h.3, h.4) in rw low refl
kind_only StaticNow high types h = let low : types % 4 ≡ 2 = omega (arith, h.2, h.3, h.4) in rw low refl
kind_only StaticNotNow high types h = let low : types % 4 ≡ 3 = omega (arith, h.2, h.3, h.4) in rw low refl

two_high : (high : ℕ) (kind : EidKind) (types : ℕ) → high < 4 → HasTwoFields high (eid_kind_code kind) types → types / 16 % 4 ≡ high
two_high high Dynamic types few h = omega (arith, h.2, h.3, h.4)
two_high high Static types few h = omega (arith, h.2, h.3, h.4)
two_high high StaticNow types few h = omega (arith, h.2, h.3, h.4)
two_high high StaticNotNow types few h = omega (arith, h.2, h.3, h.4)

endpoint_only : (endpoint : EndpointKind) (kind : EidKind) (types : ℕ) → HasTwoFields (endpoint_code endpoint) (eid_kind_code kind) types → endpoint_of types ≡ Some endpoint
endpoint_only Simple kind types h = let high : types / 16 % 4 ≡ 0 = two_high 0 kind types (omega arith) h in rw high refl
endpoint_only BusOwner kind types h = let high : types / 16 % 4 ≡ 1 = two_high 1 kind types (omega arith) h in rw high refl

id_only : (eid types medium : ℕ) (endpoint : EndpointKind) (kind : EidKind) → HasTwoFields (endpoint_code endpoint) (eid_kind_code kind) types → endpoint_id_of (eid ∷ types ∷ medium ∷ []) ≡ Some (EndpointId eid endpoint kind medium)
id_only eid types medium endpoint kind h = rw (endpoint_only endpoint kind types h, kind_only kind (endpoint_code endpoint) types h) refl

versions_only : (versions : List ℕ) → IsVersions versions → versions_of (length versions / VERSION_BYTES ∷ versions) ≡ Some (VersionSupport versions)
versions_only versions h =
    let least = le-leb _ _ h.0 in
    let most = le-leb _ _ h.1 in
    let whole = eq-eqb _ _ h.2 in
    let counted : (length versions / VERSION_BYTES == length versions / VERSION_BYTES) ≡ true = eq-eqb _ _ refl in
    rw (least, most, whole, counted) refl

types_only : (types : List ℕ) → IsTypes types → types_of (length types ∷ types) ≡ Some (MessageTypeSupport types)
types_only types h =
    let few = le-leb _ _ h in
    let some : nat_le 1 (length (length types ∷ types)) ≡ true = le-leb _ _ (omega arith) in
    let counted : (length types == length types) ≡ true = eq-eqb _ _ refl in
    rw (some, few, counted) refl

-- every answer is read
pub only : (a : Answer) (number code : ℕ) (bytes : List ℕ) → AnswerFields a number code bytes → answer_of number code bytes ≡ Some a
unfolding answer_of
only (Refused refusal) number code bytes h =
    let other : (code == SUCCESS) ≡ false = grind (arith, nat_tests, h.code_is, h.fields.0) in
    rw other (ap (λ n. Some (Refused n)) h.code_is)
only (EndpointIdSet assignment eid) number code bytes h =
    rw (h.code_is, h.to, h.fields.2) (set_only assignment h.fields.0 eid h.fields.1)
only (EndpointId eid endpoint kind medium) number code bytes h =
    rw (h.code_is, h.to, h.fields.2) (id_only eid h.fields.0 medium endpoint kind h.fields.1)
only (EndpointUuid uuid) number code bytes h = rw (h.code_is, h.to, h.fields.1, h.fields.0) refl
only (VersionSupport versions) number code bytes h = rw (h.code_is, h.to, h.fields.1) (versions_only versions h.fields.0)
only (MessageTypeSupport types) number code bytes h = rw (h.code_is, h.to, h.fields.1) (types_only types h.fields.0)
