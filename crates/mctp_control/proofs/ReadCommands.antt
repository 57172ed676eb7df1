-- Reading by place gives the command whose fields stand in the data, and every command is read.
use Rattle.std.proofs.Common.{◌≡◌, ℕ, ◌+◌, ◌*◌, ◌/◌, ◌%◌, ◌<◌, ◌==◌, List, [], ◌∷◌, length, slice_index, Result, Ok, IfOk, refl, ap, ◌∙◌, arith, eqb-true}
use Rattle.std.proofs.lemmas.Bool.Decides.{nat_tests}
use Rattle.mctp_control.proofs.Cells.{by_test, none, one, two}
use Rattle.mctp_control.specs.CommandReading.{command_of, of_length}
use Rattle.mctp_control.specs.Commands.{CommandFields, command_data, number_of, operation_code, operation_of}
use Rattle.mctp_control.specs.declared.assigned.TheConstants.{SET_ENDPOINT_ID, GET_ENDPOINT_ID, GET_ENDPOINT_UUID, GET_VERSION_SUPPORT, GET_MESSAGE_TYPE_SUPPORT}
use Rattle.mctp_control.specs.declared.command.Command.{Command}
use Rattle.mctp_control.specs.declared.command.Command.TheVariants.{SetEndpointId, GetEndpointId, GetEndpointUuid, GetVersionSupport, GetMessageTypeSupport}
use Rattle.mctp_control.specs.declared.command.EidOperation.{EidOperation}
use Rattle.mctp_control.specs.declared.command.EidOperation.TheVariants.{Set, Force, Reset, SetDiscovered}

-- what was read, if anything, has its fields in these bytes
abbrev Sound : ℕ → List ℕ → Result Command ℕ → Type 0
Sound number bytes r = IfOk r (λ c. CommandFields c number bytes)

operation_codes : (byte : ℕ) → byte % 4 ≡ operation_code (operation_of byte)
operation_codes byte =
    by_test (λ operation. byte % 4 ≡ operation_code operation) (byte % 4 == 0) _ _
    (λ t. eqb-true _ _ t)
    (λ a. by_test (λ operation. byte % 4 ≡ operation_code operation) (byte % 4 == 1) _ _
    (λ t. eqb-true _ _ t)
    (λ b. by_test (λ operation. byte % 4 ≡ operation_code operation) (byte % 4 == 2) _ _
    (λ t. eqb-true _ _ t)
    (λ c. grind (arith, nat_tests, a, b, c))))

-- a byte is its two lowest bits and the others
split : (byte code : ℕ) → byte % 4 ≡ code → byte ≡ 4 * (byte / 4) + code
split byte code h = omega (arith, h)

set_fields : (bytes : List ℕ) → slice_index bytes 0 < 256 → length bytes ≡ 2 → CommandFields (SetEndpointId (operation_of (slice_index bytes 0)) (slice_index bytes 1)) SET_ENDPOINT_ID bytes
set_fields bytes small long = record {
  number_is = refl;
  fields = (slice_index bytes 0 / 4, omega (arith, small), two bytes long ∙ ap (λ byte. byte ∷ slice_index bytes 1 ∷ []) (split (slice_index bytes 0) _ (operation_codes (slice_index bytes 0))));
}

set_sound : (bytes : List ℕ) → slice_index bytes 0 < 256 → Sound SET_ENDPOINT_ID bytes (of_length 2 (SetEndpointId (operation_of (slice_index bytes 0)) (slice_index bytes 1)) bytes)
set_sound bytes small =
    by_test (Sound SET_ENDPOINT_ID bytes) (length bytes == 2) _ _ (λ t. set_fields bytes small (eqb-true _ _ t)) (λ _. tt)

version_sound : (bytes : List ℕ) → Sound GET_VERSION_SUPPORT bytes (of_length 1 (GetVersionSupport (slice_index bytes 0)) bytes)
version_sound bytes =
    by_test (Sound GET_VERSION_SUPPORT bytes) (length bytes == 1) _ _
    (λ t. record { number_is = refl; fields = one bytes (eqb-true _ _ t) }) (λ _. tt)

-- a command with no data
bare_sound : (command : Command) (bytes : List ℕ) → (bytes ≡ [] → CommandFields command (number_of command) bytes) → Sound (number_of command) bytes (of_length 0 command bytes)
bare_sound command bytes fields =
    by_test (Sound (number_of command) bytes) (length bytes == 0) _ _ (λ t. fields (none bytes (eqb-true _ _ t))) (λ _. tt)

-- what reading finds has its fields in the bytes
pub found : (number : ℕ) (bytes : List ℕ) → ((i : ℕ) → slice_index bytes i < 256) → IfOk (command_of number bytes) (λ c. CommandFields c number bytes)
unfolding command_of
found number bytes small =
    by_test (Sound number bytes) (number == SET_ENDPOINT_ID) _ _
    (λ t. rw (eqb-true number SET_ENDPOINT_ID t) (set_sound bytes (small 0)))
    (λ _. by_test (Sound number bytes) (number == GET_ENDPOINT_ID) _ _
    (λ t. rw (eqb-true number GET_ENDPOINT_ID t) (bare_sound GetEndpointId bytes (λ e. record { number_is = refl; fields = e })))
    (λ _. by_test (Sound number bytes) (number == GET_ENDPOINT_UUID) _ _
    (λ t. rw (eqb-true number GET_ENDPOINT_UUID t) (bare_sound GetEndpointUuid bytes (λ e. record { number_is = refl; fields = e })))
    (λ _. by_test (Sound number bytes) (number == GET_VERSION_SUPPORT) _ _
    (λ t. rw (eqb-true number GET_VERSION_SUPPORT t) (version_sound bytes))
    (λ _. by_test (Sound number bytes) (number == GET_MESSAGE_TYPE_SUPPORT) _ _
    (λ t. rw (eqb-true number GET_MESSAGE_TYPE_SUPPORT t) (bare_sound GetMessageTypeSupport bytes (λ e. record { number_is = refl; fields = e })))
    (λ _. tt)))))

operation_only : (operation : EidOperation) (reserved : ℕ) → operation_of (4 * reserved + operation_code operation) ≡ operation
operation_only Set reserved = let low : (4 * reserved + 0) % 4 ≡ 0 = omega arith in rw low refl
operation_only Force reserved = let low : (4 * reserved + 1) % 4 ≡ 1 = omega arith in rw low refl
operation_only Reset reserved = let low : (4 * reserved + 2) % 4 ≡ 2 = omega arith in rw low refl
operation_only SetDiscovered reserved = let low : (4 * reserved + 3) % 4 ≡ 3 = omega arith in rw low refl

-- every command is read
pub only : (c : Command) (number : ℕ) (bytes : List ℕ) → CommandFields c number bytes → command_of number bytes ≡ Ok c
unfolding command_of
only (SetEndpointId operation eid) number bytes h =
    rw (h.number_is, h.fields.2) (ap (λ o. Ok (SetEndpointId o eid)) (operation_only operation h.fields.0))
only GetEndpointId number bytes h = rw (h.number_is, h.fields) refl
only GetEndpointUuid number bytes h = rw (h.number_is, h.fields) refl
only (GetVersionSupport message_type) number bytes h = rw (h.number_is, h.fields) refl
only GetMessageTypeSupport number bytes h = rw (h.number_is, h.fields) refl

-- the data that a command is written with has its fields
pub written : (c : Command) → CommandFields c (number_of c) (command_data c)
written (SetEndpointId operation eid) =
    let same : operation_code operation ≡ 4 * 0 + operation_code operation = omega arith in
    record { number_is = refl; fields = (0, omega arith, ap (λ n. n ∷ eid ∷ []) same) }
written GetEndpointId = record { number_is = refl; fields = refl }
written GetEndpointUuid = record { number_is = refl; fields = refl }
written (GetVersionSupport message_type) = record { number_is = refl; fields = refl }
written GetMessageTypeSupport = record { number_is = refl; fields = refl }
