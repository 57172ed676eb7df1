-- The commands of effecters (DSP0248): what they set, and what they return.
use Rattle.std.specs.Prelude.{ℕ, ◌==◌, nat_lt, int_lt, Bool, true, not, ◌&&◌, ◌||◌}
use Rattle.std.specs.Prelude.{List, [], ◌∷◌, length, map, Option, Some, None, Result, Ok, Err, if◌then◌else◌}
use Rattle.std.specs.List.{list_any}
use Rattle.pldm_wire.specs.Numbers.{SizedNumber}
use Rattle.pldm_wire.specs.EffecterNumbers.{two_numbers}
use Rattle.pldm_wire.specs.Sizes.{size_code}
use Rattle.pldm_wire.specs.declared.assigned.TheConstants.{ERROR_INVALID_DATA}
use Rattle.pldm_wire.specs.declared.state_fields.SetStateField.{SetStateField}
use Rattle.pldm_wire.specs.declared.state_fields.EffecterStateField.{EffecterStateField}
use Rattle.pldm_wire.specs.declared.answer.Answer.{Answer}
use Rattle.pldm_wire.specs.declared.answer.Answer.TheVariants.{Refused, GetNumericEffecterValue, GetStateEffecterStates}
use Rattle.pldm_records.specs.ById.{change_at}
use Rattle.pldm_platform.specs.Changes.{made_of}
use Rattle.simulated_device.specs.Devices.{Device}
use Rattle.simulated_device.specs.declared.limits.TheConstants.{EFFECTER_ENABLED, REQUEST_SET}
use Rattle.pldm_platform.specs.declared.refusals.TheConstants.{INVALID_EFFECTER_ID, INVALID_STATE_VALUE}
use Rattle.simulated_device.specs.declared.numeric.NumericEffecter.{NumericEffecter}
use Rattle.simulated_device.specs.StateEffecters.{FieldsOfStates}

-- the effecter with the number as its value: it has to be of the effecter's data size, and in its range
abbrev pub set_number : SizedNumber → NumericEffecter → Result NumericEffecter ℕ
set_number number effecter =
    if not (size_code number.size == size_code effecter.value.size) then Err ERROR_INVALID_DATA
    else if int_lt number.value effecter.min || int_lt effecter.max number.value then Err ERROR_INVALID_DATA
    else Ok (record effecter { value = number })

-- whether the request asks for a state
abbrev pub asks : SetStateField → Bool
asks field = field.set_request == REQUEST_SET

-- each state that is asked for is one that its field can take
abbrev pub are_allowed : List SetStateField → List (List ℕ) → Bool
are_allowed (field ∷ fields) (states ∷ allowed) =
    (not (asks field) || list_any (λ state. state == field.state) states) && are_allowed fields allowed
are_allowed _ _ = true

-- the states that are asked for, and where none is, the one that the field has
abbrev pub states_after : List SetStateField → List ℕ → List ℕ
states_after (field ∷ fields) (state ∷ states) =
    (if asks field then field.state else state) ∷ states_after fields states
states_after _ _ = []

-- there is a set request other than noChange and requestSet
abbrev pub has_other_request : List SetStateField → Bool
has_other_request fields = list_any (λ field. nat_lt REQUEST_SET field.set_request) fields

-- why the states that are asked for can't be set, if they can't
abbrev pub states_refusal : List SetStateField → List (List ℕ) → Option ℕ
states_refusal fields allowed =
    if has_other_request fields then Some ERROR_INVALID_DATA
    else if are_allowed fields allowed then None
    else Some INVALID_STATE_VALUE

abbrev pub done_unless : {A E : Type 0} → Option E → A → Result A E
done_unless None done = Ok done
done_unless (Some refusal) done = Err refusal

-- the effecter with the states that are asked for, or the first refusal
abbrev pub set_states : List SetStateField → FieldsOfStates → Result FieldsOfStates ℕ
set_states fields effecter =
    if length fields == length effecter.states
    then done_unless (states_refusal fields effecter.allowed)
    (record effecter { states = states_after fields effecter.states })
    else Err ERROR_INVALID_DATA

-- the field of an effecter in this state: no other one is pending
abbrev pub effecter_field : ℕ → EffecterStateField
effecter_field state = record { operational = EFFECTER_ENABLED; pending = state; present = state }

-- the device with the number set, or the refusal
abbrev pub number_set : ℕ → SizedNumber → Device → Result Device ℕ
number_set id number device =
    made_of (λ effecters. record device { numeric_effecters = effecters })
    (change_at INVALID_EFFECTER_ID (set_number number) id device.numeric_effecters)

-- the device with the states set, or the refusal
abbrev pub states_set : ℕ → List SetStateField → Device → Result Device ℕ
states_set id fields device =
    made_of (λ effecters. record device { state_effecters = effecters })
    (change_at INVALID_EFFECTER_ID (set_states fields) id device.state_effecters)

-- the answer to a command that sets: the refusal, or that it was done
abbrev pub outcome_answered : {A : Type 0} → Answer → Result A ℕ → Answer
outcome_answered done (Ok changed) = done
outcome_answered done (Err code) = Refused code

abbrev pub numeric_effecter_answered : Option NumericEffecter → Answer
numeric_effecter_answered None = Refused INVALID_EFFECTER_ID
numeric_effecter_answered (Some effecter) =
    GetNumericEffecterValue EFFECTER_ENABLED (two_numbers effecter.value effecter.value)

abbrev pub state_effecter_answered : Option FieldsOfStates → Answer
state_effecter_answered None = Refused INVALID_EFFECTER_ID
state_effecter_answered (Some effecter) = GetStateEffecterStates (map effecter_field effecter.states)
