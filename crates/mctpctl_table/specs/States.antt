-- What cells say of a sensor or an effecter and its states.
use Rattle.std.specs.Prelude.{ℕ, zero, suc, ◌+◌, ◌==◌, List, [], ◌∷◌, ◌++◌, codes, Option, None, Some, if◌then◌else◌}
use Rattle.std.specs.Fmt.{decimal}
use Rattle.std.specs.List.{flat_map}
use Rattle.mctpctl_decode.specs.CodeNames.{code_name}
use Rattle.mctpctl_decode.specs.FieldTexts.{code_word}
use Rattle.mctpctl_decode.specs.StateNames.{effecter_state_name, sensor_operation_name, sensor_state_name}
use Rattle.pldm_pdr.specs.StateSets.{has_state}
use Rattle.pldm_pdr.specs.declared.possible_states.PossibleStates.{PossibleStates}
use Rattle.pldm_wire.specs.Kinds.{TypeAndCommand, of_type}
use Rattle.pldm_wire.specs.declared.answer.Answer.{Answer}
use Rattle.pldm_wire.specs.declared.answer.Answer.TheVariants.{Refused}
use Rattle.pldm_wire.specs.declared.assigned.TheConstants.{PLATFORM, GET_SENSOR_READING, GET_STATE_SENSOR_READINGS}
use Rattle.pldm_wire.specs.declared.assigned.TheConstants.{GET_NUMERIC_EFFECTER_VALUE, GET_STATE_EFFECTER_STATES}
use Rattle.mctpctl_table.specs.declared.reply.Reply.{Reply}
use Rattle.mctpctl_table.specs.declared.reply.Reply.TheVariants.{Silence, Wrong, Answered}
use Rattle.mctpctl_table.specs.declared.identifier.Identifier.{Identifier}
use Rattle.mctpctl_table.specs.declared.identifier.Identifier.TheVariants.{Sensor, Effecter}

abbrev pub what_text : Identifier → List ℕ
what_text (Sensor terminus id) = codes "sensor " ++ decimal id
what_text (Effecter terminus id) = codes "effecter " ++ decimal id

-- the command that asks a numeric one, and the one that asks a state one

abbrev pub numeric_kind : Identifier → TypeAndCommand
numeric_kind (Sensor terminus id) = of_type PLATFORM GET_SENSOR_READING
numeric_kind (Effecter terminus id) = of_type PLATFORM GET_NUMERIC_EFFECTER_VALUE

abbrev pub state_kind : Identifier → TypeAndCommand
state_kind (Sensor terminus id) = of_type PLATFORM GET_STATE_SENSOR_READINGS
state_kind (Effecter terminus id) = of_type PLATFORM GET_STATE_EFFECTER_STATES

-- a state by its name, else by its number
abbrev pub named : Option (List ℕ) → ℕ → List ℕ
named (Some name) state = name
named None state = codes "state " ++ decimal state

unfoldable pub operation_text : Identifier → ℕ → List ℕ
operation_text (Sensor terminus id) state = named (sensor_operation_name state) state
operation_text (Effecter terminus id) state = named (effecter_state_name state) state

-- the operational state after a present one, unless it is 0, enabled
abbrev pub unless_enabled : Identifier → ℕ → List ℕ
unless_enabled identifier state = if state == 0 then [] else codes ", " ++ operation_text identifier state

unfoldable pub present_text : ℕ → List ℕ
present_text state = named (sensor_state_name state) state

-- a present state and the operational one; without a present one, the operational state
abbrev pub states_text : Identifier → Option ℕ → ℕ → List ℕ
states_text identifier (Some state) operational = present_text state ++ unless_enabled identifier operational
states_text identifier None operational = operation_text identifier operational

-- why there is no value, of a command of this kind

unfoldable pub refused_text : TypeAndCommand → ℕ → List ℕ
refused_text kind code = codes "refused" ++ code_word (code_name kind code) code

unfoldable pub not_read_text : TypeAndCommand → Answer → List ℕ
not_read_text kind (Refused code) = refused_text kind code
not_read_text kind answer = codes "wrong answer"

abbrev pub missing_text : TypeAndCommand → Reply → List ℕ
missing_text kind (Answered answer) = not_read_text kind answer
missing_text kind Silence = codes "no answer"
missing_text kind Wrong = codes "wrong answer"

-- of so many states, from this one on, those that are possible
unfoldable pub possible_from : ℕ → ℕ → List ℕ → List ℕ
possible_from zero state bits = []
possible_from (suc count) state bits =
    (if has_state bits state then state ∷ [] else []) ++ possible_from count (state + 1) bits

-- a list of numbers
unfoldable pub listed : List ℕ → List ℕ
listed [] = []
listed (state ∷ states) = decimal state ++ flat_map (λ next. codes ", " ++ decimal next) states

-- a state, its state set and the states that are possible
unfoldable pub state_value_text : PossibleStates → ℕ → List ℕ
state_value_text states state =
    codes "state " ++ decimal state ++ codes " (set " ++ decimal states.state_set ++ codes ": "
    ++ listed (possible_from 256 0 states.bits.items) ++ codes ")"
