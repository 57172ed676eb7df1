-- The command that words say, by its name and the words after it. A wrong word or count of words is reported before
-- a wrong number.
use Rattle.std.specs.Prelude.{ℕ, bytes_eq, Bool, codes, ℤ, List, [], ◌∷◌, Option, Some, None, Result, Ok, Err, if◌then◌else◌}
use Rattle.pldm_wire.specs.Numbers.{SizedNumber, sized}
use Rattle.pldm_wire.specs.Sizes.{fits}
use Rattle.pldm_wire.specs.SizeNames.{size_named}
use Rattle.pldm_wire.specs.States.{is_composite}
use Rattle.pldm_wire.specs.declared.limits.TheConstants.{GET_FIRST_PART, GET_NEXT_PART}
use Rattle.pldm_wire.specs.declared.size.Size.{Size}
use Rattle.pldm_wire.specs.declared.state_fields.SetStateField.{SetStateField}
use Rattle.pldm_wire.specs.declared.command.Command.{Command}
use Rattle.pldm_wire.specs.declared.command.Command.TheVariants.{SetTid, GetTid, GetPldmVersion, GetPldmTypes, GetPldmCommands, GetSensorReading, GetStateSensorReadings, SetNumericEffecterValue, GetNumericEffecterValue, SetStateEffecterStates, GetStateEffecterStates, GetPdrRepositoryInfo, GetPdr}
use Rattle.schedule_text.specs.WordValues.{◌>>=◌, number_up_to, any_value}
use Rattle.schedule_text.specs.declared.word.TheConstants.{MAX_BYTE, MAX_ID, MAX_HANDLE}
use Rattle.schedule_text.specs.declared.line_fault.LineFaultKind.{LineFaultKind}
use Rattle.schedule_text.specs.declared.line_fault.LineFaultKind.TheVariants.{Words, Number}

-- a word's fixed spelling
abbrev pub is : List ℕ → List ℕ → Bool
is word spelling = bytes_eq word spelling

-- the one word that there has to be
abbrev pub only_word : List (List ℕ) → Result (List ℕ) LineFaultKind
only_word (word ∷ []) = Ok word
only_word _ = Err Words

abbrev pub bare : Command → List (List ℕ) → Result Command LineFaultKind
bare command [] = Ok command
bare command _ = Err Words

-- one number, of a byte or of an ID

abbrev pub byte_of : List (List ℕ) → Result ℕ LineFaultKind
byte_of words = only_word words >>= number_up_to MAX_BYTE

abbrev pub id_of : List (List ℕ) → Result ℕ LineFaultKind
id_of words = only_word words >>= number_up_to MAX_ID

abbrev pub with_byte : (ℕ → Command) → List (List ℕ) → Result Command LineFaultKind
with_byte command words = byte_of words >>= λ number. Ok (command number)

abbrev pub with_id : (ℕ → Command) → List (List ℕ) → Result Command LineFaultKind
with_id command words = id_of words >>= λ id. Ok (command id)

abbrev pub or_words : {A : Type 0} → Option A → Result A LineFaultKind
or_words None = Err Words
or_words (Some value) = Ok value

-- the name of a data size is a fixed word
abbrev pub size_in : List ℕ → Result Size LineFaultKind
size_in word = or_words (size_named word)

-- a value that the size has
abbrev pub sized_in : Size → ℤ → Result SizedNumber LineFaultKind
sized_in size value = if fits size value then Ok (sized size value) else Err Number

abbrev pub setnum_of : List (List ℕ) → Result Command LineFaultKind
setnum_of (id ∷ size ∷ value ∷ []) =
    size_in size >>= λ size. number_up_to MAX_ID id >>= λ id. any_value value >>= λ value.
    sized_in size value >>= λ number. Ok (SetNumericEffecterValue id number)
setnum_of _ = Err Words

-- `-` leaves a field as it is, a number asks for that state
abbrev pub state_in : List ℕ → Result SetStateField LineFaultKind
state_in word =
    if is word (codes "-") then Ok (record { set_request = 0; state = 0 })
    else (number_up_to MAX_BYTE word >>= λ state. Ok (record { set_request = 1; state = state }))

abbrev pub states_in : List (List ℕ) → Result (List SetStateField) LineFaultKind
states_in [] = Ok []
states_in (word ∷ words) = state_in word >>= λ field. states_in words >>= λ fields. Ok (field ∷ fields)

abbrev pub setstate_of : List (List ℕ) → Result Command LineFaultKind
setstate_of (id ∷ states) =
    if is_composite states
    then (number_up_to MAX_ID id >>= λ id. states_in states >>= λ fields. Ok (SetStateEffecterStates id fields))
    else Err Words
setstate_of [] = Err Words

-- which part of a record is asked for is a fixed word
abbrev pub part_in : List ℕ → Result ℕ LineFaultKind
part_in word =
    if is word (codes "first") then Ok GET_FIRST_PART
    else if is word (codes "next") then Ok GET_NEXT_PART
    else Err Words

abbrev pub getpdr_of : List (List ℕ) → Result Command LineFaultKind
getpdr_of (handle ∷ transfer ∷ part ∷ count ∷ []) =
    part_in part >>= λ part. number_up_to MAX_HANDLE handle >>= λ handle.
    number_up_to MAX_HANDLE transfer >>= λ transfer. number_up_to MAX_ID count >>= λ count.
    Ok (GetPdr handle transfer part count 0)
getpdr_of _ = Err Words

-- the command of this name, with the words after it: those with more than a number, with an ID, with a byte, and
-- with none

abbrev pub field_command_named : List ℕ → List (List ℕ) → Result Command LineFaultKind
field_command_named name words =
    if is name (codes "setnum") then setnum_of words
    else if is name (codes "setstate") then setstate_of words
    else if is name (codes "getpdr") then getpdr_of words
    else Err Words

abbrev pub id_command_named : List ℕ → List (List ℕ) → Result Command LineFaultKind
id_command_named name words =
    if is name (codes "sensor") then with_id (λ id. GetSensorReading id 0) words
    else if is name (codes "statesensors") then with_id (λ id. GetStateSensorReadings id 0) words
    else if is name (codes "getnum") then with_id GetNumericEffecterValue words
    else if is name (codes "getstate") then with_id GetStateEffecterStates words
    else field_command_named name words

abbrev pub byte_command_named : List ℕ → List (List ℕ) → Result Command LineFaultKind
byte_command_named name words =
    if is name (codes "settid") then with_byte SetTid words
    else if is name (codes "getversion") then with_byte (GetPldmVersion 0 GET_FIRST_PART) words
    else if is name (codes "getcommands")
    then with_byte (λ pldm_type. GetPldmCommands pldm_type (0 ∷ 0 ∷ 0 ∷ 0 ∷ [])) words
    else id_command_named name words

abbrev pub command_named : List ℕ → List (List ℕ) → Result Command LineFaultKind
command_named name words =
    if is name (codes "gettid") then bare GetTid words
    else if is name (codes "gettypes") then bare GetPldmTypes words
    else if is name (codes "pdrinfo") then bare GetPdrRepositoryInfo words
    else byte_command_named name words

abbrev pub command_of : List (List ℕ) → Result Command LineFaultKind
command_of [] = Err Words
command_of (name ∷ words) = command_named name words

-- the command that the words of a line say, where it has some
abbrev pub command_said : List (List ℕ) → Result (Option Command) LineFaultKind
command_said [] = Ok None
command_said (name ∷ words) = command_named name words >>= λ command. Ok (Some command)
