-- The words that spell each command, a row each.
use Rattle.std.specs.Prelude.{◌≡◌, ◌⊎◌, ℕ, true, codes, List, [], ◌∷◌, Some}
use Rattle.line_words.specs.Numbers.{number_of, value_of}
use Rattle.pldm_wire.specs.Sizes.{fits}
use Rattle.pldm_wire.specs.SizeNames.{size_named}
use Rattle.pldm_wire.specs.States.{IsComposite}
use Rattle.pldm_wire.specs.declared.limits.TheConstants.{GET_FIRST_PART, GET_NEXT_PART}
use Rattle.pldm_wire.specs.declared.state_fields.SetStateField.{SetStateField}
use Rattle.pldm_wire.specs.declared.command.Command.{Command}
use Rattle.pldm_wire.specs.declared.command.Command.TheVariants.{SetTid, GetTid, GetPldmVersion, GetPldmTypes, GetPldmCommands, GetSensorReading, GetStateSensorReadings, SetNumericEffecterValue, GetNumericEffecterValue, SetStateEffecterStates, GetStateEffecterStates, GetPdrRepositoryInfo, GetPdr}
use Rattle.schedule_text.specs.declared.word.TheConstants.{MAX_BYTE, MAX_ID, MAX_HANDLE}

abbrev pub Word : Type 0
Word = List ℕ

-- the word is this number, which is at most `most`
abbrev pub SpellsNumber : ℕ → ℕ → Word → Type 0
SpellsNumber most number word = number_of most word ≡ Some number

abbrev pub SpellsByte : ℕ → Word → Type 0
SpellsByte number word = SpellsNumber MAX_BYTE number word

abbrev pub SpellsId : ℕ → Word → Type 0
SpellsId id word = SpellsNumber MAX_ID id word

abbrev pub SpellsHandle : ℕ → Word → Type 0
SpellsHandle handle word = SpellsNumber MAX_HANDLE handle word

-- a name, then one word for a byte or an ID

abbrev pub ByteAfter : Word → ℕ → List Word → Type 0
ByteAfter name number words = (word : Word) × (words ≡ name ∷ word ∷ []) × SpellsByte number word

abbrev pub IdAfter : Word → ℕ → List Word → Type 0
IdAfter name id words = (word : Word) × (words ≡ name ∷ word ∷ []) × SpellsId id word

-- `-` leaves a field as it is, a number asks for that state
abbrev pub SpellsState : SetStateField → Word → Type 0
SpellsState field word =
    ((word ≡ codes "-") × (field ≡ record { set_request = 0; state = 0 }))
    ⊎ ((state : ℕ) × SpellsByte state word × (field ≡ record { set_request = 1; state = state }))

-- a word for each field
abbrev pub SpellStates : List SetStateField → List Word → Type 0
SpellStates [] [] = Unit {0}
SpellStates [] (word ∷ words) = ⊥
SpellStates (field ∷ fields) [] = ⊥
SpellStates (field ∷ fields) (word ∷ words) = SpellsState field word × SpellStates fields words

abbrev pub SpellsPart : ℕ → Word → Type 0
SpellsPart flag word =
    ((word ≡ codes "first") × (flag ≡ GET_FIRST_PART)) ⊎ ((word ≡ codes "next") × (flag ≡ GET_NEXT_PART))

-- the words spell the command
abbrev pub SpellsCommand : Command → List Word → Type 0
SpellsCommand GetTid words = words ≡ codes "gettid" ∷ []
SpellsCommand (SetTid tid) words = ByteAfter (codes "settid") tid words
SpellsCommand (GetPldmVersion handle flag pldm_type) words =
    ByteAfter (codes "getversion") pldm_type words × (handle ≡ 0) × (flag ≡ GET_FIRST_PART)
SpellsCommand GetPldmTypes words = words ≡ codes "gettypes" ∷ []
SpellsCommand (GetPldmCommands pldm_type version) words =
    ByteAfter (codes "getcommands") pldm_type words × (version ≡ 0 ∷ 0 ∷ 0 ∷ 0 ∷ [])
SpellsCommand (GetSensorReading sensor rearm) words = IdAfter (codes "sensor") sensor words × (rearm ≡ 0)
SpellsCommand (GetStateSensorReadings sensor rearm) words = IdAfter (codes "statesensors") sensor words × (rearm ≡ 0)
SpellsCommand (SetNumericEffecterValue effecter value) words =
    (id : Word) × (size : Word) × (number : Word) × (words ≡ codes "setnum" ∷ id ∷ size ∷ number ∷ [])
    × SpellsId effecter id × (size_named size ≡ Some value.size) × (value_of number ≡ Some value.value)
    × (fits value.size value.value ≡ true)
SpellsCommand (GetNumericEffecterValue effecter) words = IdAfter (codes "getnum") effecter words
SpellsCommand (SetStateEffecterStates effecter fields) words =
    (id : Word) × (states : List Word) × (words ≡ codes "setstate" ∷ id ∷ states)
    × SpellsId effecter id × IsComposite states × SpellStates fields states
SpellsCommand (GetStateEffecterStates effecter) words = IdAfter (codes "getstate") effecter words
SpellsCommand GetPdrRepositoryInfo words = words ≡ codes "pdrinfo" ∷ []
SpellsCommand (GetPdr record_handle transfer_handle flag count change) words =
    (handle : Word) × (transfer : Word) × (part : Word) × (most : Word)
    × (words ≡ codes "getpdr" ∷ handle ∷ transfer ∷ part ∷ most ∷ [])
    × SpellsHandle record_handle handle × SpellsHandle transfer_handle transfer × SpellsPart flag part
    × SpellsId count most × (change ≡ 0)
