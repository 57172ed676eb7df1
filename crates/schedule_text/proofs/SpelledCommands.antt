-- A command is read exactly where its words spell it.
use Rattle.std.proofs.Common.{◌≡◌, ℕ, Bool, true, false, List, [], ◌∷◌, length, Option, None, Some, Ok, Err, refl, sym, ap, ◌∙◌, subst, inl, inr}
use Rattle.std.specs.Prelude.{codes, ℤ, nat_le}
use Rattle.std.proofs.lemmas.Bool.{and_parts, cond-true, cond-false, leb-true}
use Rattle.line_words.specs.Numbers.{number_of, value_of}
use Rattle.pldm_wire.specs.Numbers.{SizedNumber, sized}
use Rattle.pldm_wire.specs.Sizes.{fits}
use Rattle.pldm_wire.specs.SizeNames.{size_named}
use Rattle.pldm_wire.specs.States.{is_composite}
use Rattle.pldm_wire.specs.declared.limits.TheConstants.{GET_FIRST_PART, GET_NEXT_PART, MAX_STATES}
use Rattle.pldm_wire.specs.declared.size.Size.{Size}
use Rattle.pldm_wire.specs.declared.state_fields.SetStateField.{SetStateField}
use Rattle.pldm_wire.specs.declared.command.Command.{Command}
use Rattle.pldm_wire.specs.declared.command.Command.TheVariants.{SetTid, GetTid, GetPldmVersion, GetPldmTypes, GetPldmCommands, GetSensorReading, GetStateSensorReadings, SetNumericEffecterValue, GetNumericEffecterValue, SetStateEffecterStates, GetStateEffecterStates, GetPdrRepositoryInfo, GetPdr}
use Rattle.schedule_text.specs.CommandSpelling.{Word, ByteAfter, IdAfter, SpellsState, SpellStates, SpellsPart, SpellsCommand}
use Rattle.schedule_text.specs.CommandWords.{bare, byte_of, id_of, only_word, or_words, with_byte, with_id, size_in, sized_in, setnum_of, state_in, states_in, setstate_of, part_in, getpdr_of, field_command_named, id_command_named, byte_command_named, command_of}
use Rattle.schedule_text.specs.WordValues.{◌>>=◌, any_value, number_up_to}
use Rattle.schedule_text.specs.declared.word.TheConstants.{MAX_BYTE, MAX_ID, MAX_HANDLE}
use Rattle.schedule_text.specs.declared.line_fault.LineFaultKind.TheVariants.{Words}
use Rattle.schedule_text.proofs.SpelledWords.{bind_parts, number_parts, by_name, only_parts}

-- ---- what is read is spelled

bare_parts : (command c : Command) (words : List Word) → bare command words ≡ Ok c → (c ≡ command) × (words ≡ [])
bare_parts command c [] e = (let same : Ok command ≡ Ok c = e in cc, refl)
bare_parts command c (word ∷ words) e = absurd (let wrong : bare command (word ∷ words) ≡ Ok c = e in cc)

byte_parts : (name : Word) (make : ℕ → Command) (words : List Word) (c : Command) → with_byte make words ≡ Ok c → (number : ℕ) × (c ≡ make number) × ByteAfter name number (name ∷ words)
byte_parts name make words c e =
    let read = bind_parts (byte_of words) (λ number. Ok (make number)) c e in
    let word = bind_parts (only_word words) (number_up_to MAX_BYTE) read.0 read.1 in (
      read.0,
      let same : Ok (make read.0) ≡ Ok c = read.2 in cc,
      (word.0, ap (λ ws. name ∷ ws) (only_parts words word.0 word.1), number_parts (number_of MAX_BYTE word.0) read.0 word.2),
    )

id_parts : (name : Word) (make : ℕ → Command) (words : List Word) (c : Command) → with_id make words ≡ Ok c → (id : ℕ) × (c ≡ make id) × IdAfter name id (name ∷ words)
id_parts name make words c e =
    let read = bind_parts (id_of words) (λ id. Ok (make id)) c e in
    let word = bind_parts (only_word words) (number_up_to MAX_ID) read.0 read.1 in (
      read.0,
      let same : Ok (make read.0) ≡ Ok c = read.2 in cc,
      (word.0, ap (λ ws. name ∷ ws) (only_parts words word.0 word.1), number_parts (number_of MAX_ID word.0) read.0 word.2),
    )

size_parts : (word : Word) (size : Size) → size_in word ≡ Ok size → size_named word ≡ Some size
size_parts word size e = go (size_named word) e
  where
    go : (o : Option Size) → or_words o ≡ Ok size → o ≡ Some size
    go None f = absurd (let wrong : or_words None ≡ Ok size = f in cc)
    go (Some s) f = let same : Ok s ≡ Ok size = f in cc

sized_parts : (size : Size) (value : ℤ) (number : SizedNumber) → sized_in size value ≡ Ok number → (number ≡ sized size value) × (fits size value ≡ true)
sized_parts size value number e = go (fits size value) refl e
  where
    go : (b : Bool) → fits size value ≡ b → sized_in size value ≡ Ok number → (number ≡ sized size value) × (fits size value ≡ true)
    go true t f = (let same : Ok (sized size value) ≡ Ok number = sym (cond-true (fits size value) _ _ t) ∙ f in cc, t)
    go false t f = absurd (let wrong = sym (cond-false (fits size value) _ _ t) ∙ f in cc)

part_parts : (word : Word) (flag : ℕ) → part_in word ≡ Ok flag → SpellsPart flag word
part_parts word flag e =
    by_name word (codes "first") (Ok GET_FIRST_PART) _ flag e
    (λ name f. inl (name, let same : Ok GET_FIRST_PART ≡ Ok flag = f in cc))
    (λ f. by_name word (codes "next") (Ok GET_NEXT_PART) (Err Words) flag f
    (λ name g. inr (name, let same : Ok GET_NEXT_PART ≡ Ok flag = g in cc))
    (λ g. absurd (let wrong : Err Words ≡ Ok flag = g in cc)))

state_parts : (word : Word) (field : SetStateField) → state_in word ≡ Ok field → SpellsState field word
state_parts word field e =
    by_name word (codes "-") (Ok (record { set_request = 0; state = 0 })) _ field e
    (λ name f. inl (name, let same : Ok (record { set_request = 0; state = 0 }) ≡ Ok field = f in cc))
    (λ f.
    let read = bind_parts (number_up_to MAX_BYTE word) (λ state. Ok (record { set_request = 1; state = state })) field f in
    inr (read.0, number_parts (number_of MAX_BYTE word) read.0 read.1, let same : Ok (record { set_request = 1; state = read.0 }) ≡ Ok field = read.2 in cc))

states_parts : (words : List Word) (fields : List SetStateField) → states_in words ≡ Ok fields → SpellStates fields words
states_parts [] [] e = tt
states_parts [] (field ∷ fields) e = absurd (let wrong : states_in [] ≡ Ok (field ∷ fields) = e in cc)
states_parts (word ∷ words) fields e =
    let read = bind_parts (state_in word) (λ field. states_in words >>= λ fields. Ok (field ∷ fields)) fields e in
    let more = bind_parts (states_in words) (λ fields. Ok (read.0 ∷ fields)) fields read.2 in
    let whole : read.0 ∷ more.0 ≡ fields = (let same : Ok (read.0 ∷ more.0) ≡ Ok fields = more.2 in cc) in
    subst (λ fs. SpellStates fs (word ∷ words)) whole (state_parts word read.0 read.1, states_parts words more.0 more.1)

setnum_parts : (words : List Word) (c : Command) → setnum_of words ≡ Ok c → SpellsCommand c (codes "setnum" ∷ words)
setnum_parts (id ∷ size ∷ value ∷ []) c e =
    let read_size = bind_parts (size_in size) (λ size. number_up_to MAX_ID id >>= λ id. any_value value >>= λ value. sized_in size value >>= λ number. Ok (SetNumericEffecterValue id number)) c e in
    let read_id = bind_parts (number_up_to MAX_ID id) (λ id. any_value value >>= λ value. sized_in read_size.0 value >>= λ number. Ok (SetNumericEffecterValue id number)) c read_size.2 in
    let read_value = bind_parts (any_value value) (λ value. sized_in read_size.0 value >>= λ number. Ok (SetNumericEffecterValue read_id.0 number)) c read_id.2 in
    let read_number = bind_parts (sized_in read_size.0 read_value.0) (λ number. Ok (SetNumericEffecterValue read_id.0 number)) c read_value.2 in
    let number = sized_parts read_size.0 read_value.0 read_number.0 read_number.1 in
    let whole : SetNumericEffecterValue read_id.0 (sized read_size.0 read_value.0) ≡ c = ap (λ n. SetNumericEffecterValue read_id.0 n) (sym number.0) ∙ (let same : Ok (SetNumericEffecterValue read_id.0 read_number.0) ≡ Ok c = read_number.2 in let found : SetNumericEffecterValue read_id.0 read_number.0 ≡ c = cc in found) in
    subst (λ c. SpellsCommand c (codes "setnum" ∷ id ∷ size ∷ value ∷ [])) whole
    (id, size, value, refl, number_parts (number_of MAX_ID id) read_id.0 read_id.1, size_parts size read_size.0 read_size.1, number_parts (value_of value) read_value.0 read_value.1, number.1)
setnum_parts [] c e = absurd (let wrong : Err Words ≡ Ok c = e in cc)
setnum_parts (id ∷ []) c e = absurd (let wrong : Err Words ≡ Ok c = e in cc)
setnum_parts (id ∷ size ∷ []) c e = absurd (let wrong : Err Words ≡ Ok c = e in cc)
setnum_parts (id ∷ size ∷ value ∷ more ∷ words) c e = absurd (let wrong : Err Words ≡ Ok c = e in cc)

setstate_parts : (words : List Word) (c : Command) → setstate_of words ≡ Ok c → SpellsCommand c (codes "setstate" ∷ words)
setstate_parts [] c e = absurd (let wrong : Err Words ≡ Ok c = e in cc)
setstate_parts (id ∷ states) c e = go (is_composite states) refl
  where
    go : (b : Bool) → is_composite states ≡ b → SpellsCommand c (codes "setstate" ∷ id ∷ states)
    go false t = absurd (let wrong = sym (cond-false (is_composite states) _ _ t) ∙ e in cc)
    go true t =
        let count = and_parts (nat_le 1 (length states)) (nat_le (length states) MAX_STATES) t in
        let read_id = bind_parts (number_up_to MAX_ID id) (λ id. states_in states >>= λ fields. Ok (SetStateEffecterStates id fields)) c (sym (cond-true (is_composite states) _ _ t) ∙ e) in
        let read_states = bind_parts (states_in states) (λ fields. Ok (SetStateEffecterStates read_id.0 fields)) c read_id.2 in
        let whole : SetStateEffecterStates read_id.0 read_states.0 ≡ c = (let same : Ok (SetStateEffecterStates read_id.0 read_states.0) ≡ Ok c = read_states.2 in cc) in
        subst (λ c. SpellsCommand c (codes "setstate" ∷ id ∷ states)) whole
        (id, states, refl, number_parts (number_of MAX_ID id) read_id.0 read_id.1, (leb-true 1 (length states) count.0, leb-true (length states) MAX_STATES count.1), states_parts states read_states.0 read_states.1)

getpdr_parts : (words : List Word) (c : Command) → getpdr_of words ≡ Ok c → SpellsCommand c (codes "getpdr" ∷ words)
getpdr_parts (handle ∷ transfer ∷ part ∷ most ∷ []) c e =
    let read_part = bind_parts (part_in part) (λ part. number_up_to MAX_HANDLE handle >>= λ handle. number_up_to MAX_HANDLE transfer >>= λ transfer. number_up_to MAX_ID most >>= λ count. Ok (GetPdr handle transfer part count 0)) c e in
    let read_handle = bind_parts (number_up_to MAX_HANDLE handle) (λ handle. number_up_to MAX_HANDLE transfer >>= λ transfer. number_up_to MAX_ID most >>= λ count. Ok (GetPdr handle transfer read_part.0 count 0)) c read_part.2 in
    let read_transfer = bind_parts (number_up_to MAX_HANDLE transfer) (λ transfer. number_up_to MAX_ID most >>= λ count. Ok (GetPdr read_handle.0 transfer read_part.0 count 0)) c read_handle.2 in
    let read_count = bind_parts (number_up_to MAX_ID most) (λ count. Ok (GetPdr read_handle.0 read_transfer.0 read_part.0 count 0)) c read_transfer.2 in
    let whole : GetPdr read_handle.0 read_transfer.0 read_part.0 read_count.0 0 ≡ c = (let same : Ok (GetPdr read_handle.0 read_transfer.0 read_part.0 read_count.0 0) ≡ Ok c = read_count.2 in cc) in
    subst (λ c. SpellsCommand c (codes "getpdr" ∷ handle ∷ transfer ∷ part ∷ most ∷ [])) whole
    (handle, transfer, part, most, refl, number_parts (number_of MAX_HANDLE handle) read_handle.0 read_handle.1, number_parts (number_of MAX_HANDLE transfer) read_transfer.0 read_transfer.1, part_parts part read_part.0 read_part.1, number_parts (number_of MAX_ID most) read_count.0 read_count.1, refl)
getpdr_parts [] c e = absurd (let wrong : Err Words ≡ Ok c = e in cc)
getpdr_parts (handle ∷ []) c e = absurd (let wrong : Err Words ≡ Ok c = e in cc)
getpdr_parts (handle ∷ transfer ∷ []) c e = absurd (let wrong : Err Words ≡ Ok c = e in cc)
getpdr_parts (handle ∷ transfer ∷ part ∷ []) c e = absurd (let wrong : Err Words ≡ Ok c = e in cc)
getpdr_parts (handle ∷ transfer ∷ part ∷ most ∷ more ∷ words) c e = absurd (let wrong : Err Words ≡ Ok c = e in cc)

-- under its name

abbrev Named : Command → Word → List Word → Type 0
Named c name words = SpellsCommand c (name ∷ words)

named : (c : Command) (name spelling : Word) (words : List Word) → name ≡ spelling → SpellsCommand c (spelling ∷ words) → Named c name words
named c name spelling words same spelled = subst (λ n. SpellsCommand c (n ∷ words)) (sym same) spelled

bare_named : (command c : Command) (words : List Word) (spelling : Word) → ((words : List Word) → words ≡ spelling ∷ [] → SpellsCommand command words) → bare command words ≡ Ok c → SpellsCommand c (spelling ∷ words)
bare_named command c words spelling row e =
    let parts = bare_parts command c words e in
    subst (λ d. SpellsCommand d (spelling ∷ words)) (sym parts.0) (row (spelling ∷ words) (ap (λ ws. spelling ∷ ws) parts.1))

byte_named : (make : ℕ → Command) (c : Command) (words : List Word) (spelling : Word) → ((number : ℕ) → ByteAfter spelling number (spelling ∷ words) → SpellsCommand (make number) (spelling ∷ words)) → with_byte make words ≡ Ok c → SpellsCommand c (spelling ∷ words)
byte_named make c words spelling row e =
    let parts = byte_parts spelling make words c e in
    subst (λ d. SpellsCommand d (spelling ∷ words)) (sym parts.1) (row parts.0 parts.2)

id_named : (make : ℕ → Command) (c : Command) (words : List Word) (spelling : Word) → ((id : ℕ) → IdAfter spelling id (spelling ∷ words) → SpellsCommand (make id) (spelling ∷ words)) → with_id make words ≡ Ok c → SpellsCommand c (spelling ∷ words)
id_named make c words spelling row e =
    let parts = id_parts spelling make words c e in
    subst (λ d. SpellsCommand d (spelling ∷ words)) (sym parts.1) (row parts.0 parts.2)

field_command_parts : (name : Word) (words : List Word) (c : Command) → field_command_named name words ≡ Ok c → Named c name words
field_command_parts name words c e =
    by_name name (codes "setnum") _ _ c e (λ n f. named c name _ words n (setnum_parts words c f)) (λ e.
    by_name name (codes "setstate") _ _ c e (λ n f. named c name _ words n (setstate_parts words c f)) (λ e.
    by_name name (codes "getpdr") _ _ c e (λ n f. named c name _ words n (getpdr_parts words c f)) (λ e.
    absurd (let wrong : Err Words ≡ Ok c = e in cc))))

id_command_parts : (name : Word) (words : List Word) (c : Command) → id_command_named name words ≡ Ok c → Named c name words
id_command_parts name words c e =
    by_name name (codes "sensor") _ _ c e (λ n f. named c name _ words n (id_named (λ id. GetSensorReading id 0) c words (codes "sensor") (λ id after. (after, refl)) f)) (λ e.
    by_name name (codes "statesensors") _ _ c e (λ n f. named c name _ words n (id_named (λ id. GetStateSensorReadings id 0) c words (codes "statesensors") (λ id after. (after, refl)) f)) (λ e.
    by_name name (codes "getnum") _ _ c e (λ n f. named c name _ words n (id_named GetNumericEffecterValue c words (codes "getnum") (λ id after. after) f)) (λ e.
    by_name name (codes "getstate") _ _ c e (λ n f. named c name _ words n (id_named GetStateEffecterStates c words (codes "getstate") (λ id after. after) f)) (λ e.
    field_command_parts name words c e))))

byte_command_parts : (name : Word) (words : List Word) (c : Command) → byte_command_named name words ≡ Ok c → Named c name words
byte_command_parts name words c e =
    by_name name (codes "settid") _ _ c e (λ n f. named c name _ words n (byte_named SetTid c words (codes "settid") (λ number after. after) f)) (λ e.
    by_name name (codes "getversion") _ _ c e (λ n f. named c name _ words n (byte_named (GetPldmVersion 0 GET_FIRST_PART) c words (codes "getversion") (λ number after. (after, refl, refl)) f)) (λ e.
    by_name name (codes "getcommands") _ _ c e (λ n f. named c name _ words n (byte_named (λ pldm_type. GetPldmCommands pldm_type (0 ∷ 0 ∷ 0 ∷ 0 ∷ [])) c words (codes "getcommands") (λ number after. (after, refl)) f)) (λ e.
    id_command_parts name words c e)))

pub command_parts : (words : List Word) (c : Command) → command_of words ≡ Ok c → SpellsCommand c words
command_parts [] c e = absurd (let wrong : Err Words ≡ Ok c = e in cc)
command_parts (name ∷ words) c e =
    by_name name (codes "gettid") _ _ c e (λ n f. named c name _ words n (bare_named GetTid c words (codes "gettid") (λ ws is. is) f)) (λ e.
    by_name name (codes "gettypes") _ _ c e (λ n f. named c name _ words n (bare_named GetPldmTypes c words (codes "gettypes") (λ ws is. is) f)) (λ e.
    by_name name (codes "pdrinfo") _ _ c e (λ n f. named c name _ words n (bare_named GetPdrRepositoryInfo c words (codes "pdrinfo") (λ ws is. is) f)) (λ e.
    byte_command_parts name words c e)))
