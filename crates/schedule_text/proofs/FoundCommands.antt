-- Words that spell a command are read as it.
use Rattle.std.proofs.Common.{◌≡◌, ℕ, Bool, true, false, List, [], ◌∷◌, length, None, Some, Ok, refl, sym, ap, ◌∙◌, inl, inr}
use Rattle.std.specs.Prelude.{codes, nat_le}
use Rattle.std.proofs.lemmas.Bool.{and_from, cond-true, cond-false, le-leb}
use Rattle.line_words.specs.Numbers.{number_of}
use Rattle.pldm_wire.specs.Sizes.{fits}
use Rattle.pldm_wire.specs.States.{is_composite}
use Rattle.pldm_wire.specs.declared.limits.TheConstants.{GET_FIRST_PART, MAX_STATES}
use Rattle.pldm_wire.specs.declared.state_fields.SetStateField.{SetStateField}
use Rattle.pldm_wire.specs.declared.command.Command.{Command}
use Rattle.pldm_wire.specs.declared.command.Command.TheVariants.{SetTid, GetTid, GetPldmVersion, GetPldmTypes, GetPldmCommands, GetSensorReading, GetStateSensorReadings, SetNumericEffecterValue, GetNumericEffecterValue, SetStateEffecterStates, GetStateEffecterStates, GetPdrRepositoryInfo, GetPdr}
use Rattle.schedule_text.specs.CommandSpelling.{Word, SpellsByte, SpellsId, SpellsState, SpellStates, SpellsPart, SpellsCommand}
use Rattle.schedule_text.specs.CommandWords.{is, or_words, size_in, sized_in, state_in, states_in, part_in, command_of}
use Rattle.schedule_text.specs.WordValues.{◌>>=◌, any_value, number_up_to, or_number}
use Rattle.schedule_text.specs.declared.word.TheConstants.{MAX_BYTE, MAX_ID, MAX_HANDLE}
use Rattle.schedule_text.proofs.SpelledWords.{bind_ok, is_parts}

byte_ok : {A : Type 0} (make : ℕ → A) (number : ℕ) (word : Word) → SpellsByte number word → (number_up_to MAX_BYTE word >>= λ n. Ok (make n)) ≡ Ok (make number)
byte_ok make number word spelled = bind_ok (number_up_to MAX_BYTE word) (λ n. Ok (make n)) number (make number) (ap or_number spelled) refl

id_ok : {A : Type 0} (make : ℕ → A) (id : ℕ) (word : Word) → SpellsId id word → (number_up_to MAX_ID word >>= λ n. Ok (make n)) ≡ Ok (make id)
id_ok make id word spelled = bind_ok (number_up_to MAX_ID word) (λ n. Ok (make n)) id (make id) (ap or_number spelled) refl

part_ok : (flag : ℕ) (word : Word) → SpellsPart flag word → part_in word ≡ Ok flag
part_ok flag word (inl (name, at)) = ap part_in name ∙ ap Ok (sym at)
part_ok flag word (inr (name, at)) = ap part_in name ∙ ap Ok (sym at)

-- a number is not `-`
number_is_no_dash : (state : ℕ) (word : Word) → SpellsByte state word → is word (codes "-") ≡ false
number_is_no_dash state word spelled = go (is word (codes "-")) refl
  where
    go : (b : Bool) → is word (codes "-") ≡ b → b ≡ false
    go false t = refl
    go true t = absurd (let wrong : None ≡ Some state = ap (number_of MAX_BYTE) (sym (is_parts word (codes "-") t)) ∙ spelled in cc)

state_ok : (field : SetStateField) (word : Word) → SpellsState field word → state_in word ≡ Ok field
state_ok field word (inl (name, at)) = ap state_in name ∙ ap Ok (sym at)
state_ok field word (inr (state, spelled, at)) =
    cond-false (is word (codes "-")) _ _ (number_is_no_dash state word spelled)
    ∙ byte_ok (λ state. let f : SetStateField = record { set_request = 1; state = state } in f) state word spelled
    ∙ ap Ok (sym at)

states_ok : (fields : List SetStateField) (words : List Word) → SpellStates fields words → states_in words ≡ Ok fields
states_ok [] [] spelled = refl
states_ok [] (word ∷ words) spelled = absurd spelled
states_ok (field ∷ fields) [] spelled = absurd spelled
states_ok (field ∷ fields) (word ∷ words) spelled =
    bind_ok (state_in word) (λ field. states_in words >>= λ fields. Ok (field ∷ fields)) field (field ∷ fields) (state_ok field word spelled.0)
    (bind_ok (states_in words) (λ fields. Ok (field ∷ fields)) fields (field ∷ fields) (states_ok fields words spelled.1) refl)

pub command_ok : (c : Command) (words : List Word) → SpellsCommand c words → command_of words ≡ Ok c
command_ok GetTid words e = ap command_of e
command_ok GetPldmTypes words e = ap command_of e
command_ok GetPdrRepositoryInfo words e = ap command_of e
command_ok (SetTid tid) words (word, e, s) = ap command_of e ∙ byte_ok SetTid tid word s
command_ok (GetPldmVersion handle flag pldm_type) words (after, h, f) =
    ap command_of after.1 ∙ byte_ok (GetPldmVersion 0 GET_FIRST_PART) pldm_type after.0 after.2 ∙ (λ i. Ok (GetPldmVersion (sym h i) (sym f i) pldm_type))
command_ok (GetPldmCommands pldm_type version) words (after, v) =
    ap command_of after.1 ∙ byte_ok (λ t. GetPldmCommands t (0 ∷ 0 ∷ 0 ∷ 0 ∷ [])) pldm_type after.0 after.2 ∙ ap (λ v. Ok (GetPldmCommands pldm_type v)) (sym v)
command_ok (GetSensorReading sensor rearm) words (after, r) =
    ap command_of after.1 ∙ id_ok (λ id. GetSensorReading id 0) sensor after.0 after.2 ∙ ap (λ r. Ok (GetSensorReading sensor r)) (sym r)
command_ok (GetStateSensorReadings sensor rearm) words (after, r) =
    ap command_of after.1 ∙ id_ok (λ id. GetStateSensorReadings id 0) sensor after.0 after.2 ∙ ap (λ r. Ok (GetStateSensorReadings sensor r)) (sym r)
command_ok (GetNumericEffecterValue effecter) words (word, e, s) = ap command_of e ∙ id_ok GetNumericEffecterValue effecter word s
command_ok (GetStateEffecterStates effecter) words (word, e, s) = ap command_of e ∙ id_ok GetStateEffecterStates effecter word s
command_ok (SetNumericEffecterValue effecter value) words (id, size, number, e, i, s, v, f) =
    ap command_of e
    ∙ bind_ok (size_in size) (λ size. number_up_to MAX_ID id >>= λ id. any_value number >>= λ value. sized_in size value >>= λ number. Ok (SetNumericEffecterValue id number)) value.size (SetNumericEffecterValue effecter value) (ap or_words s)
    (bind_ok (number_up_to MAX_ID id) (λ id. any_value number >>= λ v. sized_in value.size v >>= λ number. Ok (SetNumericEffecterValue id number)) effecter (SetNumericEffecterValue effecter value) (ap or_number i)
    (bind_ok (any_value number) (λ v. sized_in value.size v >>= λ number. Ok (SetNumericEffecterValue effecter number)) value.value (SetNumericEffecterValue effecter value) (ap or_number v)
    (bind_ok (sized_in value.size value.value) (λ number. Ok (SetNumericEffecterValue effecter number)) value (SetNumericEffecterValue effecter value) (cond-true (fits value.size value.value) _ _ f) refl)))
command_ok (SetStateEffecterStates effecter fields) words (id, states, e, i, count, s) =
    ap command_of e
    ∙ cond-true (is_composite states) _ _ (and_from (nat_le 1 (length states)) (nat_le (length states) MAX_STATES) (le-leb 1 (length states) count.0) (le-leb (length states) MAX_STATES count.1))
    ∙ bind_ok (number_up_to MAX_ID id) (λ id. states_in states >>= λ fields. Ok (SetStateEffecterStates id fields)) effecter (SetStateEffecterStates effecter fields) (ap or_number i)
    (bind_ok (states_in states) (λ fields. Ok (SetStateEffecterStates effecter fields)) fields (SetStateEffecterStates effecter fields) (states_ok fields states s) refl)
command_ok (GetPdr record_handle transfer_handle flag count change) words (handle, transfer, part, most, e, h, t, p, c, z) =
    ap command_of e
    ∙ bind_ok (part_in part) (λ part. number_up_to MAX_HANDLE handle >>= λ handle. number_up_to MAX_HANDLE transfer >>= λ transfer. number_up_to MAX_ID most >>= λ count. Ok (GetPdr handle transfer part count 0)) flag (GetPdr record_handle transfer_handle flag count 0) (part_ok flag part p)
    (bind_ok (number_up_to MAX_HANDLE handle) (λ handle. number_up_to MAX_HANDLE transfer >>= λ transfer. number_up_to MAX_ID most >>= λ count. Ok (GetPdr handle transfer flag count 0)) record_handle (GetPdr record_handle transfer_handle flag count 0) (ap or_number h)
    (bind_ok (number_up_to MAX_HANDLE transfer) (λ transfer. number_up_to MAX_ID most >>= λ count. Ok (GetPdr record_handle transfer flag count 0)) transfer_handle (GetPdr record_handle transfer_handle flag count 0) (ap or_number t)
    (id_ok (λ count. GetPdr record_handle transfer_handle flag count 0) count most c)))
    ∙ ap (λ z. Ok (GetPdr record_handle transfer_handle flag count z)) (sym z)
