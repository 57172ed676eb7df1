-- The states of `setstate`, word by word.
use Rattle.std.proofs.Common.{◌≡◌, ℕ, ◌+◌, ◌<◌, false, List, [], ◌∷◌, ◌++◌, length, get_or, drop, Result, Ok, Err, refl, sym, ap, ◌∙◌, append_assoc, arith}
use Rattle.std.proofs.lemmas.Bool.Decides.{nat_tests}
use Rattle.std.proofs.lemmas.List.{at_drop_more}
use Rattle.pldm_wire.specs.States.{is_composite}
use Rattle.pldm_wire.specs.declared.limits.TheConstants.{MAX_STATES}
use Rattle.pldm_wire.specs.declared.state_fields.SetStateField.{SetStateField}
use Rattle.schedule_text.specs.declared.line_fault.LineFaultKind.{LineFaultKind}
use Rattle.schedule_text.specs.CommandWords.{state_in, states_in}
use Rattle.schedule_text.specs.WordValues.{◌>>=◌}

-- there may not be more states than a command has room for
pub many_states : (states : List (List ℕ)) → MAX_STATES < length states → is_composite states ≡ false
many_states states many = grind (arith, nat_tests)

-- what is read after these fields
abbrev pub onto : List SetStateField → Result (List SetStateField) LineFaultKind → Result (List SetStateField) LineFaultKind
onto front (Ok fields) = Ok (front ++ fields)
onto front (Err kind) = Err kind

one_word : (front : List SetStateField) (word : List ℕ) (words : List (List ℕ)) (field : SetStateField) → state_in word ≡ Ok field → onto front (states_in (word ∷ words)) ≡ onto (front ++ field ∷ []) (states_in words)
one_word front word words field e =
    ap (λ read. onto front (read >>= λ field. states_in words >>= λ fields. Ok (field ∷ fields))) e ∙ go (states_in words)
  where
    go : (read : Result (List SetStateField) LineFaultKind) → onto front (read >>= λ fields. Ok (field ∷ fields)) ≡ onto (front ++ field ∷ []) read
    go (Ok fields) = ap Ok (sym (append_assoc front (field ∷ []) fields))
    go (Err kind) = refl

-- one more word is read, or refused
pub next_field : (front : List SetStateField) (words : List (List ℕ)) (index : ℕ) (word : List ℕ) (field : SetStateField) (read : Result (List SetStateField) LineFaultKind) → index < length words → word ≡ get_or words index word → state_in word ≡ Ok field → read ≡ onto front (states_in (drop index words)) → read ≡ onto (front ++ field ∷ []) (states_in (drop (index + 1) words))
next_field front words index word field read within at is before =
    before ∙ ap (onto front) (at_drop_more states_in words index word within ∙ ap (λ w. states_in (w ∷ drop (index + 1) words)) (sym at)) ∙ one_word front word (drop (index + 1) words) field is

pub no_field : (front : List SetStateField) (words : List (List ℕ)) (index : ℕ) (word : List ℕ) (kind : LineFaultKind) (read : Result (List SetStateField) LineFaultKind) → index < length words → word ≡ get_or words index word → state_in word ≡ Err kind → read ≡ onto front (states_in (drop index words)) → read ≡ Err kind
no_field front words index word kind read within at is before =
    before ∙ ap (onto front) (at_drop_more states_in words index word within ∙ ap (λ w. states_in (w ∷ drop (index + 1) words)) (sym at) ∙ ap (λ read. read >>= λ field. states_in (drop (index + 1) words) >>= λ fields. Ok (field ∷ fields)) is)
