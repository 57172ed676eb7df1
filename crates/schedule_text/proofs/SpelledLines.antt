-- A line is read as something exactly where its words spell that.
use Rattle.std.proofs.Common.{◌≡◌, ℕ, Bool, true, false, List, [], ◌∷◌, Some, Result, Ok, Err, refl, sym, ap, ◌∙◌, subst}
use Rattle.std.specs.Prelude.{codes, ◌&&◌}
use Rattle.std.proofs.lemmas.Bool.{and_parts, cond-true, cond-false}
use Rattle.line_words.specs.Numbers.{decimal_of, number_of, value_of}
use Rattle.mctp_packet.specs.declared.TheConstants.{MAX_MOMENT}
use Rattle.schedule_text.specs.CommandSpelling.{Word}
use Rattle.schedule_text.specs.CommandWords.{is, only_word, command_of}
use Rattle.schedule_text.specs.Laws.{ReadAsSpelled}
use Rattle.schedule_text.specs.LineSpelling.{SpellsAny, SpellsAction, SpellsLine}
use Rattle.schedule_text.specs.LineWords.{action_named, line_of, only_eid, only_number, open_of, reply_of, requester_of, restart_of, sense_of, step_of}
use Rattle.schedule_text.specs.WordValues.{◌>>=◌, any_number, any_value, eid_in, moment_in, number_up_to, or_number}
use Rattle.schedule_text.specs.declared.word.TheConstants.{MAX_BYTE, MAX_ID, MAX_TIMEOUT}
use Rattle.schedule_text.specs.SaidLines.{Line}
use Rattle.schedule_text.specs.SaidLines as lines
use Rattle.schedule_text.specs.declared.line_fault.LineFaultKind.{LineFaultKind}
use Rattle.schedule_text.specs.declared.line_fault.LineFaultKind.TheVariants.{Words}
use Rattle.schedule_text.specs.declared.step.Step.{Step}
use Rattle.schedule_text.specs.declared.step.Action.{Action}
use Rattle.schedule_text.specs.declared.step.Action.TheVariants.{Open, Tick, Request, Reply, Sense, Restart, Busy}
use Rattle.schedule_text.proofs.SpelledWords.{bind_parts, bind_ok, number_parts, is_parts, by_name, only_parts, eid_parts, eid_ok}
use Rattle.schedule_text.proofs.SpelledCommands.{command_parts}
use Rattle.schedule_text.proofs.FoundCommands.{command_ok}

-- ---- what is read is spelled

open_parts : (words : List Word) (a : Action) → open_of words ≡ Ok a → SpellsAction a (codes "open" ∷ words)
open_parts [] a e = absurd (let wrong : Err Words ≡ Ok a = e in cc)
open_parts (eid ∷ words) a e =
    let read = bind_parts (command_of words) (λ command. eid_in eid >>= λ eid. Ok (Open eid command)) a e in
    let read_eid = bind_parts (eid_in eid) (λ eid. Ok (Open eid read.0)) a read.2 in
    let whole : Open read_eid.0 read.0 ≡ a = (let same : Ok (Open read_eid.0 read.0) ≡ Ok a = read_eid.2 in cc) in
    subst (λ a. SpellsAction a (codes "open" ∷ eid ∷ words)) whole (eid, words, refl, eid_parts eid read_eid.0 read_eid.1, command_parts words read.0 read.1)

tick_parts : (words : List Word) (a : Action) → (only_eid words >>= λ eid. Ok (Tick eid)) ≡ Ok a → SpellsAction a (codes "tick" ∷ words)
tick_parts words a e =
    let read = bind_parts (only_eid words) (λ eid. Ok (Tick eid)) a e in
    let word = bind_parts (only_word words) eid_in read.0 read.1 in
    let whole : Tick read.0 ≡ a = (let same : Ok (Tick read.0) ≡ Ok a = read.2 in cc) in
    subst (λ a. SpellsAction a (codes "tick" ∷ words)) whole (word.0, ap (λ ws. codes "tick" ∷ ws) (only_parts words word.0 word.1), eid_parts word.0 read.0 word.2)

only_number_parts : (make : ℕ → Action) (spelling : Word) (words : List Word) (a : Action) → (only_number words >>= λ number. Ok (make number)) ≡ Ok a → (number : ℕ) × (a ≡ make number) × ((k : Word) × (spelling ∷ words ≡ spelling ∷ k ∷ []) × SpellsAny number k)
only_number_parts make spelling words a e =
    let read = bind_parts (only_number words) (λ number. Ok (make number)) a e in
    let word = bind_parts (only_word words) any_number read.0 read.1 in (
      read.0,
      let same : Ok (make read.0) ≡ Ok a = read.2 in cc,
      (word.0, ap (λ ws. spelling ∷ ws) (only_parts words word.0 word.1), number_parts (decimal_of word.0) read.0 word.2),
    )

reply_parts : (words : List Word) (a : Action) → reply_of words ≡ Ok a → SpellsAction a (codes "rep" ∷ words)
reply_parts [] a e = absurd (let wrong : Err Words ≡ Ok a = e in cc)
reply_parts (k ∷ []) a e = absurd (let wrong : Err Words ≡ Ok a = e in cc)
reply_parts (k ∷ j ∷ more ∷ words) a e = absurd (let wrong : Err Words ≡ Ok a = e in cc)
reply_parts (k ∷ j ∷ []) a e =
    let read = bind_parts (any_number k) (λ number. number_up_to MAX_BYTE j >>= λ packet. Ok (Reply packet number)) a e in
    let read_packet = bind_parts (number_up_to MAX_BYTE j) (λ packet. Ok (Reply packet read.0)) a read.2 in
    let whole : Reply read_packet.0 read.0 ≡ a = (let same : Ok (Reply read_packet.0 read.0) ≡ Ok a = read_packet.2 in cc) in
    subst (λ a. SpellsAction a (codes "rep" ∷ k ∷ j ∷ [])) whole (k, j, refl, number_parts (decimal_of k) read.0 read.1, number_parts (number_of MAX_BYTE j) read_packet.0 read_packet.1)

sense_parts : (words : List Word) (a : Action) → sense_of words ≡ Ok a → SpellsAction a (codes "sense" ∷ words)
sense_parts [] a e = absurd (let wrong : Err Words ≡ Ok a = e in cc)
sense_parts (id ∷ []) a e = absurd (let wrong : Err Words ≡ Ok a = e in cc)
sense_parts (id ∷ value ∷ more ∷ words) a e = absurd (let wrong : Err Words ≡ Ok a = e in cc)
sense_parts (id ∷ value ∷ []) a e =
    let read = bind_parts (number_up_to MAX_ID id) (λ id. any_value value >>= λ value. Ok (Sense id value)) a e in
    let read_value = bind_parts (any_value value) (λ value. Ok (Sense read.0 value)) a read.2 in
    let whole : Sense read.0 read_value.0 ≡ a = (let same : Ok (Sense read.0 read_value.0) ≡ Ok a = read_value.2 in cc) in
    subst (λ a. SpellsAction a (codes "sense" ∷ id ∷ value ∷ [])) whole (id, value, refl, number_parts (number_of MAX_ID id) read.0 read.1, number_parts (value_of value) read_value.0 read_value.1)

restart_parts : (words : List Word) (a : Action) → restart_of words ≡ Ok a → SpellsAction a (codes "restart" ∷ words)
restart_parts [] a e = subst (λ a. SpellsAction a (codes "restart" ∷ [])) (let same : Ok Restart ≡ Ok a = e in let found : Restart ≡ a = cc in found) refl
restart_parts (word ∷ words) a e = absurd (let wrong : Err Words ≡ Ok a = e in cc)

named : (a : Action) (name spelling : Word) (words : List Word) → name ≡ spelling → SpellsAction a (spelling ∷ words) → SpellsAction a (name ∷ words)
named a name spelling words same spelled = subst (λ n. SpellsAction a (n ∷ words)) (sym same) spelled

number_named : (make : ℕ → Action) (a : Action) (words : List Word) (spelling : Word) → ((number : ℕ) → ((k : Word) × (spelling ∷ words ≡ spelling ∷ k ∷ []) × SpellsAny number k) → SpellsAction (make number) (spelling ∷ words)) → (only_number words >>= λ number. Ok (make number)) ≡ Ok a → SpellsAction a (spelling ∷ words)
number_named make a words spelling row e =
    let parts = only_number_parts make spelling words a e in
    subst (λ a. SpellsAction a (spelling ∷ words)) (sym parts.1) (row parts.0 parts.2)

action_parts : (name : Word) (words : List Word) (a : Action) → action_named name words ≡ Ok a → SpellsAction a (name ∷ words)
action_parts name words a e =
    by_name name (codes "open") _ _ a e (λ n f. named a name _ words n (open_parts words a f)) (λ e.
    by_name name (codes "tick") _ _ a e (λ n f. named a name _ words n (tick_parts words a f)) (λ e.
    by_name name (codes "req") _ _ a e (λ n f. named a name _ words n (number_named Request a words (codes "req") (λ number after. after) f)) (λ e.
    by_name name (codes "rep") _ _ a e (λ n f. named a name _ words n (reply_parts words a f)) (λ e.
    by_name name (codes "sense") _ _ a e (λ n f. named a name _ words n (sense_parts words a f)) (λ e.
    by_name name (codes "restart") _ _ a e (λ n f. named a name _ words n (restart_parts words a f)) (λ e.
    by_name name (codes "busy") _ _ a e (λ n f. named a name _ words n (number_named Busy a words (codes "busy") (λ number after. after) f)) (λ e.
    absurd (let wrong : Err Words ≡ Ok a = e in cc))))))))

step_parts : (words : List Word) (line : Line) → step_of words ≡ Ok line → SpellsLine line (codes "at" ∷ words)
step_parts [] line e = absurd (let wrong : Err Words ≡ Ok line = e in cc)
step_parts (moment ∷ []) line e = absurd (let wrong : Err Words ≡ Ok line = e in cc)
step_parts (moment ∷ name ∷ words) line e =
    let read = bind_parts (action_named name words) (λ action. moment_in moment >>= λ moment. Ok (lines.Step (record { moment = moment; action = action }))) line e in
    let read_moment = bind_parts (moment_in moment) (λ moment. Ok (lines.Step (record { moment = moment; action = read.0 }))) line read.2 in
    let whole : lines.Step (record { moment = read_moment.0; action = read.0 }) ≡ line = (let same : Ok (lines.Step (record { moment = read_moment.0; action = read.0 })) ≡ Ok line = read_moment.2 in cc) in
    subst (λ l. SpellsLine l (codes "at" ∷ moment ∷ name ∷ words)) whole (moment, name ∷ words, refl, number_parts (number_of MAX_MOMENT moment) read_moment.0 read_moment.1, action_parts name words read.0 read.1)

requester_parts : (words : List Word) (line : Line) → requester_of words ≡ Ok line → SpellsLine line (codes "requester" ∷ words)
requester_parts [] line e = absurd (let wrong : Err Words ≡ Ok line = e in cc)
requester_parts (eid ∷ []) line e = absurd (let wrong : Err Words ≡ Ok line = e in cc)
requester_parts (eid ∷ timeout ∷ []) line e = absurd (let wrong : Err Words ≡ Ok line = e in cc)
requester_parts (eid ∷ timeout ∷ limit ∷ []) line e = absurd (let wrong : Err Words ≡ Ok line = e in cc)
requester_parts (eid ∷ timeout ∷ limit ∷ tries ∷ []) line e = absurd (let wrong : Err Words ≡ Ok line = e in cc)
requester_parts (eid ∷ timeout ∷ limit ∷ tries ∷ count ∷ more ∷ words) line e = absurd (let wrong : Err Words ≡ Ok line = e in cc)
requester_parts (eid ∷ timeout ∷ limit ∷ tries ∷ count ∷ []) line e = go (is timeout (codes "timeout") && is tries (codes "tries")) refl
  where
    go : (b : Bool) → (is timeout (codes "timeout") && is tries (codes "tries")) ≡ b → SpellsLine line (codes "requester" ∷ eid ∷ timeout ∷ limit ∷ tries ∷ count ∷ [])
    go false t = absurd (let wrong = sym (cond-false (is timeout (codes "timeout") && is tries (codes "tries")) _ _ t) ∙ e in cc)
    go true t =
        let fixed = and_parts (is timeout (codes "timeout")) (is tries (codes "tries")) t in
        let read_eid = bind_parts (eid_in eid) (λ eid. number_up_to MAX_TIMEOUT limit >>= λ limit. number_up_to MAX_BYTE count >>= λ count. Ok (lines.Requester (record { eid = eid; timeout = limit; tries = count }))) line (sym (cond-true (is timeout (codes "timeout") && is tries (codes "tries")) _ _ t) ∙ e) in
        let read_limit = bind_parts (number_up_to MAX_TIMEOUT limit) (λ limit. number_up_to MAX_BYTE count >>= λ count. Ok (lines.Requester (record { eid = read_eid.0; timeout = limit; tries = count }))) line read_eid.2 in
        let read_count = bind_parts (number_up_to MAX_BYTE count) (λ count. Ok (lines.Requester (record { eid = read_eid.0; timeout = read_limit.0; tries = count }))) line read_limit.2 in
        let whole : lines.Requester (record { eid = read_eid.0; timeout = read_limit.0; tries = read_count.0 }) ≡ line = (let same : Ok (lines.Requester (record { eid = read_eid.0; timeout = read_limit.0; tries = read_count.0 })) ≡ Ok line = read_count.2 in cc) in
        let spelled_fixed : codes "requester" ∷ eid ∷ timeout ∷ limit ∷ tries ∷ count ∷ [] ≡ codes "requester" ∷ eid ∷ codes "timeout" ∷ limit ∷ codes "tries" ∷ count ∷ [] = (λ i. codes "requester" ∷ eid ∷ is_parts timeout (codes "timeout") fixed.0 i ∷ limit ∷ is_parts tries (codes "tries") fixed.1 i ∷ count ∷ []) in
        subst (λ l. SpellsLine l (codes "requester" ∷ eid ∷ timeout ∷ limit ∷ tries ∷ count ∷ [])) whole (eid, limit, count, spelled_fixed, eid_parts eid read_eid.0 read_eid.1, number_parts (number_of MAX_TIMEOUT limit) read_limit.0 read_limit.1, number_parts (number_of MAX_BYTE count) read_count.0 read_count.1)

line_parts : (words : List Word) (line : Line) → line_of words ≡ Ok line → SpellsLine line words
line_parts [] line e = subst (λ l. SpellsLine l []) (let same : Ok lines.Nothing ≡ Ok line = e in let found : lines.Nothing ≡ line = cc in found) refl
line_parts (keyword ∷ words) line e =
    by_name keyword (codes "requester") _ _ line e (λ n f. subst (λ k. SpellsLine line (k ∷ words)) (sym n) (requester_parts words line f)) (λ e.
    by_name keyword (codes "at") _ _ line e (λ n f. subst (λ k. SpellsLine line (k ∷ words)) (sym n) (step_parts words line f)) (λ e.
    absurd (let wrong : Err Words ≡ Ok line = e in cc)))

-- ---- what is spelled is read

abbrev named_words : List Word → Result Action LineFaultKind
named_words [] = Err Words
named_words (name ∷ words) = action_named name words

action_ok : (a : Action) (words : List Word) → SpellsAction a words → named_words words ≡ Ok a
action_ok (Open requester command) words (eid, rest, e, s, c) =
    ap named_words e
    ∙ bind_ok (command_of rest) (λ command. eid_in eid >>= λ eid. Ok (Open eid command)) command (Open requester command) (command_ok command rest c)
    (bind_ok (eid_in eid) (λ eid. Ok (Open eid command)) requester (Open requester command) (eid_ok eid requester s) refl)
action_ok (Tick requester) words (eid, e, s) = ap named_words e ∙ bind_ok (eid_in eid) (λ eid. Ok (Tick eid)) requester (Tick requester) (eid_ok eid requester s) refl
action_ok (Request number) words (k, e, s) = ap named_words e ∙ bind_ok (any_number k) (λ number. Ok (Request number)) number (Request number) (ap or_number s) refl
action_ok (Reply packet number) words (k, j, e, s, p) =
    ap named_words e
    ∙ bind_ok (any_number k) (λ number. number_up_to MAX_BYTE j >>= λ packet. Ok (Reply packet number)) number (Reply packet number) (ap or_number s)
    (bind_ok (number_up_to MAX_BYTE j) (λ packet. Ok (Reply packet number)) packet (Reply packet number) (ap or_number p) refl)
action_ok (Sense sensor value) words (id, reading, e, s, v) =
    ap named_words e
    ∙ bind_ok (number_up_to MAX_ID id) (λ id. any_value reading >>= λ value. Ok (Sense id value)) sensor (Sense sensor value) (ap or_number s)
    (bind_ok (any_value reading) (λ value. Ok (Sense sensor value)) value (Sense sensor value) (ap or_number v) refl)
action_ok Restart words e = ap named_words e
action_ok (Busy number) words (k, e, s) = ap named_words e ∙ bind_ok (any_number k) (λ number. Ok (Busy number)) number (Busy number) (ap or_number s) refl

step_ok : (moment : Word) (rest : List Word) (step : Step) → number_of MAX_MOMENT moment ≡ Some step.moment → named_words rest ≡ Ok step.action → step_of (moment ∷ rest) ≡ Ok (lines.Step step)
step_ok moment [] step m a = absurd (let wrong : Err Words ≡ Ok step.action = a in cc)
step_ok moment (name ∷ words) step m a =
    bind_ok (action_named name words) (λ action. moment_in moment >>= λ moment. Ok (lines.Step (record { moment = moment; action = action }))) step.action (lines.Step step) a
    (bind_ok (moment_in moment) (λ moment. Ok (lines.Step (record { moment = moment; action = step.action }))) step.moment (lines.Step step) (ap or_number m) refl)

line_ok : (line : Line) (words : List Word) → SpellsLine line words → line_of words ≡ Ok line
line_ok lines.Nothing words e = ap line_of e
line_ok (lines.Requester line) words (eid, limit, count, e, s, t, n) =
    ap line_of e
    ∙ bind_ok (eid_in eid) (λ eid. number_up_to MAX_TIMEOUT limit >>= λ limit. number_up_to MAX_BYTE count >>= λ count. Ok (lines.Requester (record { eid = eid; timeout = limit; tries = count }))) line.eid (lines.Requester line) (eid_ok eid line.eid s)
    (bind_ok (number_up_to MAX_TIMEOUT limit) (λ limit. number_up_to MAX_BYTE count >>= λ count. Ok (lines.Requester (record { eid = line.eid; timeout = limit; tries = count }))) line.timeout (lines.Requester line) (ap or_number t)
    (bind_ok (number_up_to MAX_BYTE count) (λ count. Ok (lines.Requester (record { eid = line.eid; timeout = line.timeout; tries = count }))) line.tries (lines.Requester line) (ap or_number n) refl))
line_ok (lines.Step step) words (moment, rest, e, m, a) =
    ap line_of e ∙ step_ok moment rest step m (action_ok step.action rest a)

pub read_as_spelled : ReadAsSpelled
read_as_spelled words line = (λ e. line_parts words line e, λ spelled. line_ok line words spelled)
