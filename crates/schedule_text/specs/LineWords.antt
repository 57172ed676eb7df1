-- What a line of a schedule says, by its words. A wrong word or count of words is reported before a wrong number.
use Rattle.std.specs.Prelude.{ℕ, codes, ◌&&◌, List, [], ◌∷◌, Result, Ok, Err, if◌then◌else◌}
use Rattle.schedule_text.specs.CommandWords.{is, only_word, command_of}
use Rattle.schedule_text.specs.WordValues.{◌>>=◌, any_number, number_up_to, any_value, eid_in, moment_in}
use Rattle.schedule_text.specs.declared.word.TheConstants.{MAX_BYTE, MAX_ID, MAX_TIMEOUT}
use Rattle.schedule_text.specs.SaidLines.{Line}
use Rattle.schedule_text.specs.SaidLines as lines
use Rattle.schedule_text.specs.declared.line_fault.LineFaultKind.{LineFaultKind}
use Rattle.schedule_text.specs.declared.line_fault.LineFaultKind.TheVariants.{Words}
use Rattle.schedule_text.specs.declared.step.RequesterLine.{RequesterLine}
use Rattle.schedule_text.specs.declared.step.Action.{Action}
use Rattle.schedule_text.specs.declared.step.Action.TheVariants.{Open, Tick, Request, Reply, Sense, Restart, Busy}
use Rattle.schedule_text.specs.declared.step.Step.{Step}

-- `requester EID timeout MS tries N`, by the words after the first
abbrev pub requester_of : List (List ℕ) → Result Line LineFaultKind
requester_of (eid ∷ timeout ∷ limit ∷ tries ∷ count ∷ []) =
    if is timeout (codes "timeout") && is tries (codes "tries")
    then (eid_in eid >>= λ eid. number_up_to MAX_TIMEOUT limit >>= λ limit.
    number_up_to MAX_BYTE count >>= λ count.
    Ok (lines.Requester (record { eid = eid; timeout = limit; tries = count })))
    else Err Words
requester_of _ = Err Words

-- the line of a requester, as what a line says
abbrev pub said_requester : Result RequesterLine LineFaultKind → Result Line LineFaultKind
said_requester read = read >>= λ line. Ok (lines.Requester line)

-- a step, as what a line says
abbrev pub said_step : Result Step LineFaultKind → Result Line LineFaultKind
said_step read = read >>= λ step. Ok (lines.Step step)

-- one endpoint ID, or one number of a request

abbrev pub only_eid : List (List ℕ) → Result ℕ LineFaultKind
only_eid words = only_word words >>= eid_in

abbrev pub only_number : List (List ℕ) → Result ℕ LineFaultKind
only_number words = only_word words >>= any_number

abbrev pub tick_of : List (List ℕ) → Result Action LineFaultKind
tick_of words = only_eid words >>= λ eid. Ok (Tick eid)

abbrev pub request_of : List (List ℕ) → Result Action LineFaultKind
request_of words = only_number words >>= λ number. Ok (Request number)

abbrev pub open_of : List (List ℕ) → Result Action LineFaultKind
open_of [] = Err Words
open_of (eid ∷ words) = command_of words >>= λ command. eid_in eid >>= λ eid. Ok (Open eid command)

abbrev pub reply_of : List (List ℕ) → Result Action LineFaultKind
reply_of (number ∷ packet ∷ []) =
    any_number number >>= λ number. number_up_to MAX_BYTE packet >>= λ packet. Ok (Reply packet number)
reply_of _ = Err Words

abbrev pub sense_of : List (List ℕ) → Result Action LineFaultKind
sense_of (id ∷ value ∷ []) = number_up_to MAX_ID id >>= λ id. any_value value >>= λ value. Ok (Sense id value)
sense_of _ = Err Words

abbrev pub restart_of : List (List ℕ) → Result Action LineFaultKind
restart_of [] = Ok Restart
restart_of _ = Err Words

-- the action of this name, with the words after it
abbrev pub action_named : List ℕ → List (List ℕ) → Result Action LineFaultKind
action_named name words =
    if is name (codes "open") then open_of words
    else if is name (codes "tick") then tick_of words
    else if is name (codes "req") then request_of words
    else if is name (codes "rep") then reply_of words
    else if is name (codes "sense") then sense_of words
    else if is name (codes "restart") then restart_of words
    else if is name (codes "busy") then (only_number words >>= λ number. Ok (Busy number))
    else Err Words

-- `at MS` and an action, by the words after the first
abbrev pub step_of : List (List ℕ) → Result Line LineFaultKind
step_of (moment ∷ name ∷ words) =
    action_named name words >>= λ action. moment_in moment >>= λ moment.
    Ok (lines.Step (record { moment = moment; action = action }))
step_of _ = Err Words

-- what the line says; a line without words says nothing
abbrev pub line_of : List (List ℕ) → Result Line LineFaultKind
line_of [] = Ok lines.Nothing
line_of (keyword ∷ words) =
    if is keyword (codes "requester") then requester_of words
    else if is keyword (codes "at") then step_of words
    else Err Words
