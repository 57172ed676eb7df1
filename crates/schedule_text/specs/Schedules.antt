-- The schedule that a text spells, or its first faulty line.
use Rattle.std.specs.Prelude.{◌≡◌, ℕ, ◌+◌, ◌-◌, ◌≤◌, ◌==◌, nat_lt, Bool, true, false, List, [], ◌∷◌, ◌++◌, length, get_or, take, Result, Ok, Err, ◌⊎◌, if◌then◌else◌}
use Rattle.std.specs.List.{list_any}
use Rattle.line_words.specs.Lines.{said_words}
use Rattle.line_words.specs.TextLines.{lines_of}
use Rattle.schedule_text.specs.LineWords.{action_named, line_of, open_of, step_of, tick_of}
use Rattle.schedule_text.specs.WordValues.{◌>>=◌, moment_in}
use Rattle.schedule_text.specs.SaidLines.{Line}
use Rattle.schedule_text.specs.SaidLines as lines
use Rattle.schedule_text.specs.declared.line_fault.LineFault.{LineFault}
use Rattle.schedule_text.specs.declared.line_fault.LineFaultKind.{LineFaultKind}
use Rattle.mctp_packet.specs.declared.TheConstants.{MAX_EID}
use Rattle.mctp_packet.specs.Memories.{out_of_memory}
use Rattle.schedule_text.specs.declared.line_fault.LineFaultKind.TheVariants.{BackInTime, NoSuchRequester, SameRequester, Memory}
use Rattle.schedule_text.specs.declared.step.RequesterLine.{RequesterLine}
use Rattle.schedule_text.specs.declared.step.Action.{Action}
use Rattle.schedule_text.specs.declared.step.Action.TheVariants.{Open, Tick}
use Rattle.schedule_text.specs.declared.step.Step.{Step}

-- the requesters in the order of their lines, and the steps in the order of theirs
pub record Spelled : Type 0 where
  pub requesters : List RequesterLine
  pub steps : List Step

abbrev pub is_requester : ℕ → RequesterLine → Bool
is_requester eid line = line.eid == eid

-- one of these lines is of the requester at this endpoint
abbrev pub has_requester : List RequesterLine → ℕ → Bool
has_requester lines eid = list_any (is_requester eid) lines

-- a table of endpoint IDs says of each whether one of these lines is of its requester
abbrev pub IsTable : List Bool → List RequesterLine → Type 0
IsTable known lines = (eid : ℕ) → eid ≤ MAX_EID → get_or known eid false ≡ has_requester lines eid

-- the moment of the last of these steps, or this one where there is none
abbrev pub last_from : ℕ → List Step → ℕ
last_from moment [] = moment
last_from moment (step ∷ steps) = last_from step.moment steps

-- the moment of the last step, 0 where there is none
abbrev pub last_moment : List Step → ℕ
last_moment steps = last_from 0 steps

-- the requester of an action is one of these
abbrev pub is_known : List RequesterLine → Action → Bool
is_known requesters (Open eid command) = has_requester requesters eid
is_known requesters (Tick eid) = has_requester requesters eid
is_known requesters _ = true

-- a step after these lines: its moment must not go back, and its requester must be known
abbrev pub with_step : Spelled → Step → Result Spelled LineFaultKind
with_step before step =
    if nat_lt step.moment (last_moment before.steps) then Err BackInTime
    else if is_known before.requesters step.action
    then Ok (record { requesters = before.requesters; steps = before.steps ++ step ∷ [] })
    else Err NoSuchRequester

abbrev pub with_requester : Spelled → RequesterLine → Result Spelled LineFaultKind
with_requester before line =
    if has_requester before.requesters line.eid then Err SameRequester
    else Ok (record { requesters = before.requesters ++ line ∷ []; steps = before.steps })

abbrev pub with_line : Spelled → Line → Result Spelled LineFaultKind
with_line before lines.Nothing = Ok before
with_line before (lines.Requester line) = with_requester before line
with_line before (lines.Step step) = with_step before step

-- the same by the words of a line: those after `at`, or the moment's with the action that is read
abbrev pub with_step_in : Spelled → List (List ℕ) → Result Spelled LineFaultKind
with_step_in before words = step_of words >>= with_line before

abbrev pub with_action : Spelled → List ℕ → Action → Result Spelled LineFaultKind
with_action before moment action =
    moment_in moment >>= λ moment. with_step before (record { moment = moment; action = action })

abbrev pub with_tick : Spelled → List ℕ → List (List ℕ) → Result Spelled LineFaultKind
with_tick before moment words = tick_of words >>= with_action before moment

abbrev pub with_open : Spelled → List ℕ → List (List ℕ) → Result Spelled LineFaultKind
with_open before moment words = open_of words >>= with_action before moment

abbrev pub with_named : Spelled → List ℕ → List ℕ → List (List ℕ) → Result Spelled LineFaultKind
with_named before moment name words = action_named name words >>= with_action before moment

-- what is spelled by the lines before and this one
abbrev pub after_line : Spelled → List ℕ → Result Spelled LineFaultKind
after_line before line = line_of (said_words line) >>= with_line before

-- no step's moment is before that of the step before it, the first one's not before this moment
abbrev pub NeverGoBack : ℕ → List Step → Type 0
NeverGoBack moment [] = Unit {0}
NeverGoBack moment (step ∷ steps) = (moment ≤ step.moment) × NeverGoBack step.moment steps

-- no two lines are of one requester
abbrev pub AreDistinct : List RequesterLine → Type 0
AreDistinct [] = Unit {0}
AreDistinct (line ∷ lines) = (has_requester lines line.eid ≡ false) × AreDistinct lines

-- the requester of each step has a line
abbrev pub AreKnown : List RequesterLine → List Step → Type 0
AreKnown requesters [] = Unit {0}
AreKnown requesters (step ∷ steps) = (is_known requesters step.action ≡ true) × AreKnown requesters steps

-- what every schedule keeps
pub record IsSchedule (spelled : Spelled) : Type 0 where
  pub in_order : NeverGoBack 0 spelled.steps
  pub distinct : AreDistinct spelled.requesters
  pub known : AreKnown spelled.requesters spelled.steps

abbrev pub none_spelled : Spelled
none_spelled = record { requesters = []; steps = [] }

-- line n and the lines after it, each after those before: what they spell, or the number and kind of the first fault
abbrev pub spelled_then
    : ℕ → Result Spelled LineFaultKind → (Spelled → Result Spelled LineFault) → Result Spelled LineFault
spelled_then n (Ok spelled) rest = rest spelled
spelled_then n (Err kind) rest = Err (record { line = n; kind = kind })

abbrev pub spelled_from : ℕ → Spelled → List (List ℕ) → Result Spelled LineFault
spelled_from n before [] = Ok before
spelled_from n before (line ∷ more) =
    spelled_then n (after_line before line) (λ spelled. spelled_from (n + 1) spelled more)

-- the schedule of a text; its lines are counted from 1
unfoldable pub schedule_of : List ℕ → Result Spelled LineFault
schedule_of text = spelled_from 1 none_spelled (lines_of text)

-- a fault is the first one of the text; memory may be wanting at any line
abbrev pub ReportsFault : Result Spelled LineFault → LineFault → Type 0
ReportsFault spelled fault = (fault.kind ≡ Memory out_of_memory) ⊎ (spelled ≡ Err fault)

-- the same of one line, or of a part of one
abbrev pub ReportsKind : {A : Type 0} → Result A LineFaultKind → LineFaultKind → Type 0
ReportsKind read kind = (kind ≡ Memory out_of_memory) ⊎ (read ≡ Err kind)

-- line n is one of these, and all lines before it are good, so that the first faulty one is not before it
pub record IsReached (lines : List (List ℕ)) (n : ℕ) : Type 0 where
  pub first : 1 ≤ n
  pub there : n ≤ length lines
  pub spelled : Spelled
  pub good : spelled_from 1 none_spelled (take (n - 1) lines) ≡ Ok spelled
