-- The schedules that texts spell, computed.
use Rattle.std.proofs.Common.{◌≡◌, ℕ, pos, List, [], ◌∷◌, ◌++◌, codes, Ok, Err, refl}
use Rattle.pldm_wire.specs.Numbers.{sized}
use Rattle.pldm_wire.specs.declared.size.Size.TheVariants.{Uint8}
use Rattle.pldm_wire.specs.declared.command.Command.TheVariants.{SetNumericEffecterValue, SetStateEffecterStates, GetPldmVersion, GetPdr}
use Rattle.schedule_text.specs.Schedules.{schedule_of}
use Rattle.schedule_text.specs.declared.line_fault.LineFaultKind.{LineFaultKind}
use Rattle.schedule_text.specs.declared.line_fault.LineFaultKind.TheVariants.{Words, Number, BackInTime, NoSuchRequester, SameRequester}
use Rattle.schedule_text.specs.declared.step.RequesterLine.{RequesterLine}
use Rattle.schedule_text.specs.declared.step.Action.{Action}
use Rattle.schedule_text.specs.declared.step.Action.TheVariants.{Open, Tick, Request, Reply, Sense, Restart, Busy}
use Rattle.schedule_text.specs.declared.step.Step.{Step}

abbrev spells : List ℕ → List RequesterLine → List Step → Type 0
spells text requesters steps = schedule_of text ≡ Ok (record { requesters = requesters; steps = steps })

abbrev refused : List ℕ → ℕ → LineFaultKind → Type 0
refused text line kind = schedule_of text ≡ Err (record { line = line; kind = kind })

-- lines, each ended by a line feed but the last
abbrev text_of : List (List ℕ) → List ℕ
text_of [] = []
text_of (line ∷ []) = line
text_of (line ∷ next ∷ lines) = line ++ 10 ∷ text_of (next ∷ lines)

abbrev eight : RequesterLine
eight = record { eid = 8; timeout = 200; tries = 3 }

abbrev eight_line : List ℕ
eight_line = codes "requester 8 timeout 200 tries 3"

abbrev at : ℕ → Action → Step
at moment action = record { moment = moment; action = action }

no_line : spells [] [] []
unfolding schedule_of
no_line = refl

a_retry : spells (text_of (eight_line ∷ codes "at 0 open 8 setnum 1 uint8 40" ∷ codes "at 0 req 0" ∷ codes "at 200 tick 8" ∷ codes "at 200 req 0" ∷ codes "at 210 rep 0 0" ∷ [])) (eight ∷ []) (at 0 (Open 8 (SetNumericEffecterValue 1 (sized Uint8 (pos 40)))) ∷ at 0 (Request 0) ∷ at 200 (Tick 8) ∷ at 200 (Request 0) ∷ at 210 (Reply 0 0) ∷ [])
unfolding schedule_of
a_retry = refl

-- a comment and a blank line with a carriage return, a line feed after the last line, and leading zeros
skipped_lines : spells (text_of (codes " # one" ∷ (13 ∷ []) ∷ (eight_line ++ 13 ∷ []) ∷ codes "at 007 sense 1 -0 " ∷ codes "at 7 restart" ∷ codes "at 8 busy 9999999999999999" ∷ [] ∷ [])) (eight ∷ []) (at 7 (Sense 1 (pos 0)) ∷ at 7 Restart ∷ at 8 (Busy 9999999999999999) ∷ [])
unfolding schedule_of
skipped_lines = refl

fields_of_commands : spells (text_of (eight_line ∷ codes "at 0 open 8 setstate 2 - 7" ∷ codes "at 0 open 8 getversion 2" ∷ codes "at 0 open 8 getpdr 1 239 next 65535" ∷ [])) (eight ∷ []) (at 0 (Open 8 (SetStateEffecterStates 2 (record { set_request = 0; state = 0 } ∷ record { set_request = 1; state = 7 } ∷ []))) ∷ at 0 (Open 8 (GetPldmVersion 0 1 2)) ∷ at 0 (Open 8 (GetPdr 1 239 0 65535 0)) ∷ [])
unfolding schedule_of
fields_of_commands = refl

back_in_time : refused (text_of (eight_line ∷ codes "at 5 tick 8" ∷ codes "at 4 tick 8" ∷ [])) 3 BackInTime
unfolding schedule_of
back_in_time = refl

same_requester : refused (text_of (eight_line ∷ eight_line ∷ [])) 2 SameRequester
unfolding schedule_of
same_requester = refl

no_such_requester : refused (text_of (codes "at 0 tick 8" ∷ eight_line ∷ [])) 1 NoSuchRequester
unfolding schedule_of
no_such_requester = refl

-- of several faults of a line the first in the order Words, Number, BackInTime, NoSuchRequester
words_first : refused (text_of (eight_line ∷ codes "at x open y setnum z u8 40" ∷ [])) 2 Words
unfolding schedule_of
words_first = refl

number_next : refused (text_of (eight_line ∷ codes "at 5 tick 8" ∷ codes "at 4 open 9 setnum 1 uint8 256" ∷ [])) 3 Number
unfolding schedule_of
number_next = refl

then_back_in_time : refused (text_of (eight_line ∷ codes "at 5 tick 8" ∷ codes "at 4 tick 9" ∷ [])) 3 BackInTime
unfolding schedule_of
then_back_in_time = refl

nine_states : refused (text_of (eight_line ∷ codes "at 0 open 8 setstate 1 - - - - - - - - -" ∷ [])) 2 Words
unfolding schedule_of
nine_states = refl

no_state_word : refused (text_of (eight_line ∷ codes "at 0 open 8 setstate 1 x" ∷ [])) 2 Number
unfolding schedule_of
no_state_word = refl

second_divider : refused (codes "%%") 1 Words
unfolding schedule_of
second_divider = refl
