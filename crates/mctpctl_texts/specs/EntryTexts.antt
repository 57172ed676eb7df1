-- What `mctpctl run` writes of a step: its moment, and what came of it.
use Rattle.std.specs.Prelude.{ℕ, Bool, true, false, List, [], ◌∷◌, ◌++◌, codes, Result, Ok, Err}
use Rattle.std.specs.Fmt.{decimal}
use Rattle.std.specs.List.{flat_map}
use Rattle.mctp_schedule.specs.declared.entry.Entry.{Entry}
use Rattle.mctp_schedule.specs.declared.entry.Entry.TheVariants as entries
use Rattle.schedule_text.specs.declared.step.Step.{Step}
use Rattle.mctpctl_texts.specs.ShownLines.{drop_text, spaced, spaced_line}
use Rattle.pldm_platform.specs.declared.platform.ReadingFault.{ReadingFault}
use Rattle.pldm_platform.specs.declared.platform.ReadingFault.TheVariants.{NoSuchSensor, OutOfSize}
use Rattle.pldm_requester.specs.declared.results.Got.{Got}
use Rattle.pldm_requester.specs.declared.results.Got.TheVariants as gots
use Rattle.pldm_requester.specs.declared.results.OpenFault.{OpenFault}
use Rattle.pldm_requester.specs.declared.results.OpenFault.TheVariants.{TagInUse, IdInUse, Memory}
use Rattle.pldm_responder.specs.declared.outcome.Outcome.{Outcome}
use Rattle.pldm_responder.specs.declared.outcome.Outcome.TheVariants as outcomes

-- numbers in decimal, a space before each
abbrev pub numbers_text : List ℕ → List ℕ
numbers_text numbers = flat_map (λ number. 32 ∷ decimal number) numbers

-- no open of a run is refused for want of memory
abbrev pub not_opened_text : OpenFault → List ℕ
not_opened_text TagInUse = codes "tag in use"
not_opened_text IdInUse = codes "id in use"
not_opened_text (Memory refused) = codes "out of memory"

abbrev pub again_text : List ℕ → List ℕ
again_text numbers = codes "again" ++ numbers_text numbers

abbrev pub gave_up_text : List ℕ → List ℕ
gave_up_text numbers = codes "gave up" ++ numbers_text numbers

-- the requests that were sent again, and those that were given up
abbrev pub due_text : List ℕ → List ℕ → List ℕ
due_text [] [] = codes "nothing due"
due_text (first ∷ again) [] = again_text (first ∷ again)
due_text [] (first ∷ given_up) = gave_up_text (first ∷ given_up)
due_text (first ∷ again) (other ∷ given_up) =
    spaced (again_text (first ∷ again) ∷ gave_up_text (other ∷ given_up) ∷ [])

-- an answer: whether the request was performed, and if so whether that changed the device
abbrev pub answered_text : (is_busy fresh changed : Bool) → List ℕ
answered_text true fresh changed = codes "busy"
answered_text false false changed = codes "copy"
answered_text false true true = codes "fresh changed"
answered_text false true false = codes "fresh unchanged"

-- what became of the packet of a request
abbrev pub delivered_text : Bool → Outcome → List ℕ
delivered_text is_busy (outcomes.Dropped reason) = drop_text reason
delivered_text is_busy outcomes.Partial = codes "partial"
delivered_text is_busy (outcomes.Answered fresh changed packets) = answered_text is_busy fresh changed

-- what became of a packet of an answer
abbrev pub received_text : Got → List ℕ
received_text (gots.Dropped reason) = drop_text reason
received_text gots.Partial = codes "partial"
received_text (gots.Answered number) = codes "answered"

abbrev pub sensed_text : Result Unit ReadingFault → List ℕ
sensed_text (Ok done) = codes "set"
sensed_text (Err NoSuchSensor) = codes "no such sensor"
sensed_text (Err OutOfSize) = codes "out of size"

abbrev pub entry_text : Entry → List ℕ
entry_text entries.Nothing = codes "nothing"
entry_text (entries.Opened number) = codes "opened " ++ decimal number
entry_text (entries.NotOpened fault) = not_opened_text fault
entry_text (entries.Due due) = due_text due.again.items due.given_up.items
entry_text (entries.Delivered is_busy outcome) = delivered_text is_busy outcome
entry_text (entries.Received got) = received_text got
entry_text (entries.Sensed result) = sensed_text result
entry_text entries.Restarted = codes "restarted"

abbrev pub entry_line : ℕ → Entry → List ℕ
entry_line moment entry = spaced_line (decimal moment ∷ entry_text entry ∷ [])

-- a line for each of these steps, by what came of it
abbrev pub entries_text : List Step → List Entry → List ℕ
entries_text [] entries = []
entries_text (step ∷ steps) [] = []
entries_text (step ∷ steps) (entry ∷ entries) = entry_line step.moment entry ++ entries_text steps entries
