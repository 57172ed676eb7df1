-- What a fetch holds is what its answers leave, read by looking back over them.
use Rattle.std.proofs.Common.{◌≡◌, ℕ, List, [], ◌∷◌, ◌++◌, if◌then◌else◌, Option, Some, None, is_some, Result, Ok, Err, refl, sym, ap, subst, ◌∙◌, append-nil}
use Rattle.pldm_wire.specs.RecordParts.{Part}
use Rattle.pldm_wire.specs.declared.answer.Answer.{Answer}
use Rattle.pldm_wire.specs.declared.answer.Answer.TheVariants.{Refused, GetPdr}
use Rattle.pldm_records.specs.Fetches.{Fetching, taken, part_taken, part_after, after_taking, next_request, request_for, fetched_record}
use Rattle.pldm_records.specs.FetchLaws.{bytes_of_answers}
use Rattle.pldm_records.specs.FetchHistories.{last_handle, judged, ending, ending_of_part, ended, earlier, expected_after, record_after, done_with, IsLeft, TakingLooksBack, AskingLooksBack}
use Rattle.pldm_records.specs.declared.fetch.FetchState.{FetchState}
use Rattle.pldm_records.specs.declared.fetch.FetchState.TheVariants.{More, Done}
use Rattle.pldm_records.specs.declared.fetch.Stage.{Stage}
use Rattle.pldm_records.specs.declared.fetch.Stage.TheVariants.{Going, Finished, Failed}
use Rattle.pldm_records.specs.declared.fetch.FetchFault.{FetchFault}

-- a fetch that goes on after these answers
abbrev going : ℕ → List Answer → Fetching
going asked answers = record { asked = asked; bytes = bytes_of_answers answers; offset = last_handle answers; stage = Going }

-- what is expected and left, by how the fetch had ended and what the answer gives
abbrev Follows : ℕ → List Answer → Answer → Fetching → Option (Result FetchState FetchFault) → Type 0
Follows asked before answer f end =
    (taken f answer ≡ expected_after end (judged asked before answer))
    × IsLeft asked (answer ∷ before) (earlier end (ending answer (judged asked before answer))) (after_taking f answer)

-- the record after one more answer, where nothing had ended the fetch
record_here : (asked : ℕ) (before : List Answer) (answer : Answer) → ended asked before ≡ None
    → record_after asked (answer ∷ before) ≡ done_with (ending answer (judged asked before answer)) (bytes_of_answers (answer ∷ before))
record_here asked before answer none = rw none refl

-- and where something had
record_stays : (asked : ℕ) (before : List Answer) (answer : Answer) (end : Result FetchState FetchFault) → ended asked before ≡ Some end
    → record_after asked (answer ∷ before) ≡ record_after asked before
record_stays asked before answer end some = rw some refl

-- a part
part_left : (asked : ℕ) (before : List Answer) (n t : ℕ) (part : Part) (given : Result FetchState FetchFault)
    → record_after asked (GetPdr n t part ∷ before) ≡ done_with (ending_of_part given) (bytes_of_answers before ++ part.bytes)
    → IsLeft asked (GetPdr n t part ∷ before) (ending_of_part given) (part_after (going asked before) t part given)
part_left asked before n t part (Ok More) e = refl
part_left asked before n t part (Ok (Done next)) e = (refl, e)
part_left asked before n t part (Err fault) e = (refl, e)

while_going : (asked : ℕ) (before : List Answer) (answer : Answer) → ended asked before ≡ None → Follows asked before answer (going asked before) None
while_going asked before (Refused code) none = (refl, (refl, record_here asked before (Refused code) none))
while_going asked before (GetPdr n t part) none =
    (refl, part_left asked before n t part (part_taken (going asked before) n part) (record_here asked before (GetPdr n t part) none))
while_going asked before _ none = (refl, ap (λ (b : List ℕ). record { asked = asked; bytes = b; offset = last_handle before; stage = Going }) (sym (append-nil (bytes_of_answers before))))

finished : (asked : ℕ) (before : List Answer) (answer : Answer) (state : FetchState) (f : Fetching) (stage : Stage) → f.stage ≡ stage → stage ≡ Finished
    → record_after asked (answer ∷ before) ≡ Some f.bytes → Follows asked before answer f (Some (Ok state))
finished asked before answer state f stage at is e =
    let here = at ∙ is in
    let stays : after_taking f answer ≡ f = rw here refl in
    (rw here refl, rw stays (here, e))

has_failed : (asked : ℕ) (before : List Answer) (answer : Answer) (fault : FetchFault) (f : Fetching) → f.stage ≡ Failed fault
    → record_after asked (answer ∷ before) ≡ None → Follows asked before answer f (Some (Err fault))
has_failed asked before answer fault f here e =
    let stays : after_taking f answer ≡ f = rw here refl in
    (rw here refl, rw stays (here, e))

by_end : (asked : ℕ) (before : List Answer) (answer : Answer) (f : Fetching) (end : Option (Result FetchState FetchFault))
    → ended asked before ≡ end → IsLeft asked before end f → Follows asked before answer f end
by_end asked before answer f None is left = subst (λ g. Follows asked before answer g None) (sym left) (while_going asked before answer is)
by_end asked before answer f (Some (Ok state)) is left =
    finished asked before answer state f Finished left.0 refl (record_stays asked before answer (Ok state) is ∙ left.1)
by_end asked before answer f (Some (Err fault)) is left =
    has_failed asked before answer fault f left.0 (record_stays asked before answer (Err fault) is ∙ left.1)

pub taking_looks_back : TakingLooksBack
taking_looks_back asked f answers answer left = by_end asked answers answer f (ended asked answers) refl left

no_record_yet : (asked : ℕ) (answers : List Answer) → ended asked answers ≡ None → record_after asked answers ≡ None
no_record_yet asked [] none = refl
no_record_yet asked (answer ∷ before) none = by (ended asked before) (ending answer (judged asked before answer)) refl refl none where
  by : (end last : Option (Result FetchState FetchFault)) → ended asked before ≡ end → ending answer (judged asked before answer) ≡ last
      → earlier end last ≡ None → record_after asked (answer ∷ before) ≡ None
  by None None e l n = rw (e, l) refl
  by None (Some x) e l n = cc
  by (Some x) last e l n = cc

asking : (asked : ℕ) (f : Fetching) (answers : List Answer) (end : Option (Result FetchState FetchFault)) → ended asked answers ≡ end → IsLeft asked answers end f
    → (next_request f ≡ (if is_some end then None else Some (request_for (going asked answers)))) × (fetched_record f ≡ record_after asked answers)
asking asked f answers None is left = (rw left refl, rw left (sym (no_record_yet asked answers is)))
asking asked f answers (Some (Ok state)) is left = (rw left.0 refl, rw left.0 (sym left.1))
asking asked f answers (Some (Err fault)) is left = (rw left.0 refl, rw left.0 (sym left.1))

pub asking_looks_back : AskingLooksBack
asking_looks_back asked f answers left = asking asked f answers (ended asked answers) refl left
