-- How the entries of a run are stored: a mark for each step, and a column for each kind of thing that marks leave out.
use Rattle.std.specs.Prelude.{◌≡◌, ℕ, List, [], ◌∷◌, map, Ok, Err, if◌then◌else◌}
use Rattle.std.specs.List.{flat_map}
use Rattle.pldm_responder.specs.declared.outcome.Outcome.{Outcome}
use Rattle.pldm_requester.specs.declared.results.Due.{Due as DueNumbers}
use Rattle.pldm_requester.specs.declared.results.Got.TheVariants as gots
use Rattle.mctp_schedule.specs.DueNumbers.{found_nothing, nothing_due}
use Rattle.mctp_schedule.specs.declared.entries.Mark.{Mark}
use Rattle.mctp_schedule.specs.declared.entries.Mark.TheVariants as marks
use Rattle.mctp_schedule.specs.declared.entry.Entry.{Entry}
use Rattle.mctp_schedule.specs.declared.entry.Entry.TheVariants.{Nothing, Opened, NotOpened, Due, Delivered, Received, Sensed, Restarted}
use Rattle.mctp_schedule.specs.declared.entry.EntryRef.{EntryRef}
use Rattle.mctp_schedule.specs.declared.entry.EntryRef.TheVariants as refs

-- an entry that is borrowed, as the entry
abbrev pub borrowed_entry : EntryRef → Entry
borrowed_entry refs.Nothing = Nothing
borrowed_entry (refs.Opened number) = Opened number
borrowed_entry (refs.NotOpened fault) = NotOpened fault
borrowed_entry (refs.Due again given_up) =
    Due (record { again = record { items = again.now }; given_up = record { items = given_up.now } })
borrowed_entry (refs.Delivered busy delivery) = Delivered busy delivery.now
borrowed_entry (refs.Received got) = Received got
borrowed_entry (refs.Sensed result) = Sensed result
borrowed_entry refs.Restarted = Restarted

-- the mark of an entry, and what of it stands in a column. A tick that found nothing has a mark of its own, and stands
-- in none
abbrev pub mark_of : Entry → Mark
mark_of Nothing = marks.Nothing
mark_of (Opened number) = marks.Opened
mark_of (NotOpened fault) = marks.NotOpened fault
mark_of (Due due) = if found_nothing due then marks.NothingDue else marks.Due
mark_of (Delivered busy outcome) = marks.Delivered busy
mark_of (Received (gots.Dropped reason)) = marks.Dropped reason
mark_of (Received gots.Partial) = marks.Partial
mark_of (Received (gots.Answered number)) = marks.Answered
mark_of (Sensed (Ok done)) = marks.Set
mark_of (Sensed (Err fault)) = marks.NotSet fault
mark_of Restarted = marks.Restarted

abbrev pub numbers_in_entry : Entry → List ℕ
numbers_in_entry (Opened number) = number ∷ []
numbers_in_entry (Received (gots.Answered number)) = number ∷ []
numbers_in_entry _ = []

abbrev pub dues_in_entry : Entry → List DueNumbers
dues_in_entry (Due due) = if found_nothing due then [] else due ∷ []
dues_in_entry _ = []

abbrev pub outcomes_in_entry : Entry → List Outcome
outcomes_in_entry (Delivered busy outcome) = outcome ∷ []
outcomes_in_entry _ = []

-- what became of each delivery of these entries
abbrev pub outcomes_in : List Entry → List Outcome
outcomes_in entries = flat_map outcomes_in_entry entries

-- the entries of these marks and columns: each mark with the first of the column that it needs, then the rest. A mark
-- whose column is at its end would end them too
abbrev pub spelled : List Mark → List ℕ → List DueNumbers → List Outcome → List Entry
spelled (marks.Nothing ∷ rest) numbers dues outcomes = Nothing ∷ spelled rest numbers dues outcomes
spelled (marks.Opened ∷ rest) (number ∷ numbers) dues outcomes = Opened number ∷ spelled rest numbers dues outcomes
spelled (marks.NotOpened fault ∷ rest) numbers dues outcomes = NotOpened fault ∷ spelled rest numbers dues outcomes
spelled (marks.NothingDue ∷ rest) numbers dues outcomes = Due nothing_due ∷ spelled rest numbers dues outcomes
spelled (marks.Due ∷ rest) numbers (due ∷ dues) outcomes = Due due ∷ spelled rest numbers dues outcomes
spelled (marks.Delivered busy ∷ rest) numbers dues (outcome ∷ outcomes) =
    Delivered busy outcome ∷ spelled rest numbers dues outcomes
spelled (marks.Dropped reason ∷ rest) numbers dues outcomes =
    Received (gots.Dropped reason) ∷ spelled rest numbers dues outcomes
spelled (marks.Partial ∷ rest) numbers dues outcomes = Received gots.Partial ∷ spelled rest numbers dues outcomes
spelled (marks.Answered ∷ rest) (number ∷ numbers) dues outcomes =
    Received (gots.Answered number) ∷ spelled rest numbers dues outcomes
spelled (marks.Set ∷ rest) numbers dues outcomes = Sensed (Ok tt) ∷ spelled rest numbers dues outcomes
spelled (marks.NotSet fault ∷ rest) numbers dues outcomes = Sensed (Err fault) ∷ spelled rest numbers dues outcomes
spelled (marks.Restarted ∷ rest) numbers dues outcomes = Restarted ∷ spelled rest numbers dues outcomes
spelled _ numbers dues outcomes = []

-- the marks and columns are those of these entries
pub record AreOf
    (entries : List Entry) (marks : List Mark) (numbers : List ℕ) (dues : List DueNumbers) (outcomes : List Outcome)
    : Type 0 where
  pub marked : marks ≡ map mark_of entries
  pub numbered : numbers ≡ flat_map numbers_in_entry entries
  pub due : dues ≡ flat_map dues_in_entry entries
  pub delivered : outcomes ≡ outcomes_in entries

-- no mark lacks what it needs, and nothing is left over
abbrev pub IsSpelled : List Mark → List ℕ → List DueNumbers → List Outcome → Type 0
IsSpelled marks numbers dues outcomes = AreOf (spelled marks numbers dues outcomes) marks numbers dues outcomes
