-- Entries are what their marks and columns spell, one entry more too.
use Rattle.std.proofs.Common.{◌≡◌, ℕ, List, [], ◌∷◌, ◌++◌, refl, sym, ap, subst, ◌∙◌, append-nil}
use Rattle.std.specs.Prelude.{Ok, Err, map}
use Rattle.std.specs.List.{flat_map}
use Rattle.std.proofs.lemmas.Grind.{flat_map-append}
use Rattle.std.proofs.lemmas.List.{map-append}
use Rattle.pldm_responder.specs.declared.outcome.Outcome.{Outcome}
use Rattle.pldm_requester.specs.declared.results.Due.{Due as DueNumbers}
use Rattle.pldm_requester.specs.declared.results.Got.TheVariants as gots
use Rattle.mctp_schedule.specs.EntryColumns.{AreOf, IsSpelled, dues_in_entry, mark_of, numbers_in_entry, outcomes_in, outcomes_in_entry, spelled}
use Rattle.mctp_schedule.specs.declared.entries.Mark.{Mark}
use Rattle.mctp_schedule.specs.declared.entry.Entry.{Entry}
use Rattle.mctp_schedule.specs.declared.entry.Entry.TheVariants.{Nothing, Opened, NotOpened, Due, Delivered, Received, Sensed, Restarted}

-- ---- the marks and columns of entries spell these
abbrev columns_spell : List Entry → List Entry
columns_spell es = spelled (map mark_of es) (flat_map numbers_in_entry es) (flat_map dues_in_entry es) (outcomes_in es)

-- what a tick found, whether it is nothing or not
abbrev found : List ℕ → List ℕ → Entry
found again given_up = Due (record { again = record { items = again }; given_up = record { items = given_up } })

due_spells : (again given_up : List ℕ) (es : List Entry) → columns_spell es ≡ es
    → columns_spell (found again given_up ∷ es) ≡ found again given_up ∷ es
due_spells [] [] es rest = ap (λ r. found [] [] ∷ r) rest
due_spells [] (number ∷ numbers) es rest = ap (λ r. found [] (number ∷ numbers) ∷ r) rest
due_spells (number ∷ numbers) given_up es rest = ap (λ r. found (number ∷ numbers) given_up ∷ r) rest

spells : (es : List Entry) → columns_spell es ≡ es
spells [] = refl
spells (Nothing ∷ es) = ap (λ r. Nothing ∷ r) (spells es)
spells (Opened number ∷ es) = ap (λ r. Opened number ∷ r) (spells es)
spells (NotOpened fault ∷ es) = ap (λ r. NotOpened fault ∷ r) (spells es)
spells (Due due ∷ es) = due_spells due.again.items due.given_up.items es (spells es)
spells (Delivered busy outcome ∷ es) = ap (λ r. Delivered busy outcome ∷ r) (spells es)
spells (Received (gots.Dropped reason) ∷ es) = ap (λ r. Received (gots.Dropped reason) ∷ r) (spells es)
spells (Received gots.Partial ∷ es) = ap (λ r. Received gots.Partial ∷ r) (spells es)
spells (Received (gots.Answered number) ∷ es) = ap (λ r. Received (gots.Answered number) ∷ r) (spells es)
spells (Sensed (Ok done) ∷ es) = ap (λ r. Sensed (Ok done) ∷ r) (spells es)
spells (Sensed (Err fault) ∷ es) = ap (λ r. Sensed (Err fault) ∷ r) (spells es)
spells (Restarted ∷ es) = ap (λ r. Restarted ∷ r) (spells es)

spelled_are : (es : List Entry) (marks : List Mark) (numbers : List ℕ) (dues : List DueNumbers) (outcomes : List Outcome)
    → AreOf es marks numbers dues outcomes → spelled marks numbers dues outcomes ≡ es
spelled_are es marks numbers dues outcomes a =
    ap (λ ms. spelled ms numbers dues outcomes) a.marked
    ∙ ap (λ ns. spelled (map mark_of es) ns dues outcomes) a.numbered
    ∙ ap (λ ds. spelled (map mark_of es) (flat_map numbers_in_entry es) ds outcomes) a.due
    ∙ ap (λ os. spelled (map mark_of es) (flat_map numbers_in_entry es) (flat_map dues_in_entry es) os) a.delivered
    ∙ spells es

-- ---- one entry more
pub column_more : {X : Type 0} (f : Entry → List X) (es : List Entry) (e : Entry) → flat_map f (es ++ e ∷ []) ≡ flat_map f es ++ f e
column_more f es e = flat_map-append f es (e ∷ []) ∙ ap (λ ys. flat_map f es ++ ys) (append-nil (f e))

-- what was added to the marks and columns is that of the entry
pub record AddsEntry
    (e : Entry) (marks : List Mark) (numbers : List ℕ) (dues : List DueNumbers) (outcomes : List Outcome)
    (new_marks : List Mark) (new_numbers : List ℕ) (new_dues : List DueNumbers) (new_outcomes : List Outcome) : Type 0 where
  pub marked : new_marks ≡ marks ++ mark_of e ∷ []
  pub numbered : new_numbers ≡ numbers ++ numbers_in_entry e
  pub due : new_dues ≡ dues ++ dues_in_entry e
  pub delivered : new_outcomes ≡ outcomes ++ outcomes_in_entry e

module _ (e : Entry) (marks : List Mark) (numbers : List ℕ) (dues : List DueNumbers) (outcomes : List Outcome)
    (new_marks : List Mark) (new_numbers : List ℕ) (new_dues : List DueNumbers) (new_outcomes : List Outcome)
    (adds : AddsEntry e marks numbers dues outcomes new_marks new_numbers new_dues new_outcomes) (is : IsSpelled marks numbers dues outcomes) where
  abbrev old : List Entry
  old = spelled marks numbers dues outcomes

  are_of_more : AreOf (old ++ e ∷ []) new_marks new_numbers new_dues new_outcomes
  are_of_more = record {
    marked = adds.marked ∙ ap (λ ms. ms ++ mark_of e ∷ []) is.marked ∙ sym (map-append mark_of old (e ∷ []));
    numbered = adds.numbered ∙ ap (λ ns. ns ++ numbers_in_entry e) is.numbered ∙ sym (column_more numbers_in_entry old e);
    due = adds.due ∙ ap (λ ds. ds ++ dues_in_entry e) is.due ∙ sym (column_more dues_in_entry old e);
    delivered = adds.delivered ∙ ap (λ os. os ++ outcomes_in_entry e) is.delivered ∙ sym (column_more outcomes_in_entry old e);
  }

  pub spelled_more : spelled new_marks new_numbers new_dues new_outcomes ≡ old ++ e ∷ []
  spelled_more = spelled_are (old ++ e ∷ []) new_marks new_numbers new_dues new_outcomes are_of_more

  pub is_spelled_more : IsSpelled new_marks new_numbers new_dues new_outcomes
  is_spelled_more = subst (λ es. AreOf es new_marks new_numbers new_dues new_outcomes) (sym spelled_more) are_of_more
