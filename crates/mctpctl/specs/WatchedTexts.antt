-- What `watch` asks and prints.
use Rattle.std.specs.Fmt.{decimal}
use Rattle.std.specs.Prelude.{◌≡◌, ℕ, zero, suc, List, [], ◌∷◌, ◌++◌, codes, length, max, slice_get, Some}
use Rattle.pldm_line.specs.Asked.{AskStops, Asks, Shown}
use Rattle.pldm_line.specs.Ends.{answer_of}
use Rattle.pldm_line.specs.declared.ask_fault.AskFault.{AskFault}
use Rattle.pldm_line.specs.declared.asking_line.Ended.{Ended}
use Rattle.mctpctl_table.specs.Marks.{marked_text}
use Rattle.mctpctl_table.specs.Tables.{Cells}
use Rattle.pldm_discovery.specs.Subjects.{question}
use Rattle.pldm_wire.specs.declared.command.Command.{Command}
use Rattle.pldm_discovery.specs.Walks.{Walking}
use Rattle.pldm_discovery.specs.declared.discovered.Discovered.{Discovered}
use Rattle.mctpctl.specs.AskedTexts.{status_of_answer}
use Rattle.mctpctl.specs.WalkedTexts.{rows_heard}
use Rattle.mctpctl.specs.declared.statuses.TheConstants.{DONE}

-- what was found at a place is asked for by this command
abbrev pub AsksFor : Walking → ℕ → Command → Type 0
AsksFor w place command =
    (found : Discovered) × (slice_get w.found place ≡ Some found) × (command ≡ question found.subject)

-- it was asked for, and the answer to that very request gave its rows and the exit status
pub record ReadsOne (w : Walking) (place : ℕ) (s s1 : Shown) (rows rows1 : List Cells) (status : ℕ) : Type 0 where
  pub command : Command
  pub asks_for : AsksFor w place command
  pub number : ℕ
  pub ended : Ended
  pub asks : Asks command number ended s s1
  pub rows_are : rows1 ≡ rows ++ rows_heard w (slice_get w.found place) (answer_of s1.asking.held number)
  pub status_is : status ≡ status_of_answer (answer_of s1.asking.held number)

-- what was found at the first places, so many, was read one after the other; this is the greatest of the exit statuses
abbrev pub ReadsFirst : Walking → ℕ → Shown → Shown → List Cells → ℕ → Type 0
ReadsFirst w zero s s1 rows status = (s1 ≡ s) × (rows ≡ []) × (status ≡ DONE)
ReadsFirst w (suc place) s s1 rows status =
    (mid : Shown) × (before : List Cells) × (so_far : ℕ) × (one : ℕ) × ReadsFirst w place s mid before so_far
    × ReadsOne w place mid s1 before rows one × (status ≡ max so_far one)

abbrev pub ReadsAll : Walking → Shown → Shown → List Cells → ℕ → Type 0
ReadsAll w s s1 rows status = ReadsFirst w (length w.found) s s1 rows status

-- the line stopped where what was found at a place was asked for
pub record StopsOne (w : Walking) (place : ℕ) (fault : AskFault) (s s1 : Shown) : Type 0 where
  pub command : Command
  pub asks_for : AsksFor w place command
  pub stops : AskStops command fault s s1

-- what was found at the first places was read; then the line stopped at the next
pub record StopsReading (w : Walking) (fault : AskFault) (s s1 : Shown) : Type 0 where
  pub place : ℕ
  pub last : Shown
  pub rows : List Cells
  pub status : ℕ
  pub read : ReadsFirst w place s last rows status
  pub stops : StopsOne w place fault last s1

-- the moment, the rows with those that have changed marked, and a blank line
abbrev pub round_text : ℕ → List Cells → List Cells → List ℕ
round_text moment rows before = decimal moment ++ codes " ms" ++ 10 ∷ marked_text rows before ++ 10 ∷ []
