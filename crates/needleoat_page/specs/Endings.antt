-- What a call of the page puts into the room, and how it says that the run ended.
use Rattle.std.specs.Prelude.{◌≡◌, ◌≤◌, ◌<◌, ℕ, ◌+◌, ◌==◌, if◌then◌else◌, List, [], ◌++◌, length, drop}
use Rattle.std.specs.Prelude.{Option, None, Some, IsSome}
use Rattle.mctpctl_engines.specs.LineRuns.{Written}
use Rattle.mctpctl_input.specs.FaultTexts.{fault_text}
use Rattle.mctpctl_input.specs.declared.binding.Binding.{Binding}
use Rattle.mctpctl_input.specs.declared.binding.Binding.TheVariants.{I2c, I3c, Serial}
use Rattle.mctpctl_input.specs.declared.faults.EngineFault.{EngineFault}
use Rattle.needleoat_page.specs.Explanations.{Tells}
use Rattle.needleoat_page.specs.declared.ending.Ending.{Ending}
use Rattle.needleoat_page.specs.declared.ending.TheConstants.{DONE, REFUSED, NO_ROOM}

-- the frames that a number names
abbrev pub binding_of : ℕ → Option Binding
binding_of n =
    if n == 1 then Some I2c
    else if n == 2 then Some I3c
    else if n == 3 then Some Serial
    else None

-- what is said of a fault, if there is one
abbrev pub said_of : Option EngineFault → List ℕ
said_of None = []
said_of (Some fault) = fault_text fault

-- the lengths are those of the text, of what is said and of what is more
abbrev pub HasLengths : List ℕ → List ℕ → List ℕ → Ending → Type 0
HasLengths text said more ending =
    (ending.text_length ≡ length text) × (ending.fault_length ≡ length said) × (ending.more_length ≡ length more)

-- the text is in front, then what is said, then what is more, and the rest of the room is as before
abbrev pub HasAll : List ℕ → List ℕ → List ℕ → (old new : List ℕ) → Type 0
HasAll text said more old new =
    new ≡ text ++ (said ++ (more ++ drop (length text + length said + length more) old))

-- the room was too small, and is as before
abbrev pub NeedsMore : List ℕ → List ℕ → List ℕ → (old new : List ℕ) → Type 0
NeedsMore text said more old new = (length old < length text + length said + length more) × (new ≡ old)

-- either all are put there, and the status is this one, or the room is too small
pub record IsPut (status : ℕ) (text said more old new : List ℕ) (ending : Ending) : Type 0 where
  pub lengths : HasLengths text said more ending
  pub status_is : ending.status ≤ REFUSED → ending.status ≡ status
  pub all : ending.status ≤ REFUSED → HasAll text said more old new
  pub needs : ending.status ≡ NO_ROOM → NeedsMore text said more old new

-- the answer of a call whose run writes this, and has this more to say
pub record Answers (written : Written) (more old new : List ℕ) (ending : Ending) : Type 0 where
  pub done : ending.status ≡ DONE → written.fault ≡ None
  pub refused : ending.status ≡ REFUSED → IsSome written.fault
  pub lengths : (ending.status ≤ REFUSED) → HasLengths written.text (said_of written.fault) more ending
  pub all : ending.status ≤ REFUSED → HasAll written.text (said_of written.fault) more old new
  pub needs : ending.status ≡ NO_ROOM
      → HasLengths written.text (said_of written.fault) more ending
      × NeedsMore written.text (said_of written.fault) more old new

-- a text, and the fault that ended it, if there is one
abbrev pub writing : List ℕ → Option EngineFault → Written
writing text fault = record { text = text; fault = fault }

-- as that, and what is more tells of the fault of what the run writes
pub record Reports (written : Written) (old new : List ℕ) (ending : Ending) : Type 0 where
  pub more : List ℕ
  pub answers : Answers written more old new ending
  pub tells : ending.status ≤ REFUSED → Tells written.fault more
