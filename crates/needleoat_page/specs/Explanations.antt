-- What `--explain` says of how a run ended.
use Rattle.std.specs.List.{flat_map}
use Rattle.std.specs.Prelude.{◌≡◌, ◌⊎◌, ◌≤◌, ℕ, List, [], ◌∷◌, ◌++◌, codes, length, Option, None, Some, Result, Ok, Err}
use Rattle.mctpctl_explain.specs.Reasons.{ExplainsDevice, ExplainsLine}
use Rattle.mctpctl_explain.specs.declared.input_warnings.TheConstants.{MAX_WARNINGS}
use Rattle.mctpctl_input.specs.declared.faults.EngineFault.{EngineFault}

-- a text as a line; no line where it is empty
abbrev pub IsLineOf : List ℕ → List ℕ → Type 0
IsLineOf text line = ((text ≡ []) × (line ≡ [])) ⊎ (line ≡ text ++ 10 ∷ [])

-- the fault of a run that ended so, if it has one
abbrev pub fault_of : Result Unit EngineFault → Option EngineFault
fault_of (Ok done) = None
fault_of (Err fault) = Some fault

-- the line of the fault's explanation; none where there is no fault
abbrev pub Explains : Option EngineFault → List ℕ → Type 0
Explains None line = line ≡ []
Explains (Some fault) line =
    (text : List ℕ) × IsLineOf text line × ExplainsDevice fault text × ExplainsLine fault text

-- a line for each of these texts, behind the word for it
abbrev pub warning_lines : List (List ℕ) → List ℕ
warning_lines texts = flat_map (λ text. codes "warning: " ++ (text ++ 10 ∷ [])) texts

-- the lines of no more warnings than there may be
abbrev pub Warns : List ℕ → Type 0
Warns lines = (texts : List (List ℕ)) × (lines ≡ warning_lines texts) × (length texts ≤ MAX_WARNINGS)

-- first the explanation, and then the warnings
abbrev pub Tells : Option EngineFault → List ℕ → Type 0
Tells fault more = (line : List ℕ) × (lines : List ℕ) × (more ≡ line ++ lines) × Explains fault line × Warns lines
