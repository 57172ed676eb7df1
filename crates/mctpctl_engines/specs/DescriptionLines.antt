-- The lines of a description, before the line that divides.
use Rattle.std.specs.Prelude.{◌≡◌, ◌≢◌, ◌⊎◌, [], ◌∷◌, Result, Ok, Err, ℕ, nat_lt}
use Rattle.std.specs.Prelude.{Bool, if◌then◌else◌, List, ◌++◌, length, Option, None, Some}
use Rattle.mctpctl_engines.specs.AnswerText.{described_run}
use Rattle.mctpctl_engines.specs.LinePieces.{EndsAt, LineGoesOn, LinesGive}
use Rattle.mctpctl_engines.specs.LineRuns.{Written, stops_at}
use Rattle.mctpctl_input.specs.OutsideFaults.{no_memory}
use Rattle.mctpctl_input.specs.TextLines.{capture_lines, description_of}
use Rattle.mctpctl_input.specs.declared.faults.EngineFault.{EngineFault}
use Rattle.mctpctl_input.specs.declared.faults.EngineFault.TheVariants as faults
use Rattle.mctpctl_input.specs.declared.limits.TheConstants.{MAX_DESCRIPTION}
use Rattle.pldm_device.specs.Descriptions.{stated}
use Rattle.pldm_device.specs.declared.description.Description.{Description}
use Rattle.pldm_device.specs.declared.description_fault.FileFault.{FileFault}

-- what is written of the lines after the divider, where this is the description
abbrev pub LinesPast : Type 0
LinesPast = Description → LinesGive

module _ (past : LinesPast) where
  -- the run over the lines after the divider, if a line divides, where this is the description
  abbrev pub run_described : Bool → List ℕ → Option (List (List ℕ)) → Written
  run_described is_cut text None =
      stops_at (if nat_lt MAX_DESCRIPTION (length text) then faults.TooLarge else faults.NoDivider)
  run_described is_cut text (Some lines) =
      if nat_lt MAX_DESCRIPTION (length text)
      then stops_at faults.TooLarge
      else described_run past is_cut lines (stated text)

  -- what is written of the lines to come, where `text` is what came of the description before
  abbrev pub description_writes : List ℕ → LinesGive
  description_writes text = λ is_cut lines. run_described is_cut (text ++ description_of lines) (capture_lines lines)

  -- what a line of the description gives: more description, or the lines past it
  abbrev pub Describes : LinesGive → List ℕ → LinesGive → Result (Option Description) EngineFault → Type 0
  Describes before line after (Ok None) = LineGoesOn before line [] after
  Describes before line after (Ok (Some description)) = LineGoesOn before line [] (past description)
  Describes before line after (Err fault) = EndsAt before line fault

  -- what the last line gives: the run past the description over no line, or why it ends there
  abbrev pub EndsDescription : LinesGive → List ℕ → Result Description EngineFault → Type 0
  EndsDescription before last (Ok description) =
      (is_cut : Bool) → before is_cut (last ∷ []) ≡ past description is_cut []
  EndsDescription before last (Err fault) =
      (fault ≡ no_memory) ⊎ ((fault ≢ no_memory) × ((is_cut : Bool) → before is_cut (last ∷ []) ≡ stops_at fault))

-- the device that the text before the divider describes, or why the run ends there
abbrev pub device_begun : Result Description FileFault → Result Description EngineFault
device_begun (Ok description) = Ok description
device_begun (Err fault) = Err (faults.Device fault)

abbrev pub begun : List ℕ → Result Description EngineFault
begun text = if nat_lt MAX_DESCRIPTION (length text) then Err faults.TooLarge else device_begun (stated text)

-- the result is the value or the fault that there is; memory may run out at any input
abbrev pub IsReturned : {T : Type 0} → Result T EngineFault → Result T EngineFault → Type 0
IsReturned expected (Ok value) = expected ≡ Ok value
IsReturned expected (Err fault) = (fault ≡ no_memory) ⊎ ((fault ≢ no_memory) × (expected ≡ Err fault))
