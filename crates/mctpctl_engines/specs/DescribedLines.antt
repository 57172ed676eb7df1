-- The lines of an input of which a description comes first.
use Rattle.std.specs.Prelude.{◌≡◌, ℕ, ◌+◌, ◌≤◌, nat_lt, Bool, true, false, if◌then◌else◌}
use Rattle.std.specs.Prelude.{List, [], ◌∷◌, ◌++◌, length, None, Some, Result, Ok, Err, refl}
use Rattle.mctpctl_engines.specs.AnswerText.{described_run}
use Rattle.mctpctl_engines.specs.DescriptionLines.{LinesPast, description_writes, run_described}
use Rattle.mctpctl_engines.specs.LinePieces.{LinesGive}
use Rattle.mctpctl_engines.specs.declared.described_lines.DescribedLines.{DescribedLines}
use Rattle.mctpctl_engines.specs.declared.described_lines.DescribedLines.TheVariants.{Before, Past}
use Rattle.mctpctl_engines.specs.LineRuns.{stops_at}
use Rattle.mctpctl_input.specs.TextLines.{is_divider}
use Rattle.mctpctl_input.specs.declared.faults.EngineFault.TheVariants as faults
use Rattle.mctpctl_input.specs.declared.limits.TheConstants.{MAX_DESCRIPTION, MAX_DIVIDER}
use Rattle.pldm_device.specs.Descriptions.{stated}
use Rattle.pldm_device.specs.declared.description.Description.{Description}
use Rattle.pldm_device.specs.declared.description_fault.FileFault.{FileFault}

-- what is written of the lines to come, before the description has ended and after
abbrev pub described_writes : {T : Type 0} → LinesPast → (T → LinesGive) → DescribedLines T → LinesGive
described_writes written past (Before lines) = description_writes written lines.text.items
described_writes written past (Past taker) = past taker

-- how many lines have ended after the divider
abbrev pub described_count : {T : Type 0} → (T → ℕ) → DescribedLines T → ℕ
described_count counted (Before lines) = 0
described_count counted (Past taker) = counted taker

-- how much of a line may be kept
abbrev pub described_may_keep : {T : Type 0} → (T → ℕ → Type 0) → DescribedLines T → ℕ → Type 0
described_may_keep may_keep (Before lines) size = length lines.text.items + size ≤ MAX_DESCRIPTION + MAX_DIVIDER
described_may_keep may_keep (Past taker) size = may_keep taker size

-- no line has come
abbrev pub IsFirst : {T : Type 0} → DescribedLines T → Type 0
IsFirst (Before lines) = lines.text.items ≡ []
IsFirst (Past taker) = ⊥

-- a run whose input is cut off in the next line writes nothing more

module _
    (written : LinesPast)
    (nothing_after : (description : Description) → (written description true []).text ≡ [])
  where
    device_writes_nothing : (said : Result Description FileFault) (long : Bool)
        → (if long then stops_at faults.TooLarge else described_run written true [] said).text ≡ []
    device_writes_nothing said true = refl
    device_writes_nothing (Ok description) false = nothing_after description
    device_writes_nothing (Err fault) false = refl

    pub description_where_cut : (text line : List ℕ) → (description_writes written text true (line ∷ [])).text ≡ []
    description_where_cut text line = by_line (is_divider line) where
      by_line : (here : Bool)
          → (run_described written true (text ++ (if here then [] else line)) (if here then Some [] else None)).text
          ≡ []
      by_line true = device_writes_nothing (stated (text ++ [])) (nat_lt MAX_DESCRIPTION (length (text ++ [])))
      by_line false = refl

pub nothing_where_cut : {T : Type 0} (written : LinesPast) (past : T → LinesGive)
    → ((description : Description) → (written description true []).text ≡ [])
    → ((taker : T) (line : List ℕ) → (past taker true (line ∷ [])).text ≡ [])
    → (lines : DescribedLines T) (line : List ℕ) → (described_writes written past lines true (line ∷ [])).text ≡ []
nothing_where_cut written past nothing_after none_past (Before lines) line =
    description_where_cut written nothing_after lines.text.items line
nothing_where_cut written past nothing_after none_past (Past taker) line = none_past taker line
