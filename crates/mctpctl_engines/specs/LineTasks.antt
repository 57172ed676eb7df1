-- The lines of a capture, where each gives a text or is refused.
use Rattle.std.specs.Prelude.{◌≡◌, ◌⊎◌, ◌<◌, ◌≤◌, ℕ, ◌+◌, length}
use Rattle.std.specs.Prelude.{List, ◌++◌, Result, Ok, Err, MatchResult}
use Rattle.mctpctl_engines.specs.LineRuns.{lines_written}
use Rattle.mctpctl_input.specs.OutsideFaults.{no_memory}
use Rattle.mctpctl_input.specs.declared.faults.EngineFault.{EngineFault}
use Rattle.mctpctl_input.specs.declared.faults.EngineFault.TheVariants.{Line}
use Rattle.mctpctl_input.specs.declared.faults.LineKind.{LineKind}
use Rattle.mctpctl_input.specs.declared.faults.LineKind.TheVariants.{LongLine}
use Rattle.mctpctl_input.specs.declared.limits.TheConstants.{MAX_CAPTURE_LINE}
use Rattle.mctpctl_engines.specs.LinePieces.{LinesGive}
use Rattle.mctpctl_engines.specs.declared.capture_lines.CaptureLines.{CaptureLines}

-- what is written of the lines to come, the first of them with the next number
abbrev pub task_writes
    : {S T : Type 0} → (S → List ℕ → Result (List ℕ × S) LineKind) → (T → S) → CaptureLines T → LinesGive
task_writes step state_of lines = λ is_cut more. lines_written step is_cut (lines.ended + 1) (state_of lines.task) more

-- a front of a capture's line that is not too long
abbrev pub FitsCapture : {T : Type 0} → CaptureLines T → ℕ → Type 0
FitsCapture lines size = size ≤ MAX_CAPTURE_LINE

-- a line that is taken adds its text, and leaves this state; a refused one is reported with its number and kind, and
-- adds nothing
abbrev pub AddsLine : {S : Type 0} → ℕ → Result (List ℕ × S) LineKind → S
    → List ℕ → List ℕ → Result Unit EngineFault → Type 0
AddsLine n stepped state old new result =
    MatchResult result
    (λ _. (text : List ℕ) × (stepped ≡ Ok (text, state)) × (new ≡ old ++ text))
    (λ fault. (new ≡ old) × ((fault ≡ no_memory) ⊎ ((kind : LineKind) × (fault ≡ Line n kind) × (stepped ≡ Err kind))))

-- a line over the limit is refused, whatever it says
abbrev pub RefusesLong : {S : Type 0} → (S → List ℕ → Result (List ℕ × S) LineKind) → Type 0
RefusesLong {S} step = (state : S) (line : List ℕ) → MAX_CAPTURE_LINE < length line → step state line ≡ Err LongLine
