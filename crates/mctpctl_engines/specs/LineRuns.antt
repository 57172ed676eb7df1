-- What a run over the lines of its input writes, line by line, and the fault that ends it.
use Rattle.std.specs.Prelude.{◌≡◌, ◌⊎◌, ℕ, ◌+◌, Bool, nat_lt, if◌then◌else◌}
use Rattle.std.specs.Prelude.{List, [], ◌∷◌, ◌++◌, length, Option, None, Some, Result, Ok, Err, MatchResult}
use Rattle.std.specs.Io.KnownBytes.{Appends}
use Rattle.mctpctl_input.specs.OutsideFaults.{IsOutside}
use Rattle.mctpctl_input.specs.declared.faults.EngineFault.{EngineFault}
use Rattle.mctpctl_input.specs.declared.faults.EngineFault.TheVariants.{Line, TooLarge}
use Rattle.mctpctl_input.specs.declared.faults.LineKind.{LineKind}
use Rattle.mctpctl_input.specs.declared.faults.LineKind.TheVariants.{LongLine}
use Rattle.mctpctl_input.specs.declared.limits.TheConstants.{MAX_CAPTURE_LINE}

-- the text of the lines that ended, and the fault that the input has after them
pub record Written : Type 0 where
  pub text : List ℕ
  pub fault : Option EngineFault

abbrev pub ends : Written
ends = record { text = []; fault = None }

abbrev pub stops_at : EngineFault → Written
stops_at fault = record { text = []; fault = Some fault }

abbrev pub after_text : List ℕ → Written → Written
after_text text rest = record { text = text ++ rest.text; fault = rest.fault }

-- what line n gives, and then the rest of the run from the state that it leaves
abbrev pub line_then : {S : Type 0} → ℕ → Result (List ℕ × S) LineKind → (S → Written) → Written
line_then n (Ok (text, state)) rest = after_text text (rest state)
line_then n (Err kind) rest = stops_at (Line n kind)

-- the front of a line in which the input is cut off: too long a line already, or too large an input
abbrev pub cut_off : ℕ → List ℕ → Written
cut_off n line = stops_at (if nat_lt MAX_CAPTURE_LINE (length line) then Line n LongLine else TooLarge)

module _ {S : Type 0} (step : S → List ℕ → Result (List ℕ × S) LineKind) where
  -- the last piece of the input, which no line feed ends
  abbrev pub last_line : Bool → ℕ → S → List ℕ → Written
  last_line is_cut n state line = if is_cut then cut_off n line else line_then n (step state line) (λ _. ends)

  -- a line, and then the lines after it
  abbrev pub lines_from : Bool → ℕ → S → List ℕ → List (List ℕ) → Written
  lines_from is_cut n state line [] = last_line is_cut n state line
  lines_from is_cut n state line (next ∷ more) =
      line_then n (step state line) (λ after. lines_from is_cut (n + 1) after next more)

  -- what a run over these lines writes, the first of them with number n
  abbrev pub lines_written : Bool → ℕ → S → List (List ℕ) → Written
  lines_written is_cut n state [] = if is_cut then stops_at TooLarge else ends
  lines_written is_cut n state (line ∷ more) = lines_from is_cut n state line more

-- a run that is Ok has written all the text, and the input has no fault; a fault of the input is reported after the
-- text before it
abbrev pub Writes : Written → Option (List ℕ) → Option (List ℕ) → Result Unit EngineFault → Type 0
Writes written old new result =
    MatchResult result
    (λ _. (written.fault ≡ None) × Appends old new written.text)
    (λ fault. IsOutside fault ⊎ ((written.fault ≡ Some fault) × Appends old new written.text))
