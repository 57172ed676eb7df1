-- The lines of an input that comes in pieces, and a run over them.
use Rattle.std.specs.Prelude.{◌≡◌, ◌≢◌, ◌⊎◌, ℕ, Bool, true, List, [], ◌∷◌, ◌++◌, Result, MatchResult}
use Rattle.line_words.specs.TextLines.{lines_of}
use Rattle.mctpctl_engines.specs.declared.line_run.LineRun.{LineRun}
use Rattle.mctpctl_engines.specs.LineRuns.{Written, after_text, stops_at}
use Rattle.mctpctl_input.specs.OutsideFaults.{no_memory}
use Rattle.mctpctl_engines.specs.Pieces.{Gives}
use Rattle.mctpctl_input.specs.declared.faults.EngineFault.{EngineFault}

-- the lines, the first of which began earlier, with `front`
abbrev pub glued : List ℕ → List (List ℕ) → List (List ℕ)
glued front [] = front ∷ []
glued front (line ∷ more) = (front ++ line) ∷ more

-- the lines of what was kept and the bytes to come
abbrev pub lines_after : List ℕ → List ℕ → List (List ℕ)
lines_after kept bytes = glued kept (lines_of bytes)

-- what is written of the lines to come, if the input is cut off in the last of them or they are all
abbrev pub LinesGive : Type 0
LinesGive = Bool → List (List ℕ) → Written

-- whatever lines come after this one: it gives the text, and `after` is what they give
abbrev pub LineGoesOn : LinesGive → List ℕ → List ℕ → LinesGive → Type 0
LineGoesOn before line text after =
    (is_cut : Bool) (next : List ℕ) (more : List (List ℕ))
    → before is_cut (line ∷ next ∷ more) ≡ after_text text (after is_cut (next ∷ more))

-- whatever lines come after this one: it ends the run with the fault
abbrev pub LineStops : LinesGive → List ℕ → EngineFault → Type 0
LineStops before line fault =
    (is_cut : Bool) (next : List ℕ) (more : List (List ℕ)) → before is_cut (line ∷ next ∷ more) ≡ stops_at fault

-- out of memory, or the line ends the run with the fault
abbrev pub EndsAt : LinesGive → List ℕ → EngineFault → Type 0
EndsAt before line fault = (fault ≡ no_memory) ⊎ ((fault ≢ no_memory) × LineStops before line fault)

-- a line that is taken gives text, which is added; one that ends the run gives none
abbrev pub TakesLine : LinesGive → List ℕ → LinesGive → List ℕ → List ℕ → Result Unit EngineFault → Type 0
TakesLine before line after old new result =
    MatchResult result
    (λ _. (text : List ℕ) × (new ≡ old ++ text) × LineGoesOn before line text after)
    (λ fault. (new ≡ old) × EndsAt before line fault)

-- a line that begins so ends the run with the fault, however it ends
abbrev pub FrontStops : LinesGive → List ℕ → EngineFault → Type 0
FrontStops before front fault =
    (fault ≢ no_memory) × ((is_cut : Bool) (lines : List (List ℕ)) → before is_cut (glued front lines) ≡ stops_at fault)

-- what is written of the bytes to come, where `kept` has come of a line
abbrev pub pieces_give : LinesGive → List ℕ → Gives
pieces_give writes kept = λ is_cut bytes. writes is_cut (lines_after kept bytes)

-- the same of a run, where `writes` says what its taker writes
abbrev pub run_gives : {T : Type 0} → (T → LinesGive) → LineRun T → Gives
run_gives writes run = pieces_give (writes run.taker) run.kept.items

-- a run whose input is cut off at once writes nothing more
pub nothing_where_cut : {T : Type 0} (writes : T → LinesGive)
    → ((taker : T) (line : List ℕ) → (writes taker true (line ∷ [])).text ≡ [])
    → (run : LineRun T) → (run_gives writes run true []).text ≡ []
nothing_where_cut writes none run = none run.taker (run.kept.items ++ [])
