-- The lines of a capture, one line further.
use Rattle.std.proofs.Common.{◌≡◌, ◌≢◌, inl, inr, ℕ, ◌+◌, ◌<◌, Bool, true, false, nat_lt, List, [], ◌∷◌, ◌++◌, length, Some, Result, Ok, Err, refl, sym, ap, ◌∙◌, append-nil, length-append, arith, rules}
use Rattle.std.proofs.lemmas.Bool.Decides.{nat_tests}
use Rattle.mctpctl_engines.specs.LinePieces.{FrontStops, LinesGive, TakesLine, glued}
use Rattle.mctpctl_engines.specs.LineTasks.{AddsLine, RefusesLong}
use Rattle.mctpctl_engines.specs.LineRuns.{Written, ends, stops_at, line_then, lines_from, lines_written}
use Rattle.mctpctl_input.specs.OutsideFaults.{no_memory}
use Rattle.mctpctl_engines.specs.Pieces.{Finishes}
use Rattle.mctpctl_input.specs.declared.faults.EngineFault.{EngineFault}
use Rattle.mctpctl_input.specs.declared.faults.EngineFault.TheVariants.{Line}
use Rattle.mctpctl_input.specs.declared.faults.LineKind.{LineKind}
use Rattle.mctpctl_input.specs.declared.faults.LineKind.TheVariants.{LongLine}
use Rattle.mctpctl_input.specs.declared.limits.TheConstants.{MAX_CAPTURE_LINE}

-- a refused line is not for want of memory
apart : (fault : EngineFault) (n : ℕ) (kind : LineKind) → fault ≡ Line n kind → fault ≢ no_memory
apart fault n kind is = λ memory. let wrong : Line n kind ≡ no_memory = sym is ∙ memory in cc

module _ {S : Type 0} (step : S → List ℕ → Result (List ℕ × S) LineKind) where
  -- what is written of the lines to come, the first of them line n
  abbrev pub writes_from : ℕ → S → LinesGive
  writes_from n s = λ is_cut lines. lines_written step is_cut n s lines

  -- a line, as its answer has it
  pub task_takes : (n : ℕ) (s t : S) (line old new : List ℕ) (result : Result Unit EngineFault) → AddsLine n (step s line) t old new result → TakesLine (writes_from n s) line (writes_from (n + 1) t) old new result
  task_takes n s t line old new (Ok unit) (text, taken, added) = (
    text,
    added,
    λ is_cut next more. ap (λ r. line_then n r (λ u. lines_from step is_cut (n + 1) u next more)) taken,
  )
  task_takes n s t line old new (Err fault) (same, inl memory) = (same, inl memory)
  task_takes n s t line old new (Err fault) (same, inr (kind, is, refused)) = (
    same,
    inr (
      apart fault n kind is,
      λ is_cut next more. ap (λ r. line_then n r (λ u. lines_from step is_cut (n + 1) u next more)) refused ∙ ap stops_at (sym is),
    ),
  )

  -- the last line of all
  pub last_finishes : (n : ℕ) (s t : S) (line old new : List ℕ) (result : Result Unit EngineFault) → AddsLine n (step s line) t old new result → Finishes (writes_from n s false (line ∷ [])) old new result
  last_finishes n s t line old new (Ok unit) (text, taken, added) =
      let whole = ap (λ r. line_then n r (λ _. ends)) taken in
      (ap (λ (w : Written). w.fault) whole, added ∙ ap (λ l. old ++ l) (sym (ap (λ (w : Written). w.text) whole ∙ append-nil text)))
  last_finishes n s t line old new (Err fault) (same, inl memory) = inl (memory, same)
  last_finishes n s t line old new (Err fault) (same, inr (kind, is, refused)) =
      let whole = ap (λ r. line_then n r (λ _. ends)) refused in
      inr (apart fault n kind is, ap (λ (w : Written). w.fault) whole ∙ ap Some (sym is), same ∙ sym (append-nil old) ∙ ap (λ l. old ++ l) (sym (ap (λ (w : Written). w.text) whole)))

  module _ (refuses : RefusesLong step) where
    long_from : (is_cut : Bool) (n : ℕ) (s : S) (line : List ℕ) (more : List (List ℕ)) → MAX_CAPTURE_LINE < length line → lines_from step is_cut n s line more ≡ stops_at (Line n LongLine)
    long_from true n s line [] long =
        let test : nat_lt MAX_CAPTURE_LINE (length line) ≡ true = search (rules, nat_tests) in
        rw test refl
    long_from false n s line [] long = ap (λ r. line_then n r (λ _. ends)) (refuses s line long)
    long_from is_cut n s line (next ∷ more) long = ap (λ r. line_then n r (λ t. lines_from step is_cut (n + 1) t next more)) (refuses s line long)

    long_glued : (is_cut : Bool) (n : ℕ) (s : S) (front : List ℕ) (lines : List (List ℕ)) → MAX_CAPTURE_LINE < length front → lines_written step is_cut n s (glued front lines) ≡ stops_at (Line n LongLine)
    long_glued is_cut n s front [] long = long_from is_cut n s front [] long
    long_glued is_cut n s front (line ∷ more) long = long_from is_cut n s (front ++ line) more (omega (arith, length-append {A = ℕ}))

    -- a line that is too long is refused before it ends
    pub front_too_long : (n : ℕ) (s : S) (front : List ℕ) → MAX_CAPTURE_LINE < length front → FrontStops (writes_from n s) front (Line n LongLine)
    front_too_long n s front long = (apart (Line n LongLine) n LongLine refl, λ is_cut lines. long_glued is_cut n s front lines long)
