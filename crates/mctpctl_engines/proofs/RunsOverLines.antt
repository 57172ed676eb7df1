-- A run over lines, one line further: what it has written, and what the lines that are left give.
use Rattle.std.proofs.Common.{◌≡◌, inl, inr, ℕ, ◌+◌, ◌<◌, Bool, true, false, List, [], ◌∷◌, ◌++◌, ◌==◌, length, Option, Result, Ok, Err, refl, sym, ap, ◌∙◌, append_assoc, arith}
use Rattle.std.specs.Io.KnownBytes.{Appends, Keeps}
use Rattle.std.proofs.KnownBytes.{Appends-trans, Appends-kept}
use Rattle.std.proofs.lemmas.List.Splits.{length-slice_split}
use Rattle.line_words.specs.TextLines.{lines_of}
use Rattle.mctpctl_input.specs.declared.faults.EngineFault.{EngineFault}
use Rattle.mctpctl_input.specs.declared.faults.EngineFault.TheVariants.{Line}
use Rattle.mctpctl_input.specs.declared.faults.LineKind.{LineKind}
use Rattle.mctpctl_engines.specs.LineRuns.{Written, ends, stops_at, after_text, line_then, last_line, lines_from, lines_written, Writes}

abbrev with_fault : Option EngineFault → List ℕ → Written
with_fault fault text = record { text = text; fault = fault }

-- one text after another
pub after_after : (a b : List ℕ) (w : Written) → after_text a (after_text b w) ≡ after_text (a ++ b) w
after_after a b w = ap (with_fault w.fault) (sym (append_assoc a b w.text))

-- a text has at least one line
pub some_line : (text : List ℕ) → 0 < length (lines_of text)
some_line text = omega (arith, length-slice_split (λ b. b == 10) text)

-- what the rest of a run does, the whole run does
pub Writes-after : (whole rest : Written) (old now new : Option (List ℕ)) (text : List ℕ) (result : Result Unit EngineFault) → Appends old now text → whole ≡ after_text text rest → Writes rest now new result → Writes whole old new result
Writes-after whole rest old now new text (Ok unit) before e (fault, more) = (
  ap (λ (w : Written). w.fault) e ∙ fault,
  rw (ap (λ (w : Written). w.text) e) (Appends-trans old now new text rest.text before more),
)
Writes-after whole rest old now new text (Err f) before e (inl outside) = inl outside
Writes-after whole rest old now new text (Err f) before e (inr (fault, more)) =
    inr (
      ap (λ (w : Written). w.fault) e ∙ fault,
      rw (ap (λ (w : Written). w.text) e) (Appends-trans old now new text rest.text before more),
    )

-- a flush after a run leaves what it wrote
pub Writes-kept : (whole : Written) (old now new : Option (List ℕ)) (result : Result Unit EngineFault) → Writes whole old now result → Keeps now new → Writes whole old new result
Writes-kept whole old now new (Ok unit) (fault, text) kept = (fault, Appends-kept old now new whole.text text kept)
Writes-kept whole old now new (Err f) (inl outside) kept = inl outside
Writes-kept whole old now new (Err f) (inr (fault, text)) kept = inr (fault, Appends-kept old now new whole.text text kept)

-- two steps from states that stand for one another: the same text and such states again, or the same refusal
abbrev pub SameStep : {S T : Type 0} → (S → T → Type 0) → Result (List ℕ × S) LineKind → Result (List ℕ × T) LineKind → Type 0
SameStep Same (Ok (a, s)) (Ok (b, t)) = (a ≡ b) × Same s t
SameStep Same (Err a) (Err b) = a ≡ b
SameStep Same (Ok a) (Err b) = ⊥
SameStep Same (Err a) (Ok b) = ⊥

module _ {S T : Type 0} (f : S → List ℕ → Result (List ℕ × S) LineKind) (g : T → List ℕ → Result (List ℕ × T) LineKind) (Same : S → T → Type 0) (same_step : (s : S) (t : T) (line : List ℕ) → Same s t → SameStep Same (f s line) (g t line)) where
  same_then : (n : ℕ) (a : Result (List ℕ × S) LineKind) (b : Result (List ℕ × T) LineKind) (p : S → Written) (q : T → Written) → SameStep Same a b → ((s : S) (t : T) → Same s t → p s ≡ q t) → line_then n a p ≡ line_then n b q
  same_then n (Ok (a, s)) (Ok (b, t)) p q (text, stand) rest = ap (λ x. after_text x (p s)) text ∙ ap (after_text b) (rest s t stand)
  same_then n (Err a) (Err b) p q kind rest = ap (λ k. stops_at (Line n k)) kind
  same_then n (Ok a) (Err b) p q wrong rest = absurd wrong
  same_then n (Err a) (Ok b) p q wrong rest = absurd wrong

  same_last : (is_cut : Bool) (n : ℕ) (s : S) (t : T) (line : List ℕ) → Same s t → last_line f is_cut n s line ≡ last_line g is_cut n t line
  same_last true n s t line stand = refl
  same_last false n s t line stand = same_then n (f s line) (g t line) (λ _. ends) (λ _. ends) (same_step s t line stand) (λ _ _ _. refl)

  same_from : (is_cut : Bool) (n : ℕ) (s : S) (t : T) (line : List ℕ) (more : List (List ℕ)) → Same s t → lines_from f is_cut n s line more ≡ lines_from g is_cut n t line more
  same_from is_cut n s t line [] stand = same_last is_cut n s t line stand
  same_from is_cut n s t line (next ∷ more) stand =
      same_then n (f s line) (g t line) (λ u. lines_from f is_cut (n + 1) u next more) (λ u. lines_from g is_cut (n + 1) u next more) (same_step s t line stand) (λ u v later. same_from is_cut (n + 1) u v next more later)

  -- two runs from states that stand for one another write the same
  pub same_run : (is_cut : Bool) (n : ℕ) (s : S) (t : T) (lines : List (List ℕ)) → Same s t → lines_written f is_cut n s lines ≡ lines_written g is_cut n t lines
  same_run true n s t [] stand = refl
  same_run false n s t [] stand = refl
  same_run is_cut n s t (line ∷ more) stand = same_from is_cut n s t line more stand
