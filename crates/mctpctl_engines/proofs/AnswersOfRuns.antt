-- A run of which nothing has come gives the text of its input.
use Rattle.std.proofs.Common.{◌≡◌, ℕ, Bool, List, [], refl, sym, ap, ◌∙◌}
use Rattle.mctpctl_engines.specs.AnswerText.{run_of}
use Rattle.mctpctl_engines.specs.DescribedLines.{IsFirst, described_writes}
use Rattle.mctpctl_engines.specs.DescriptionLines.{LinesPast, description_writes}
use Rattle.mctpctl_engines.specs.LinePieces.{LinesGive, pieces_give, run_gives}
use Rattle.mctpctl_engines.specs.declared.described_lines.DescribedLines.{DescribedLines}
use Rattle.mctpctl_engines.specs.declared.described_lines.DescribedLines.TheVariants.{Before, Past}
use Rattle.mctpctl_engines.specs.declared.line_run.LineRun.{LineRun}
use Rattle.mctpctl_engines.proofs.DescriptionGlue.{run_of_all}
use Rattle.mctpctl_engines.proofs.LineGlue.{none_kept}
use Rattle.mctpctl_engines.specs.Pieces.{Gives}

first_lines : {T : Type 0} (written : LinesPast) (past : T → LinesGive) (first : DescribedLines T) (whole : Gives) → IsFirst first
    → ((is_cut : Bool) (bytes : List ℕ) → run_of written is_cut bytes ≡ whole is_cut bytes)
    → pieces_give (described_writes written past first) [] ≡ whole
first_lines written past (Before lines) whole no_text same =
    ap (λ text. pieces_give (description_writes written text) []) no_text
    ∙ (λ i is_cut bytes. (ap (description_writes written [] is_cut) (none_kept [] bytes refl) ∙ sym (run_of_all written is_cut bytes) ∙ same is_cut bytes) i)
first_lines written past (Past taker) whole wrong same = absurd wrong

-- at first the run gives the text of its input, or of what writes the same of it
pub first_gives : {T : Type 0} (written : LinesPast) (past : T → LinesGive) (run : LineRun (DescribedLines T)) (first : DescribedLines T) (whole : Gives)
    → run.taker ≡ first → run.kept.items ≡ [] → IsFirst first
    → ((is_cut : Bool) (bytes : List ℕ) → run_of written is_cut bytes ≡ whole is_cut bytes)
    → run_gives (described_writes written past) run ≡ whole
first_gives written past run first whole taker empty is same =
    ap (λ t. pieces_give (described_writes written past t) run.kept.items) taker
    ∙ ap (pieces_give (described_writes written past first)) empty
    ∙ first_lines written past first whole is same
