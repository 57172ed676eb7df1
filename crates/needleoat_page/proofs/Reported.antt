-- What a call reports.
use Rattle.std.proofs.Common.{◌≡◌, ◌≤◌, ◌++◌, ℕ, List, [], Option, None, Some, Result, Ok, Err}
use Rattle.std.proofs.Common.{length, inl, inr, ap, sym, subst, ◌∙◌, arith}
use Rattle.std.specs.Prelude.{IfErr}
use Rattle.mctpctl_engines.specs.LineRuns.{Written, Writes}
use Rattle.mctpctl_explain.specs.Reasons.{ExplainsDevice, ExplainsLine}
use Rattle.mctpctl_explain.specs.declared.input_warnings.TheConstants.{MAX_WARNINGS}
use Rattle.mctpctl_input.specs.OutsideFaults.{IsOutside}
use Rattle.mctpctl_input.specs.declared.faults.EngineFault.{EngineFault}
use Rattle.needleoat_page.specs.Endings.{Answers, Reports, writing}
use Rattle.needleoat_page.specs.Explanations.{Explains, IsLineOf, Tells, Warns, fault_of, warning_lines}
use Rattle.needleoat_page.specs.declared.ending.Ending.{Ending}
use Rattle.needleoat_page.specs.declared.ending.TheConstants.{NOT_RUN}

-- the line of an explanation
pub explains : (fault : EngineFault) (text line : List ℕ) → IsLineOf text line → ExplainsDevice fault text → ExplainsLine fault text
    → Explains (Some fault) line
explains fault text line is device of_line = (text, is, device, of_line)

-- the lines of warnings
pub warned : (texts : List (List ℕ)) (lines : List ℕ) → lines ≡ warning_lines texts → length texts ≤ MAX_WARNINGS → Warns lines
warned texts lines are few = (texts, are, few)

-- the explanation, and then the warnings
pub tells : (fault : Option EngineFault) (line lines more : List ℕ) → more ≡ line ++ lines → Explains fault line → Warns lines
    → Tells fault more
tells fault line lines more is explained warned = (line, lines, is, explained, warned)

-- nothing is said of a run that could not be done
pub not_run : (written : Written) (old new : List ℕ) (ending : Ending) → ending.status ≡ NOT_RUN → Reports written old new ending
not_run written old new ending is = record {
  more = [];
  answers = record {
    done = λ e. absurd (omega (arith, is, e));
    refused = λ e. absurd (omega (arith, is, e));
    lengths = λ e. absurd (omega (arith, is, e));
    all = λ e. absurd (omega (arith, is, e));
    needs = λ e. absurd (omega (arith, is, e));
  };
  tells = λ e. absurd (omega (arith, is, e));
}

-- two parts of what is written are the whole
same : (written : Written) (text : List ℕ) (fault : Option EngineFault) → written.fault ≡ fault → text ≡ written.text
    → writing text fault ≡ written
same written text fault of_fault of_text =
    ap (λ (t : List ℕ). writing t fault) of_text ∙ ap (λ (f : Option EngineFault). writing written.text f) (sym of_fault)

-- what is said of one that was done, and wrote this text
done : (written : Written) (text more old new : List ℕ) (fault : Option EngineFault) (ending : Ending) → written.fault ≡ fault
    → text ≡ written.text → Answers (writing text fault) more old new ending → Tells fault more → Reports written old new ending
done written text more old new fault ending of_fault of_text answers tells = record {
  more = more;
  answers = subst (λ (w : Written). Answers w more old new ending) (same written text fault of_fault of_text) answers;
  tells = λ low. subst (λ (f : Option EngineFault). Tells f more) (sym of_fault) tells;
}

-- what is said of a run
pub reported : (written : Written) (text more old new : List ℕ) (ended : Result Unit EngineFault) (ending : Ending)
    → Writes written (Some []) (Some text) ended
    → Answers (writing text (fault_of ended)) more old new ending
    → IfErr ended (λ fault. IsOutside fault → ending.status ≡ NOT_RUN)
    → Tells (fault_of ended) more
    → Reports written old new ending
reported written text more old new (Ok unit) ending (none, appended) answers outside tells =
    done written text more old new None ending none appended answers tells
reported written text more old new (Err fault) ending (inl out) answers outside tells = not_run written old new ending (outside out)
reported written text more old new (Err fault) ending (inr (is, appended)) answers outside tells =
    done written text more old new (Some fault) ending is appended answers tells
