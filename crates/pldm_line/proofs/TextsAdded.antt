-- A text is added to a log that is open, or there was no memory for it.
use Rattle.std.proofs.Common.{◌≡◌, ◌≢◌, ℕ, true, false, List, [], Option, None, Result, Ok, Err, IfOk, OnErr, sym, subst, ◌∙◌, inr}
use Rattle.pldm_line.specs.Logs.{AddsText}
use Rattle.pldm_line.specs.declared.log.TextLog.{TextLog}

pub true-is-not-false : true ≡ false → ⊥
true-is-not-false e = subst (λ b. elim b as (λ _. Type 0) [ true ↦ Unit {0} | false ↦ ⊥ ]) e tt

pub text_added : {W X E : Type 0} (contents : W → Option (List ℕ)) (bytes : X → List ℕ) (made : Result X E) (text : List ℕ) (old new : TextLog W)
    → old.failed ≡ false → old.port ≢ None → IfOk made (λ t. bytes t ≡ text) → OnErr made (text ≢ [])
    → IfOk made (λ t. AddsText contents old (bytes t) new) → OnErr made (new.failed ≡ true) → OnErr made (new.port ≡ old.port)
    → AddsText contents old text new
text_added contents bytes (Ok t) text old new works there same some adds fails kept = subst (λ (l : List ℕ). AddsText contents old l new) same adds
text_added contents bytes (Err e) text old new works there same some adds fails kept = record {
  added = λ worked. absurd (true-is-not-false (sym fails ∙ worked));
  works = λ worked. absurd (true-is-not-false (sym fails ∙ worked));
  fails = λ _ _. inr kept;
  stays = λ failed. absurd (true-is-not-false (sym failed ∙ works));
  no_port = λ none. absurd (there none);
  no_text = λ none. absurd (some none);
}
