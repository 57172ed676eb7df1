-- Where a line is reached, all lines before it are good.
use Rattle.std.proofs.Common.{◌≡◌, ℕ, ◌+◌, ◌-◌, List, [], ◌∷◌, ◌++◌, Result, Ok, Err, length, take, refl, ap, ◌∙◌, arith, length-append}
use Rattle.schedule_text.specs.Schedules.{IsReached, Spelled, after_line, none_spelled, spelled_from, spelled_then}
use Rattle.schedule_text.specs.declared.line_fault.LineFault.{LineFault}
use Rattle.schedule_text.specs.declared.line_fault.LineFaultKind.{LineFaultKind}

same_spelled : (a b : Spelled) → ◌≡◌ {A = Result Spelled LineFault} (Ok a) (Ok b) → a ≡ b
same_spelled a b e = cc

-- a line that is good after good lines
pub one_more : (n : ℕ) (before : Spelled) (done : List (List ℕ)) (line : List ℕ) (spelled new : Spelled)
    → spelled_from n before done ≡ Ok spelled → after_line spelled line ≡ Ok new → spelled_from n before (done ++ line ∷ []) ≡ Ok new
one_more n before [] line spelled new good here =
    ap (λ s. spelled_then n (after_line s line) (λ x. Ok x)) (same_spelled before spelled good) ∙ ap (λ r. spelled_then n r (λ x. Ok x)) here
one_more n before (first ∷ done) line spelled new good here =
    go (λ s good. one_more (n + 1) s done line spelled new good here) (after_line before first) good
  where
    go : ((s : Spelled) → spelled_from (n + 1) s done ≡ Ok spelled → spelled_from (n + 1) s (done ++ line ∷ []) ≡ Ok new)
        → (r : Result Spelled LineFaultKind) → spelled_then n r (λ s. spelled_from (n + 1) s done) ≡ Ok spelled
        → spelled_then n r (λ s. spelled_from (n + 1) s (done ++ line ∷ [])) ≡ Ok new
    go ih (Ok s) good = ih s good
    go ih (Err kind) good = absurd (cc)

front_is : (done rest : List (List ℕ)) → take (length done) (done ++ rest) ≡ done
front_is [] rest = refl
front_is (line ∷ done) rest = ap (λ lines. line ∷ lines) (front_is done rest)

pub reached : (lines done more : List (List ℕ)) (line : List ℕ) (n : ℕ) (spelled : Spelled)
    → lines ≡ done ++ line ∷ more → n ≡ length done + 1 → spelled_from 1 none_spelled done ≡ Ok spelled → IsReached lines n
reached lines done more line n spelled all number good =
    let long = ap (λ (ls : List (List ℕ)). length ls) all ∙ length-append done (line ∷ more) in
    let before : n - 1 ≡ length done = omega (arith, number) in
    record {
      first = omega (arith, number);
      there = omega (arith, number, long);
      spelled = spelled;
      good = ap (λ ls. spelled_from 1 none_spelled (take (n - 1) ls)) all
          ∙ ap (λ k. spelled_from 1 none_spelled (take k (done ++ line ∷ more))) before
          ∙ ap (spelled_from 1 none_spelled) (front_is done (line ∷ more)) ∙ good;
    }
