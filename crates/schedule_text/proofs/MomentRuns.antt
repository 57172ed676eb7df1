-- Runs of moments, one step further.
use Rattle.std.proofs.Common.{◌≡◌, ℕ, ◌+◌, ◌-◌, ◌<◌, Some, List, [], ◌∷◌, ◌++◌, length, get_or, zero, suc, refl, sym, ap, ◌∙◌, append_assoc, append-nil, arith}
use Rattle.std.specs.Prelude.{map, replicate, slice_get, slice_set}
use Rattle.std.proofs.lemmas.Grind.{replicate_next}
use Rattle.schedule_text.specs.MomentRuns.{HaveSteps, moments_in, moments_of}
use Rattle.schedule_text.specs.Schedules.{last_from}
use Rattle.schedule_text.specs.StepColumns.{moment_of_step}
use Rattle.schedule_text.specs.declared.step.Step.{Step}
use Rattle.schedule_text.specs.declared.moments.MomentRun.{MomentRun}

-- a run with one step more
abbrev longer : MomentRun → MomentRun
longer run = record { moment = run.moment; count = run.count + 1 }

-- the last run has one step more
last_longer : (runs : List MomentRun) (run : MomentRun) → 0 < length runs → run ≡ get_or runs (length runs - 1) run → moments_in (slice_set runs (length runs - 1) (longer run)) ≡ moments_in runs ++ run.moment ∷ []
last_longer [] run some e = absurd (omega arith)
last_longer (first ∷ []) run some e =
    let here : run ≡ first = e in
    append-nil (moments_of (longer run)) ∙ replicate_next run.count run.moment
    ∙ ap (λ ms. ms ++ run.moment ∷ []) (sym (append-nil (moments_of run)) ∙ ap (λ r. moments_of r ++ []) here)
last_longer (first ∷ next ∷ runs) run some e =
    let at : length (first ∷ next ∷ runs) - 1 ≡ suc (length (next ∷ runs) - 1) = omega arith in
    let rest = last_longer (next ∷ runs) run (omega arith) (e ∙ ap (λ i. get_or (first ∷ next ∷ runs) i run) at) in
    ap (λ i. moments_in (slice_set (first ∷ next ∷ runs) i (longer run))) at
    ∙ ap (λ ms. moments_of first ++ ms) rest ∙ sym (append_assoc (moments_of first) (moments_in (next ∷ runs)) (run.moment ∷ []))

-- the same, by a number that is the length
pub last_longer_at : (runs : List MomentRun) (long next : ℕ) (run : MomentRun) → long ≡ length runs → 0 < length runs → run ≡ get_or runs (long - 1) run → run.moment ≡ next → moments_in (slice_set runs (long - 1) (record { moment = run.moment; count = run.count + 1 })) ≡ moments_in runs ++ next ∷ []
last_longer_at runs long next run is some e same =
    ap (λ n. moments_in (slice_set runs (n - 1) (longer run))) is
    ∙ last_longer runs run some (e ∙ ap (λ n. get_or runs (n - 1) run) is)
    ∙ ap (λ m. moments_in runs ++ m ∷ []) same

-- ---- the last step's moment is that of the last run

abbrev last_in : ℕ → List ℕ → ℕ
last_in before [] = before
last_in before (moment ∷ moments) = last_in moment moments

by_moments : (before : ℕ) (steps : List Step) → last_from before steps ≡ last_in before (map moment_of_step steps)
by_moments before [] = refl
by_moments before (step ∷ steps) = by_moments step.moment steps

last_after : (before : ℕ) (front back : List ℕ) → last_in before (front ++ back) ≡ last_in (last_in before front) back
last_after before [] back = refl
last_after before (moment ∷ front) back = last_after moment front back

stays : (count moment : ℕ) → last_in moment (replicate count moment) ≡ moment
stays zero moment = refl
stays (suc count) moment = stays count moment

last_of_run : (before count moment : ℕ) → 0 < count → last_in before (replicate count moment) ≡ moment
last_of_run before zero moment some = absurd (omega arith)
last_of_run before (suc count) moment some = stays count moment

last_of_runs : (before : ℕ) (runs : List MomentRun) (run : MomentRun) → HaveSteps runs → Some run ≡ slice_get runs (length runs - 1) → last_in before (moments_in runs) ≡ run.moment
last_of_runs before [] run have e = cc
last_of_runs before (first ∷ []) run have e =
    let here : Some run ≡ Some first = e in
    let same : first.moment ≡ run.moment = cc in
    ap (last_in before) (append-nil (moments_of first)) ∙ last_of_run before first.count first.moment have.0 ∙ same
last_of_runs before (first ∷ next ∷ runs) run have e =
    let at : length (first ∷ next ∷ runs) - 1 ≡ suc (length (next ∷ runs) - 1) = omega arith in
    last_after before (moments_of first) (moments_in (next ∷ runs))
    ∙ last_of_runs (last_in before (moments_of first)) (next ∷ runs) run have.1 (e ∙ ap (slice_get (first ∷ next ∷ runs)) at)

pub last_step : (steps : List Step) (runs : List MomentRun) (run : MomentRun) → moments_in runs ≡ map moment_of_step steps → HaveSteps runs → Some run ≡ slice_get runs (length runs - 1) → last_from 0 steps ≡ run.moment
last_step steps runs run timed have e = by_moments 0 steps ∙ ap (last_in 0) (sym timed) ∙ last_of_runs 0 runs run have e
