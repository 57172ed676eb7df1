-- A step that has a moment and a name.
use Rattle.std.proofs.Common.{◌≡◌, ℕ, List, ◌∷◌, Result, Ok, Err, refl}
use Rattle.schedule_text.specs.LineWords.{action_named}
use Rattle.schedule_text.specs.SaidLines as lines
use Rattle.schedule_text.specs.Schedules.{Spelled, with_action, with_line, with_named, with_step, with_step_in}
use Rattle.schedule_text.specs.WordValues.{◌>>=◌, moment_in}
use Rattle.schedule_text.specs.declared.line_fault.LineFaultKind.{LineFaultKind}
use Rattle.schedule_text.specs.declared.step.Action.{Action}

by_moment : (before : Spelled) (action : Action) (read : Result ℕ LineFaultKind)
    → ((read >>= λ m. Ok (lines.Step (record { moment = m; action = action }))) >>= with_line before)
    ≡ (read >>= λ m. with_step before (record { moment = m; action = action }))
by_moment before action (Ok moment) = refl
by_moment before action (Err kind) = refl

by_action : (before : Spelled) (moment : List ℕ) (read : Result Action LineFaultKind)
    → ((read >>= λ action. moment_in moment >>= λ m. Ok (lines.Step (record { moment = m; action = action }))) >>= with_line before)
    ≡ (read >>= with_action before moment)
by_action before moment (Ok action) = by_moment before action (moment_in moment)
by_action before moment (Err kind) = refl

-- it is added by its name
pub by_name : (before : Spelled) (moment name : List ℕ) (words : List (List ℕ)) → with_step_in before (moment ∷ name ∷ words) ≡ with_named before moment name words
by_name before moment name words = by_action before moment (action_named name words)
