-- Steps are what their moments, marks and columns spell, one step more too.
use Rattle.std.proofs.Common.{◌≡◌, ℕ, List, [], ◌∷◌, ◌++◌, refl, sym, ap, subst, ◌∙◌, append-nil}
use Rattle.std.specs.Prelude.{map}
use Rattle.std.specs.List.{flat_map}
use Rattle.std.proofs.lemmas.Grind.{flat_map-append}
use Rattle.std.proofs.lemmas.List.{map-append}
use Rattle.pldm_wire.specs.declared.command.Command.{Command}
use Rattle.schedule_text.specs.StepColumns.{AreOf, IsSpelled, at, commands_in_step, mark_of_step, moment_of_step, numbers_in_step, readings_in_step, spelled}
use Rattle.schedule_text.specs.declared.steps.Mark.{Mark}
use Rattle.schedule_text.specs.declared.steps.Reading.{Reading}
use Rattle.schedule_text.specs.declared.step.Action.{Action}
use Rattle.schedule_text.specs.declared.step.Action.TheVariants.{Open, Tick, Request, Reply, Sense, Restart, Busy}
use Rattle.schedule_text.specs.declared.step.Step.{Step}

-- ---- the moments, marks and columns of steps spell these
abbrev columns_spell : List Step → List Step
columns_spell ss =
    spelled (map moment_of_step ss) (map mark_of_step ss) (flat_map numbers_in_step ss) (flat_map readings_in_step ss) (flat_map commands_in_step ss)

one_spells : (moment : ℕ) (action : Action) (ss : List Step) → columns_spell ss ≡ ss → columns_spell (at moment action ∷ ss) ≡ at moment action ∷ ss
one_spells moment (Open requester command) ss rest = ap (λ r. at moment (Open requester command) ∷ r) rest
one_spells moment (Tick requester) ss rest = ap (λ r. at moment (Tick requester) ∷ r) rest
one_spells moment (Request number) ss rest = ap (λ r. at moment (Request number) ∷ r) rest
one_spells moment (Reply packet number) ss rest = ap (λ r. at moment (Reply packet number) ∷ r) rest
one_spells moment (Sense sensor value) ss rest = ap (λ r. at moment (Sense sensor value) ∷ r) rest
one_spells moment Restart ss rest = ap (λ r. at moment Restart ∷ r) rest
one_spells moment (Busy number) ss rest = ap (λ r. at moment (Busy number) ∷ r) rest

spells : (ss : List Step) → columns_spell ss ≡ ss
spells [] = refl
spells (step ∷ ss) = one_spells step.moment step.action ss (spells ss)

spelled_are : (ss : List Step) (moments : List ℕ) (marks : List Mark) (numbers : List ℕ) (readings : List Reading) (commands : List Command)
    → AreOf ss moments marks numbers readings commands → spelled moments marks numbers readings commands ≡ ss
spelled_are ss moments marks numbers readings commands a =
    ap (λ ts. spelled ts marks numbers readings commands) a.timed
    ∙ ap (λ ms. spelled (map moment_of_step ss) ms numbers readings commands) a.marked
    ∙ ap (λ ns. spelled (map moment_of_step ss) (map mark_of_step ss) ns readings commands) a.numbered
    ∙ ap (λ rs. spelled (map moment_of_step ss) (map mark_of_step ss) (flat_map numbers_in_step ss) rs commands) a.read
    ∙ ap (λ cs. spelled (map moment_of_step ss) (map mark_of_step ss) (flat_map numbers_in_step ss) (flat_map readings_in_step ss) cs) a.asked
    ∙ spells ss

-- ---- one step more
column_more : {X : Type 0} (f : Step → List X) (ss : List Step) (s : Step) → flat_map f (ss ++ s ∷ []) ≡ flat_map f ss ++ f s
column_more f ss s = flat_map-append f ss (s ∷ []) ∙ ap (λ ys. flat_map f ss ++ ys) (append-nil (f s))

-- what was added to the moments, marks and columns is that of the step
pub record AddsStep
    (s : Step) (moments : List ℕ) (marks : List Mark) (numbers : List ℕ) (readings : List Reading) (commands : List Command)
    (new_moments : List ℕ) (new_marks : List Mark) (new_numbers : List ℕ) (new_readings : List Reading) (new_commands : List Command) : Type 0 where
  pub timed : new_moments ≡ moments ++ s.moment ∷ []
  pub marked : new_marks ≡ marks ++ mark_of_step s ∷ []
  pub numbered : new_numbers ≡ numbers ++ numbers_in_step s
  pub read : new_readings ≡ readings ++ readings_in_step s
  pub asked : new_commands ≡ commands ++ commands_in_step s

module _ (s : Step) (moments : List ℕ) (marks : List Mark) (numbers : List ℕ) (readings : List Reading) (commands : List Command)
    (new_moments : List ℕ) (new_marks : List Mark) (new_numbers : List ℕ) (new_readings : List Reading) (new_commands : List Command)
    (adds : AddsStep s moments marks numbers readings commands new_moments new_marks new_numbers new_readings new_commands)
    (is : IsSpelled moments marks numbers readings commands) where
  abbrev old : List Step
  old = spelled moments marks numbers readings commands

  are_of_more : AreOf (old ++ s ∷ []) new_moments new_marks new_numbers new_readings new_commands
  are_of_more = record {
    timed = adds.timed ∙ ap (λ ts. ts ++ s.moment ∷ []) is.timed ∙ sym (map-append moment_of_step old (s ∷ []));
    marked = adds.marked ∙ ap (λ ms. ms ++ mark_of_step s ∷ []) is.marked ∙ sym (map-append mark_of_step old (s ∷ []));
    numbered = adds.numbered ∙ ap (λ ns. ns ++ numbers_in_step s) is.numbered ∙ sym (column_more numbers_in_step old s);
    read = adds.read ∙ ap (λ rs. rs ++ readings_in_step s) is.read ∙ sym (column_more readings_in_step old s);
    asked = adds.asked ∙ ap (λ cs. cs ++ commands_in_step s) is.asked ∙ sym (column_more commands_in_step old s);
  }

  pub spelled_more : spelled new_moments new_marks new_numbers new_readings new_commands ≡ old ++ s ∷ []
  spelled_more = spelled_are (old ++ s ∷ []) new_moments new_marks new_numbers new_readings new_commands are_of_more

  pub is_spelled_more : IsSpelled new_moments new_marks new_numbers new_readings new_commands
  is_spelled_more = subst (λ ss. AreOf ss new_moments new_marks new_numbers new_readings new_commands) (sym spelled_more) are_of_more
