-- What `clap` refuses is no task, and the kind of its error distinguishes help from the other refusals.
use Rattle.std.proofs.Common.{◌≡◌, ◌≢◌, ◌==◌, ℕ, Bool, true, false, inl, inr, cond, map, List, [], ◌∷◌, length, Option, None, Some, option_and_then, option_map, ap, sym, ◌∙◌, subst, refl, rules}
use Rattle.std.proofs.lemmas.Bool.Decides.{nat_tests}
use Rattle.clap.proofs.OnLiterals.{clap_on_literals}
use Rattle.clap.specs.Words.{App, app_of, fault_of, is_simple, is_simple_and_free, kind_of, subcommand_rows_of, HasKind, HasMatchesOf, IsAmong, Kinds}
use Rattle.clap.specs.declared.parser.matches.ArgMatches.{ArgMatches}
use Rattle.clap.specs.declared.error.Error.{Error}
use Rattle.clap.specs.declared.error.kind.ErrorKind.{ErrorKind}
use Rattle.clap.specs.declared.error.kind.ErrorKind.TheVariants.{DisplayHelp, DisplayVersion, OutOfMemory}
use Rattle.mctpctl_command_line.specs.Choice.{command as the_command}
use Rattle.mctpctl_command_line.specs.Choice.{choice_in as the_choice}
use Rattle.mctpctl_command_line.specs.Choice.{asked, choice_of, takes_line, Asked, ReportsKind, ReportsRefusal}
use Rattle.mctpctl_command_line.specs.declared.choice.ChooseFault.{ChooseFault}
use Rattle.mctpctl_command_line.specs.declared.choice.ChooseFault.TheVariants.{Help, Refused, Memory}
use Rattle.mctpctl_command_line.proofs.choice.choose.Goals as goal

-- where some fault is found the line is not taken
not_taken : (faults : Kinds) (kind : ErrorKind) (task : Option Asked) → IsAmong kind faults → cond (length faults == 0) task None ≡ None
not_taken [] kind task among = absurd among
not_taken (first ∷ more) kind task among =
    let some : (length (first ∷ more) == 0) ≡ false = search (rules, nat_tests) in
    rw some refl

only_kind : (kind only : ErrorKind) → IsAmong kind (only ∷ []) → kind ≡ only
only_kind kind only (inl same) = same
only_kind kind only (inr none) = absurd none

refused : (words : List (List ℕ)) (error : Error) (fault : ChooseFault) → HasKind (fault_of the_command words) error → ReportsKind (kind_of error) fault → ReportsRefusal words fault
refused words error (Help text) (inl memory) (inl help) = let same : DisplayHelp ≡ OutOfMemory = cc in cc
refused words error (Help text) (inl memory) (inr version) = let same : DisplayVersion ≡ OutOfMemory = cc in cc
refused words error (Help text) (inr among) (inl help) = (
  not_taken (fault_of the_command words) (kind_of error) _ among,
  inl (subst (λ (kind : ErrorKind). IsAmong kind (fault_of the_command words)) help among),
)
refused words error (Help text) (inr among) (inr version) = (
  not_taken (fault_of the_command words) (kind_of error) _ among,
  inr (subst (λ (kind : ErrorKind). IsAmong kind (fault_of the_command words)) version among),
)
refused words error (Refused text) (inl memory) says = absurd (says.2 memory)
refused words error (Refused text) (inr among) says = (
  not_taken (fault_of the_command words) (kind_of error) _ among,
  λ alone. says.0 (only_kind (kind_of error) DisplayHelp (subst (λ (faults : Kinds). IsAmong (kind_of error) faults) alone among)),
  λ alone. says.1 (only_kind (kind_of error) DisplayVersion (subst (λ (faults : Kinds). IsAmong (kind_of error) faults) alone among)),
)
refused words error (Memory none) kinds says = tt

is_free : is_simple_and_free the_command ≡ true
unfolding clap_on_literals
is_free = refl

at_command : (app : App) (words : List (List ℕ)) (error : Error) → app ≡ the_command → (is_simple_and_free app ≡ true → HasKind (fault_of app words) error) → HasKind (fault_of the_command words) error
at_command app words error same kinds =
    let P : App → Type 0 = λ a. is_simple_and_free a ≡ true → HasKind (fault_of a words) error in
    let here : P the_command = subst P same kinds in
    here is_free

pub returns-clause-err : goal.returns-clause-err
returns-clause-err c =
    let words = map (λ word. word.now) c.args.words.now in
    let kinds =
    at_command (app_of c.in_ok-command.command) words c.in-Err.error c.in_ok-command.ensures c.in-Err.ensures.kinds in
    refused words c.in-Err.error c.refusal.result kinds c.refusal.ensures

-- a line of which nothing is made asks for nothing, whether it is taken or not
nothing_asked : (taken : Bool) (choice : Option Asked) → choice ≡ None → cond taken choice None ≡ None
nothing_asked true choice none = none
nothing_asked false choice none = refl

is_plain : is_simple the_command ≡ true
unfolding clap_on_literals
is_plain = refl

-- what clap took names nothing by its matches: the line has no fault
unnamed : (app : App) (words : List (List ℕ)) (m : ArgMatches) → app ≡ the_command → HasMatchesOf app words m → (is_simple_and_free app ≡ true → fault_of app words ≡ [])
    → option_and_then the_choice (subcommand_rows_of m) ≡ None
    → (choice_of words ≡ None) × (fault_of the_command words ≢ DisplayHelp ∷ []) × (fault_of the_command words ≢ DisplayVersion ∷ [])
unnamed app words m same has fails none =
    let P : App → Type 0 = λ a. HasMatchesOf a words m in
    let here : P the_command = subst P same has in
    let F : App → Type 0 = λ a. is_simple_and_free a ≡ true → fault_of a words ≡ [] in
    let faults : F the_command = subst F same fails in
    let empty : fault_of the_command words ≡ [] = faults is_free in (
      nothing_asked (takes_line words) _ (ap (option_and_then the_choice) (sym (here is_plain).1) ∙ none),
      rw empty (λ e. cc),
      rw empty (λ e. cc),
    )

-- what clap took asks for what its matches do
named : (app : App) (words : List (List ℕ)) (m : ArgMatches) (choice : Asked) → app ≡ the_command → HasMatchesOf app words m → (is_simple_and_free app ≡ true → fault_of app words ≡ [])
    → option_and_then the_choice (subcommand_rows_of m) ≡ Some choice → choice_of words ≡ Some choice
named app words m choice same has fails found =
    let P : App → Type 0 = λ a. HasMatchesOf a words m in
    let here : P the_command = subst P same has in
    let F : App → Type 0 = λ a. is_simple_and_free a ≡ true → fault_of a words ≡ [] in
    let faults : F the_command = subst F same fails in
    let empty : fault_of the_command words ≡ [] = faults is_free in
    let taken : (length (fault_of the_command words) == 0) ≡ true = rw empty refl in
    rw taken (ap (option_and_then the_choice) (sym (here is_plain).1) ∙ found)

pub returns-in-Some-clause-ok : goal.returns-in-Some-clause-ok
returns-in-Some-clause-ok c =
    named (app_of c.in_ok-command.command) (map (λ word. word.now) c.args.words.now) c.in-Ok.matches (asked c.in-Some.choice) c.in_ok-command.ensures c.in-Ok.ensures.matches c.in-Ok.ensures.kinds
    (sym c.choice_in.ensures ∙ ap (option_map asked) c.in-Some.is)

pub returns-in-Ok-clause-err : goal.returns-in-Ok-clause-err
returns-in-Ok-clause-err c =
    unnamed (app_of c.in_ok-command.command) (map (λ word. word.now) c.args.words.now) c.in-Ok.matches c.in_ok-command.ensures c.in-Ok.ensures.matches c.in-Ok.ensures.kinds
    (sym c.choice_in.ensures ∙ ap (option_map asked) c.in-None.is)
