use Rattle.std.proofs.Common.{◌∙◌, List, Option, ap, length, map, option_map, sym}
use Rattle.std.specs.Option.{option_map_or}
use Rattle.std.proofs.lemmas.List.{length-map}
use Rattle.clap.specs.Words.{Text, found_of}
use Rattle.mctpctl_command_line.proofs.GivenFlags.{values_by_rows}
use Rattle.mctpctl_command_line.proofs.choice.count_of.Goals as goal

pub returns-in-Some : goal.returns-in-Some
returns-in-Some c =
    sym (length-map c.in-Some.values.now (λ v. v.now))
    ∙ ap (λ (o : Option (List Text)). option_map_or (λ (values : List Text). length values) o 0)
    (sym (ap (λ r. option_map (λ s. map (λ v. v.now) s.now) r) c.in-Some.is) ∙ c.get_strs.ensures
    ∙ values_by_rows (found_of c.args.matches.now) c.args.name.now)
