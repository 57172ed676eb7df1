-- The subcommand that clap found, with what it found of its arguments.
use Rattle.std.proofs.Common.{◌≡◌, List, ℕ, Option, None, Some, option_map, refl}
use Rattle.std.specs.Prelude.{Box}
use Rattle.std.specs.Box.{box_value}
use Rattle.clap.specs.Simple.{subcommand_rows}
use Rattle.clap.specs.Words.{Row}
use Rattle.clap.specs.declared.parser.matches.ArgMatches.TheViews.{out-SubCommand}
use Rattle.clap.specs.declared.parser.matches.SubCommand.{SubCommand}

-- none was found
pub none_found : {Z : Type 0} (o : Option (Box SubCommand Z)) → None ≡ option_map (λ b. (out-SubCommand (box_value b)).name.now) o → subcommand_rows o ≡ None
none_found None none = refl
none_found (Some b) none = cc

-- one was found
pub one_found : {Z : Type 0} (o : Option (Box SubCommand Z)) (name : List ℕ) (rows : List Row) → Some name ≡ option_map (λ b. (out-SubCommand (box_value b)).name.now) o
    → Some rows ≡ option_map (λ p. p.1) (subcommand_rows o) → subcommand_rows o ≡ Some (name, rows)
one_found None name rows named found = cc
one_found (Some b) name rows named found = cc
