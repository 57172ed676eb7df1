-- The commands of a text begin with its first line.
use Rattle.std.proofs.Common.{◌≡◌, ℕ, List, [], refl}
use Rattle.line_words.specs.TextLines.{lines_of}
use Rattle.mctpctl.specs.AskedCommands.{commands_from, commands_of}

pub at_first : (text : List ℕ) → commands_of text ≡ commands_from 1 [] (lines_of text)
unfolding commands_of
at_first text = refl
