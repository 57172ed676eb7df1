-- The words so far.
use Rattle.std.proofs.Common.{◌≡◌, map, take}
use Rattle.mctpctl.specs.AskedCommands.{spaced_words}
use Rattle.mctpctl.proofs.commands.spaced_words.Given as goal

abbrev pub invariant-loop-word : goal.invariant-loop-word
invariant-loop-word l = l.line.items ≡ spaced_words (map (λ word. word.now) (take l.word-index l.words))
