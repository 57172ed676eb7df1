-- A space in front is part of no word.
use Rattle.std.proofs.Common.{◌≡◌, length}
use Rattle.line_words.specs.Lines.{words_of}
use Rattle.line_words.proofs.words.trim_spaces.Given as goal

abbrev pub invariant-loop-rest : goal.invariant-loop-rest
invariant-loop-rest l = words_of l.rest ≡ words_of l.text

abbrev pub decreases-loop-rest : goal.decreases-loop-rest
decreases-loop-rest l = length l.rest
