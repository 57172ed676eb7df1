-- What is left becomes less.
use Rattle.std.proofs.Common.{length}
use Rattle.line_words.specs.Lines.{words_of}
use Rattle.mctpctl_explain.proofs.words.words_of.Given as goal

abbrev pub decreases-loop-word : goal.decreases-loop-word
decreases-loop-word l = length (words_of l.rest)
