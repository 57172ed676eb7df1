-- Digits of which there are two for each byte spell bytes.
use Rattle.std.proofs.Common.{◌∙◌, arith}
use Rattle.mctpctl_input.proofs.RefusedWords.{even_spelled}
use Rattle.mctpctl_input.proofs.packet_word.spells_bytes.Goals as goal

pub returns-then-word-eq0 : goal.returns-then-word-eq0
returns-then-word-eq0 c = c.is_hex.ensures ∙ even_spelled c.args.word.now (omega arith)
