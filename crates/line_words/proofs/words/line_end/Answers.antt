-- `memchr` finds the first place of a byte.
use Rattle.std.proofs.Common.{◌==◌}
use Rattle.line_words.proofs.FoundPlaces.{found_place}
use Rattle.line_words.proofs.words.line_end.Goals as goal

pub returns : goal.returns
returns c = found_place (λ b. b == 10) c.args.text.now c.memchr.result c.memchr.ensures
