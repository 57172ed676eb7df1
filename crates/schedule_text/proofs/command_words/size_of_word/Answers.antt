-- A word that is no text names no data size.
use Rattle.std.proofs.Common.{Err, sym, ap, ◌∙◌, subst}
use Rattle.std.specs.Str.{IsUtf8}
use Rattle.schedule_text.proofs.SizeWords.{no_size}
use Rattle.schedule_text.specs.CommandWords.{or_words}
use Rattle.schedule_text.proofs.command_words.size_of_word.Goals as goal

pub returns-in_default : goal.returns-in_default
returns-in_default c =
    ap Err c.of_word.ensures
    ∙ sym (ap or_words (no_size c.args.word.now (λ text. c.in_default.ensures.cases.0 (subst IsUtf8 (sym c.bytes.ensures) text))))
