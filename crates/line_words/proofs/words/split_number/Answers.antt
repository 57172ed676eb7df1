-- The first space past the spaces in front ends the first word, and so do the digits before it.
use Rattle.std.proofs.Common.{◌<◌, ◌∷◌, unwrap_or, length, take, sym, ap, ◌∙◌, arith}
use Rattle.std.proofs.lemmas.List.{take_rest}
use Rattle.std.proofs.lemmas.Grind.{common_steps}
use Rattle.line_words.proofs.WordSplits.{first_word}
use Rattle.line_words.specs.Lines.{words_of}
use Rattle.line_words.proofs.words.split_number.Goals as goal

pub returns-in-Some-clause-some : goal.returns-in-Some-clause-some
returns-in-Some-clause-some c =
    let text = c.trim_spaces-text.result.now in
    let end = c.in-Some.end in
    let some : 0 < length text = grind (arith, common_steps) in
    let here = first_word text end some c.trim_spaces-text.ensures.trimmed c.in-Some.ensures.end in
    sym c.trim_spaces-text.ensures.words ∙ here.words ∙ ap (λ l. take end text ∷ words_of l) (sym (take_rest text end))

pub returns-clause-some : goal.returns-clause-some
returns-clause-some c =
    let text = c.trim_spaces-text.result.now in
    let end = c.unwrap_or-end.result in
    let some : 0 < length text = grind (arith, common_steps) in
    let here = first_word text end some c.trim_spaces-text.ensures.trimmed (c.unwrap_or-end.ensures ∙ ap (λ o. unwrap_or o (length text)) c.first_space.ensures) in
    sym c.trim_spaces-text.ensures.words ∙ here.words ∙ ap (λ l. take end text ∷ words_of l) (sym (take_rest text end))
