-- The digits and the space after them are the text's first word.
use Rattle.std.proofs.Common.{◌≡◌, ◌<◌, ◌+◌, ◌∷◌, Some, length, get_or, drop, take, sym, ap, ◌∙◌, arith, rules}
use Rattle.std.proofs.lemmas.Bool.Decides.{nat_tests}
use Rattle.std.proofs.lemmas.List.{get_or-drop}
use Rattle.line_words.specs.Lines.{words_of}
use Rattle.line_words.specs.Numbers.{decimal_of}
use Rattle.schedule_text.proofs.KnownWords.{number_first}
use Rattle.schedule_text.proofs.last_number.LastNumber.split.Goals as goal

pub returns-in-32 : goal.returns-in-32
returns-in-32 c =
    let i = c.self.inside in
    let text = c.args.text.now in
    let parts = c.in_ok-digits.ensures.cases in
    let some : 0 < length c.in_ok-digits.rest.now = search (rules, nat_tests, c.in-32.len_at_least) in
    let first : get_or c.in_ok-digits.rest.now 0 0 ≡ 32 = search (rules, nat_tests) in
    let inside : i.count < length text = omega (arith, some, parts.4) in
    let here : i.count ≡ i.count + 0 = omega arith in
    let space : get_or text i.count 0 ≡ 32 = ap (λ n. get_or text n 0) here ∙ sym (ap (λ r. get_or r 0 0) parts.2 ∙ get_or-drop i.count text 0 0) ∙ first in
    let same : c.in_ok-digits.digits.now ≡ c.digits.result.now = c.are_same.ensures c.if-are_same.true in
    let digits : take i.count text ≡ take i.count i.room = sym parts.1 ∙ same ∙ c.digits.ensures ∙ sym c.self.view_is in
    let number : decimal_of (take i.count text) ≡ Some i.number = ap decimal_of digits ∙ c.self.invariant.1 in
    number_first text i.count i.number number inside space
    ∙ ap (λ w. w ∷ words_of (drop i.count text)) (sym parts.1 ∙ sym c.new.ensures)
    ∙ ap (λ r. c.new.result ∷ words_of r) (sym parts.2)
