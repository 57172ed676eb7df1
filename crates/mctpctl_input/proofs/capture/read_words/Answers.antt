-- Past its words and its moment, the line says what its hex digits say.
use Rattle.std.proofs.Common.{◌≡◌, Ok, rules}
use Rattle.std.proofs.lemmas.Result.{err_from_is_err_and}
use Rattle.line_words.specs.Lines.{words_of}
use Rattle.mctpctl_input.specs.CaptureLine.{packet_word, moment_spelled}
use Rattle.mctpctl_input.proofs.capture.read_words.Goals as goal

pub returns-in_err-read_hex : goal.returns-in_err-read_hex
returns-in_err-read_hex c =
    let word : packet_word (words_of c.args.rest.now) ≡ Ok c.in_ok-digits.digits.now = search rules in
    let moment : moment_spelled c.args.moment c.args.last ≡ Ok c.in_ok-moment.moment = search rules in
    let fault = err_from_is_err_and c.from_residual-in_err-read_hex.result c.from_residual-in_err-read_hex.ensures.1 in
    record {
      ok = search rules;
      err = rw (fault.1, fault.2, word, moment) (c.in_err-read_hex.ensures.err c.in_ok-moment.moment);
      moment = search rules;
    }
