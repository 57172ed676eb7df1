-- The place of the first comma splits the text.
use Rattle.std.proofs.Common.{◌+◌, sym}
use Rattle.std.proofs.lemmas.List.{take_rest}
use Rattle.line_faults.proofs.CommaSplits.{split_some, split_none}
use Rattle.line_faults.proofs.spelling.split_part.Goals as goal

pub returns-in_err-end-clause-none : goal.returns-in_err-end-clause-none
returns-in_err-end-clause-none c = rw c.from_residual.ensures (split_none c.args.text.now (sym c.in_err-end.ensures))

pub returns-clause-some : goal.returns-clause-some
returns-clause-some c =
    rw (take_rest c.args.text.now (c.in_ok-end.end + 1)) (split_some c.args.text.now c.in_ok-end.end (sym c.in_ok-end.ensures))
