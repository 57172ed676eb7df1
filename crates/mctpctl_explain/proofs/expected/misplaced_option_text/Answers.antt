-- The option stands between quotes in front.
use Rattle.std.proofs.Common.{rules, string_bytes}
use Rattle.mctpctl_explain.proofs.expected.misplaced_option_text.Goals as goal

pub returns : goal.returns
returns c = (string_bytes c.in_ok-option.option, c.in_ok-option.ensures, search rules)
