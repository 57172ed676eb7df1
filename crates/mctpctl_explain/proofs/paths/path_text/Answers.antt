-- The parts of the text, one after the other.
use Rattle.std.proofs.Common.{append_assoc, refl}
use Rattle.mctpctl_explain.proofs.paths.path_text.Goals as goal

pub returns : goal.returns
returns c =
    simp (
      append_assoc,
      c.new-text.ensures.bytes,
      c.in_ok-push_name.ensures,
      c.in_ok-push_index.ensures,
      c.in_ok-push_key.ensures,
      c.in_ok-push_index-2.ensures,
      c.in_ok-push_index-3.ensures,
    ) refl
