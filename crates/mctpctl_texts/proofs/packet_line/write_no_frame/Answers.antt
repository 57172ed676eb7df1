-- The words in front, and then the name.
use Rattle.std.proofs.Common.{rules, ◌++◌, ◌∷◌, [], codes}
use Rattle.mctpctl_texts.proofs.WrittenParts.{and_last}
use Rattle.mctpctl_texts.proofs.packet_line.write_no_frame.Goals as goal

pub returns : goal.returns
returns g c = record {
  text = and_last c.write_last.result _ _ _ (codes " no frame: ") (c.args.name.now ++ 10 ∷ []) c.in_ok-write_text.ensures.written.text c.write_last.ensures.text;
  ok = search rules;
  err = search rules;
}
