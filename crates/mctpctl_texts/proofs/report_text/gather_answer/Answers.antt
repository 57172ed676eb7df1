-- The word, the message in hex, and the end of the line.
use Rattle.std.proofs.Common.{◌++◌, rules, ap, ◌∙◌}
use Rattle.std.proofs.KnownBytes.{Appends-trans}
use Rattle.mctpctl_texts.specs.declared.phrases.Phrases.{Phrases}
use Rattle.mctpctl_texts.proofs.GatheredParts.{after_room, grown_to}
use Rattle.mctpctl_texts.proofs.report_text.gather_answer.Goals as goal

pub returns : goal.returns
returns g c = record {
  text = Appends-trans _ _ _ _ _
      (grown_to _ _ _ _ (c.add.ensures.value ∙ ap (λ (words : Phrases). c.args.page.now ++ words.answered_by) c.requires.phrases))
      (Appends-trans _ _ _ _ _ c.in_ok-gather_hex.ensures.text
      (after_room _ _ _ _ c.in_ok-make_room.ensures.gathered.text
      (grown_to _ _ _ _ (c.add-2.ensures.value ∙ ap (λ (words : Phrases). c.make_room.new.page ++ words.end) c.requires.phrases))));
  ok = search rules;
  err = search rules;
}
