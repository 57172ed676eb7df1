-- The word, the numbers, and the end of the line.
use Rattle.std.proofs.Common.{◌≡◌, ◌++◌, ◌∷◌, [], codes, rules, ap, subst, ◌∙◌}
use Rattle.std.specs.Io.KnownBytes.{Appends}
use Rattle.std.proofs.KnownBytes.{Appends-trans}
use Rattle.mctpctl_texts.specs.EntryTexts.{numbers_text}
use Rattle.mctpctl_texts.specs.ReportTexts.{order_line}
use Rattle.mctpctl_texts.specs.declared.phrases.Phrases.{Phrases}
use Rattle.mctpctl_texts.proofs.GatheredParts.{after_room, grown_to}
use Rattle.mctpctl_texts.proofs.report_text.gather_order.Goals as goal

pub returns : goal.returns
returns g c =
    let line : codes "order" ++ (numbers_text c.args.order.now ++ 10 ∷ []) ≡ order_line c.args.order.now = search rules in
    record {
      text = subst (Appends _ _) line
          (after_room _ _ _ _ c.in_ok-make_room.ensures.gathered.text
          (Appends-trans _ _ _ _ _
          (grown_to _ _ _ _ (c.add-2.ensures.value ∙ ap (λ (words : Phrases). c.make_room.new.page ++ words.order) c.requires))
          (Appends-trans _ _ _ _ _ c.in_ok-gather_numbers.ensures.text
          (after_room _ _ _ _ c.in_ok-make_room-2.ensures.gathered.text
          (grown_to _ _ _ _ (c.add-3.ensures.value ∙ ap (λ (words : Phrases). c.make_room-2.new.page ++ words.end) c.requires))))));
      ok = search rules;
      err = search rules;
    }
