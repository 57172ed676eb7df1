-- The marks and columns of one entry more spell it at the end.
use Rattle.std.proofs.Common.{◌∷◌, [], ◌++◌, ap, ◌∙◌}
use Rattle.mctp_schedule.proofs.EntriesSpelled.{is_spelled_more, spelled_more}
use Rattle.mctp_schedule.proofs.entries.Entries.push.Goals as goal

pub invariant_of-self-2 : goal.invariant_of-self-2
invariant_of-self-2 c =
    let added = c.in_ok-mark.ensures in
    let i = c.self.inside in
    is_spelled_more c.args.entry i.marks.items i.numbers.items i.dues.items i.deliveries.items _ _ _ _
    (record {
      marked = c.in_ok-push.ensures.items ∙ ap (λ ms. ms ++ c.in_ok-mark.mark ∷ []) c.reserve.ensures.items ∙ ap (λ m. i.marks.items ++ m ∷ []) added.mark;
      numbered = added.numbers;
      due = added.dues;
      delivered = added.deliveries;
    })
    c.self.invariant

pub returns-clause-ok : goal.returns-clause-ok
returns-clause-ok c =
    let added = c.in_ok-mark.ensures in
    let i = c.self.inside in
    spelled_more c.args.entry i.marks.items i.numbers.items i.dues.items i.deliveries.items _ _ _ _
    (record {
      marked = c.in_ok-push.ensures.items ∙ ap (λ ms. ms ++ c.in_ok-mark.mark ∷ []) c.reserve.ensures.items ∙ ap (λ m. i.marks.items ++ m ∷ []) added.mark;
      numbered = added.numbers;
      due = added.dues;
      delivered = added.deliveries;
    })
    c.self.invariant
    ∙ ap (λ es. es ++ c.args.entry ∷ []) c.self.view_is
