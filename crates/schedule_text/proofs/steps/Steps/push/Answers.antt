-- The moments, marks and columns of one step more spell it at the end.
use Rattle.std.proofs.Common.{◌∷◌, [], ◌++◌, ap, ◌∙◌}
use Rattle.schedule_text.specs.MomentRuns.{moments_in}
use Rattle.schedule_text.proofs.StepsSpelled.{is_spelled_more, spelled_more}
use Rattle.schedule_text.proofs.steps.Steps.push.Goals as goal

pub invariant_of-self-2 : goal.invariant_of-self-2
invariant_of-self-2 c =
    let added = c.in_ok-mark.ensures in
    let i = c.self.inside in (
      c.push_moment.ensures.steps,
      is_spelled_more c.args.step (moments_in i.moments.items) i.marks.items i.numbers.items i.readings.items i.commands.items _ _ _ _ _
          (record {
            timed = c.push_moment.ensures.moments ∙ ap (λ rs. moments_in rs ++ c.args.step.moment ∷ []) c.reserve-2.ensures.items;
            marked = c.push_reserved.ensures.items ∙ ap (λ ms. ms ++ c.in_ok-mark.mark ∷ []) c.reserve.ensures.items ∙ ap (λ m. i.marks.items ++ m ∷ []) added.mark;
            numbered = added.numbers;
            read = added.readings;
            asked = added.commands;
          })
          c.self.invariant.1,
    )

pub returns-clause-ok : goal.returns-clause-ok
returns-clause-ok c =
    let added = c.in_ok-mark.ensures in
    let i = c.self.inside in
    spelled_more c.args.step (moments_in i.moments.items) i.marks.items i.numbers.items i.readings.items i.commands.items _ _ _ _ _
    (record {
      timed = c.push_moment.ensures.moments ∙ ap (λ rs. moments_in rs ++ c.args.step.moment ∷ []) c.reserve-2.ensures.items;
      marked = c.push_reserved.ensures.items ∙ ap (λ ms. ms ++ c.in_ok-mark.mark ∷ []) c.reserve.ensures.items ∙ ap (λ m. i.marks.items ++ m ∷ []) added.mark;
      numbered = added.numbers;
      read = added.readings;
      asked = added.commands;
    })
    c.self.invariant.1
    ∙ ap (λ ss. ss ++ c.args.step ∷ []) c.self.view_is
