use Rattle.std.proofs.Common.{rules, subst, IfOk, IfErr}
use Rattle.std.proofs.lemmas.List.Sorted.{answers_always}
use Rattle.mctp_assembly.specs.NumberLists.{IsAt, IsGapFor}
use Rattle.pldm_responder.specs.Slots.{Rows, no_answers}
use Rattle.pldm_responder.proofs.NumberSearches.{found_by, absent_by}
use Rattle.pldm_responder.proofs.kept_answers.KeptAnswers.search.Goals as goal

pub returns-clause-found : goal.returns-clause-found
returns-clause-found c =
    let facts = c.binary_search_by_key.ensures in
    let by_number = facts.position (λ pair. pair.0) (answers_always _ _ _ (λ f a r g called. search rules)) in
    subst (λ (rows : Rows). IfOk c.binary_search_by_key.result (IsAt no_answers rows.list c.args.source)) c.self.view_is
    (rw (← c.deref-4.ensures.value, ← c.get-source.ensures.value) (found_by no_answers c.deref-4.result.now (rw c.deref-4.ensures.value c.self.invariant.rises) c.get-source.result c.binary_search_by_key.result facts.bound by_number))

pub returns-clause-absent : goal.returns-clause-absent
returns-clause-absent c =
    let facts = c.binary_search_by_key.ensures in
    let by_number = facts.position (λ pair. pair.0) (answers_always _ _ _ (λ f a r g called. search rules)) in
    subst (λ (rows : Rows). IfErr c.binary_search_by_key.result (IsGapFor no_answers rows.list c.args.source)) c.self.view_is
    (rw (← c.deref-4.ensures.value, ← c.get-source.ensures.value) (absent_by no_answers c.deref-4.result.now (rw c.deref-4.ensures.value c.self.invariant.rises) c.get-source.result c.binary_search_by_key.result facts.bound by_number))
