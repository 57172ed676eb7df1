use Rattle.std.proofs.Common.{rules}
use Rattle.std.proofs.lemmas.List.Sorted.{answers_always}
use Rattle.pldm_endpoint.specs.RequestKeys.{no_command}
use Rattle.pldm_responder.proofs.NumberSearches.{found_by, absent_by}
use Rattle.pldm_endpoint.proofs.command_list.CommandList.search.Goals as goal

pub returns-clause-found : goal.returns-clause-found
returns-clause-found c =
    let facts = c.binary_search_by_key.ensures in
    let by_number = facts.position (λ pair. pair.0) (answers_always _ _ _ (λ f a r g called. search rules)) in
    rw (← c.self.view_is, ← c.deref.ensures.value) (found_by no_command _ (rw c.deref.ensures.value c.self.invariant) c.args.number _ facts.bound by_number)

pub returns-clause-absent : goal.returns-clause-absent
returns-clause-absent c =
    let facts = c.binary_search_by_key.ensures in
    let by_number = facts.position (λ pair. pair.0) (answers_always _ _ _ (λ f a r g called. search rules)) in
    rw (← c.self.view_is, ← c.deref.ensures.value) (absent_by no_command _ (rw c.deref.ensures.value c.self.invariant) c.args.number _ facts.bound by_number)
