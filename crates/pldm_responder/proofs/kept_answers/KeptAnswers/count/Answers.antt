use Rattle.std.proofs.Common.{◌≡◌, ◌≤◌, ◌*◌, rules, arith, length, subst}
use Rattle.std.specs.List.{sum_by}
use Rattle.std.proofs.lemmas.Iterator.{YieldsList-from_slice}
use Rattle.std.proofs.lemmas.Iterator.Adapters.{fits_from_length, at_most_from_yields_List}
use Rattle.pldm_responder.specs.Counts.{CountsKept}
use Rattle.pldm_responder.specs.Slots.{Rows, entry_in, source_count}
use Rattle.pldm_responder.proofs.KeptCounts.{counts_kept, few_kept, kept_count}
use Rattle.pldm_responder.proofs.kept_answers.KeptAnswers.count.Goals as goal

-- a row is 16 bytes in the list, and has at most 32 answers
pub sum-requires-clause-fits : goal.sum-requires-clause-fits
sum-requires-clause-fits c =
    let few : length c.deref.result.now ≤ 576460752303423487 = omega arith in
    fits_from_length _ _ 576460752303423487 18446744073709551616 (at_most_from_yields_List (YieldsList-from_slice c.deref.result.now cc) few) c.map.ensures.closure (omega arith) (λ x r q k. search rules)

pub returns-clause-value : goal.returns-clause-value
returns-clause-value c =
    let total : c.sum.result ≡ sum_by kept_count c.self.inside.rows.items = search rules in
    subst (λ (rows : Rows). CountsKept (entry_in rows) c.sum.result) c.self.view_is (counts_kept _ c.sum.result c.self.invariant total)

pub returns-clause-few : goal.returns-clause-few
returns-clause-few c =
    let total : c.sum.result ≡ sum_by kept_count c.self.inside.rows.items = search rules in
    subst (λ (rows : Rows). c.sum.result ≤ rows.window * source_count rows) c.self.view_is (omega (arith, total, few_kept _ c.self.invariant))
