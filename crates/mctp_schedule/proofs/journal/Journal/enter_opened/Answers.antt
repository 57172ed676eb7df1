-- The last request gets its message.
use Rattle.std.proofs.Common.{◌≡◌, ◌++◌, ◌∷◌, [], Some, OnOk, arith, length, slice_get, slice_set, ap, subst, ◌∙◌}
use Rattle.mctp_schedule.specs.Requests.{begun, with_message}
use Rattle.mctp_schedule.proofs.ListPlaces.{get_last, or_get, set_last}
use Rattle.mctp_schedule.proofs.journal.Journal.enter_opened.Goals as goal

pub returns-clause-requests : goal.returns-clause-requests
returns-clause-requests c =
    let old = c.args.self.now.requests.items in
    let new = c.new.result in
    let filled = c.set_message.new.self in
    let count = c.len-number.ensures in
    let at : c.len-number.result ≡ length old = omega (arith, count) in
    let pushed : c.push.new.self.items ≡ old ++ new ∷ [] = c.in_ok-push.ensures.items in
    let here : slice_get c.push.new.self.items c.len-number.result ≡ Some new =
    ap (λ xs. slice_get xs c.len-number.result) pushed ∙ ap (slice_get (old ++ new ∷ [])) at ∙ get_last old new in
    let was : c.index_mut.result.now ≡ new = c.index_mut.ensures.value ∙ or_get c.push.new.self.items c.len-number.result _ new here in
    let is : filled ≡ begun c.args.requester c.args.sent.own c.args.opening c.args.sent.message.now =
    c.set_message.ensures ∙ ap (with_message c.args.sent.message.now) (was ∙ c.new.ensures) in
    subst (λ rs. OnOk c.enter.result (c.enter.new.self.requests.items ≡ rs))
    (ap (λ xs. slice_set xs c.len-number.result filled) pushed ∙ ap (λ i. slice_set (old ++ new ∷ []) i filled) at ∙ set_last old new filled ∙ ap (λ r. old ++ r ∷ []) is)
    c.enter.ensures.requests
