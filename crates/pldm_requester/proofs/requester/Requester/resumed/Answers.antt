use Rattle.std.proofs.Common.{◌≡◌, ℕ, refl, subst, rules}
use Rattle.std.specs.Prelude.{not, option_map, slice_get}
use Rattle.pldm_requester.specs.Resuming.{last_with, shut_memo}
use Rattle.pldm_requester.specs.Steps.{is_kept, outline_if}
use Rattle.pldm_requester.proofs.ResumedOpenings.{is_station}
use Rattle.pldm_requester.proofs.requester.Requester.resumed.Goals as goal

pub invariant_of-result : goal.invariant_of-result
invariant_of-result c =
    let openings = c.args.openings.now in
    let slots = c.in_ok-slots.slots.items in
    let each = subst
    (λ (n : ℕ). (id : ℕ) → slice_get slots id ≡ outline_if (not (is_kept c.args.pace n (last_with n id))) (option_map (shut_memo c.args.own c.args.device id) (slice_get openings.moments.items id)))
    c.in-Some-count_at.ensures.value c.in_ok-slots.ensures.slots in
    is_station c.args.own c.args.device c.args.timing c.args.pace c.args.now openings (search rules) slots c.in_ok-slots.ensures.count each
    (record { own = c.args.own; device = c.args.device; timing = c.args.timing; pace = c.args.pace; count = c.in-Some-count_at.count; slots = slots; open_messages = c.new.result; last = c.args.now })
    (search rules) refl c.in-Some-count_at.ensures.value refl refl
