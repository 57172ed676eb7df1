use Rattle.std.proofs.Common.{Some, None, List, subst}
use Rattle.pldm_requester.specs.Deadlines.{IsDeadline, IsEarliest}
use Rattle.pldm_requester.specs.Slots.{RequesterView, held_of}
use Rattle.pldm_requester.specs.Steps.{Memo}
use Rattle.pldm_requester.proofs.NextDeadlines.{deadline_at, no_deadline}
use Rattle.pldm_requester.proofs.requester.Requester.next_deadline.Goals as goal

pub returns-in_err-earliest_due : goal.returns-in_err-earliest_due
returns-in_err-earliest_due c =
    let station : RequesterView = record { own = c.self.inside.own; device = c.self.inside.device; timing = c.self.inside.timing; pace = c.self.inside.pace; count = c.self.inside.count; slots = c.self.inside.slots.items; open_messages = c.self.inside.assembler; last = c.self.inside.last } in
    let none = subst (λ (xs : List Memo). IsEarliest station.timing station.count xs station.count None) c.deref.ensures.value c.in_err-earliest_due.ensures in
    rw c.from_residual.ensures (subst (λ (s : RequesterView). IsDeadline (held_of s) None) c.self.view_is (no_deadline station c.self.invariant none))

pub returns : goal.returns
returns c =
    let station : RequesterView = record { own = c.self.inside.own; device = c.self.inside.device; timing = c.self.inside.timing; pace = c.self.inside.pace; count = c.self.inside.count; slots = c.self.inside.slots.items; open_messages = c.self.inside.assembler; last = c.self.inside.last } in
    let start = c.in_ok-earliest_due.field-0 in
    let some = subst (λ (xs : List Memo). IsEarliest station.timing station.count xs station.count (Some start)) c.deref.ensures.value c.in_ok-earliest_due.ensures in
    subst (λ (s : RequesterView). IsDeadline (held_of s) c.new.result) c.self.view_is (deadline_at station c.self.invariant start some c.new.result c.new.ensures.some c.new.ensures.value)
