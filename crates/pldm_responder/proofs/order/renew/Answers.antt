use Rattle.std.proofs.Common.{◌≡◌, ◌<◌, ◌+◌, max, Some, length, length-append, ap, sym, ◌∙◌, arith}
use Rattle.pldm_responder.specs.Orders.{id_of, slot_in}
use Rattle.pldm_responder.specs.Recency.{without}
use Rattle.pldm_responder.proofs.SlotOrders.{Choice, IsChosen, RenewsInOrder, chosen, has_other, none_in_table, renewed_by, some_in_table, tabled_by}
use Rattle.pldm_responder.proofs.SlotOrders.Choice.{own, next, oldest}
use Rattle.pldm_responder.proofs.order.renew.Goals as goal
use Rattle.pldm_responder.proofs.order.renew.Goals.{in-Some, in-None, in-None-2}

pub take-requires : goal.take-requires
take-requires c =
    let owns = some_in_table c.args.table.now c.args.order.now c.requires.order.tabled.table c.args.id c.requires.id c.in-Some.slot (sym c.in-Some.ensures) in
    has_other id_of slot_in c.args.id c.in-Some.slot c.args.order.now owns.entry owns.found owns.same

choice : (c : goal.After-put-arg-1) → Choice c.args.window c.args.id c.args.order.now c.args.table.now c.match-get.order c.match-get.table c.match-get.slot
choice c =
    let old = c.args.order.now in
    let table = c.args.table.now in
    elim c.match-get.branch [
      | in-Some w ↦
          let owns = some_in_table table old c.requires.order.tabled.table c.args.id c.requires.id c.match-get.slot (sym w.in-Some.ensures ∙ ap Some (sym w.slot-is)) in
          own owns (w.order-is ∙ w.take.ensures ∙ ap (λ s. without slot_in s old) (sym w.slot-is)) w.table-is
      | in-None w ↦
          let none = none_in_table table old c.requires.order.tabled.table c.args.id c.requires.id (sym w.in-None.ensures) in
          next (omega (arith, w.if-len-window.true, w.len.ensures)) none (w.slot-is ∙ w.len-slot.ensures) w.order-is w.table-is
      | in-None-2 w ↦
          let none = none_in_table table old c.requires.order.tabled.table c.args.id c.requires.id (sym w.in-None.ensures) in
          oldest (omega (arith, w.if-len-window.false, w.len.ensures)) none w.oldest-oldest.result w.oldest-oldest.ensures w.slot-is (w.order-is ∙ w.take-in-None-2.ensures) (w.table-is ∙ w.clear.ensures)
    ]

is_chosen : (c : goal.After-put-arg-1) → IsChosen c.args.window c.args.order.now c.match-get.order c.match-get.slot
is_chosen c = chosen c.args.window c.args.id c.args.order.now c.args.table.now c.requires.order.order_is c.requires.order.window_is.0 c.requires.order.few c.match-get.order c.match-get.table c.match-get.slot (choice c)

low : (c : goal.After-put-arg-1) → c.match-get.slot < 32
low c = omega (arith, (is_chosen c).within, c.requires.order.window_is.1)

pub put-requires-clause-slot : goal.put-requires-clause-slot
put-requires-clause-slot c = low c

pub push-requires-clause-slot : goal.push-requires-clause-slot
push-requires-clause-slot c = low c.before.before

pub push-requires-clause-fresh : goal.push-requires-clause-fresh
push-requires-clause-fresh c = (is_chosen c.before.before).fresh

renewed : (c : goal.After-push) → RenewsInOrder c.args.window c.args.id c.args.order.now c.push.new.self c.match-get.slot
renewed c =
    renewed_by c.args.window c.args.id c.args.order.now c.args.table.now c.requires.order.order_is c.requires.order.window_is.0 c.requires.order.few c.match-get.order c.match-get.table c.match-get.slot c.push.new.self c.push.ensures
    (choice c.before.before.before)

used : (c : goal.After-push) → length c.push.new.self ≡ max (length c.args.order.now) (c.match-get.slot + 1)
used c = ap length c.push.ensures ∙ length-append c.match-get.order _ ∙ (is_chosen c.before.before.before).used

pub returns-clause-renewed : goal.returns-clause-renewed
returns-clause-renewed c = (renewed c).renewed

pub returns-clause-order : goal.returns-clause-order
returns-clause-order c = record {
  window_is = c.requires.order.window_is;
  order_is = (renewed c).still;
  tabled =
      tabled_by c.args.window c.args.id c.args.order.now c.args.table.now c.requires.order.order_is c.requires.order.window_is.0 c.requires.order.few c.match-get.order c.match-get.table c.match-get.slot c.push.new.self c.push.ensures
      c.requires.order.tabled c.requires.id c.put.new.self c.put.ensures (choice c.before.before.before);
  few = omega (arith, used c, (is_chosen c.before.before.before).within, c.requires.order.few);
}

pub returns-clause-slot : goal.returns-clause-slot
returns-clause-slot c = record { next = (is_chosen c.before.before.before).reached; used = used c }
