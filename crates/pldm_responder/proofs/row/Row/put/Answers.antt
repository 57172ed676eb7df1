use Rattle.std.proofs.Common.{◌≡◌, ◌≤◌, ◌+◌, ℕ, max, List, Option, length, length-append, arith, ap, sym, ◌∙◌, subst, take}
use Rattle.pldm_responder.specs.ResponderStates.{Entry, id_in}
use Rattle.pldm_responder.specs.Orders.{id_of, newest_first}
use Rattle.pldm_responder.specs.declared.order.Indexed.{Indexed}
use Rattle.pldm_responder.specs.Recency.{renewed}
use Rattle.pldm_responder.specs.SlotBytes.{Stored}
use Rattle.pldm_responder.specs.SourceAnswers.{AreLatest, kept_by}
use Rattle.pldm_responder.specs.declared.row.Row.TheInside.{Inside}
use Rattle.pldm_responder.proofs.SourceAnswers.{Reached, kept_in_front, no_more_slots, one_more, still_latest}
use Rattle.pldm_responder.proofs.row.Row.put.Goals as goal
use Rattle.pldm_responder.proofs.row.Row.put.Goals.{then-slot-len, else-slot-len}

-- the slot is there, and else nothing changed
record Ready (c : goal.After-fill) : Type 0 where
  reached : Reached c.self.inside.slots.entries c.if-slot-len.self-inside.slots.entries c.from-slot.result
  rooms : c.if-slot-len.self-inside.slots.room ≡ c.self.inside.slots.room
  window : c.if-slot-len.self-inside.window ≡ c.self.inside.window
  table : c.if-slot-len.self-inside.table ≡ c.renew.new.table
  order : c.if-slot-len.self-inside.order ≡ c.renew.new.order

ready : (c : goal.After-fill) → Ready c
ready c =
    let slots = c.self.inside.slots in
    elim c.if-slot-len.branch [
      | then-slot-len w ↦ record {
        reached = one_more slots.entries c.if-slot-len.self-inside.slots.entries c.from-slot.result (omega (arith, w.if-slot-len.true, c.len.ensures))
            (ap (λ (inside : Inside). inside.slots.entries) w.self-inside-is ∙ w.add.ensures.entries);
        rooms = ap (λ (inside : Inside). inside.slots.room) w.self-inside-is ∙ w.add.ensures.room;
        window = ap (λ (inside : Inside). inside.window) w.self-inside-is;
        table = ap (λ (inside : Inside). inside.table) w.self-inside-is;
        order = ap (λ (inside : Inside). inside.order) w.self-inside-is;
      }
      | else-slot-len w ↦ record {
        reached = no_more_slots slots.entries c.if-slot-len.self-inside.slots.entries c.from-slot.result
            (omega (arith, w.if-slot-len.false, c.len.ensures, c.from-slot.ensures, c.renew.ensures.slot.next, c.self.invariant.used))
            (ap (λ (inside : Inside). inside.slots.entries) w.self-inside-is);
        rooms = ap (λ (inside : Inside). inside.slots.room) w.self-inside-is;
        window = ap (λ (inside : Inside). inside.window) w.self-inside-is;
        table = ap (λ (inside : Inside). inside.table) w.self-inside-is;
        order = ap (λ (inside : Inside). inside.order) w.self-inside-is;
      }
    ]

-- the answer in front, over what was there
module _ (c : goal.After-fill) where
  abbrev entry : Entry
  entry = record { moment = c.args.moment; bytes = c.args.bytes.now; answer = c.args.answer.now }

  few : length c.renew.new.order ≤ c.self.inside.window
  few = omega (arith, c.renew.ensures.order.few, c.get-window.ensures.value)

  used : length c.renew.new.order ≡ max (length c.self.inside.order) (c.from-slot.result + 1)
  used = omega (arith, c.renew.ensures.slot.used, c.from-slot.ensures)

  front : newest_first c.renew.new.order
      ≡ take c.self.inside.window (renewed id_of (record { id = c.args.id; slot = c.from-slot.result }) (newest_first c.self.inside.order))
  front =
      c.renew.ensures.renewed.order
      ∙ (λ i. take (c.get-window.ensures.value i) (renewed id_of (record { id = c.args.id; slot = sym c.from-slot.ensures i }) (newest_first c.self.inside.order)))

pub add-requires : goal.add-requires
add-requires c = record {
  room = omega (arith, c.if-slot-len.true, c.len.ensures, c.from-slot.ensures, c.renew.ensures.slot.used, c.renew.ensures.order.few, c.get-window.ensures.value, c.self.invariant.rooms);
  few = omega (arith, c.if-slot-len.true, c.len.ensures, c.from-slot.ensures, c.renew.ensures.slot.used, c.renew.ensures.order.few, c.get-window.ensures.value, c.self.invariant.window.1);
}

pub fill-requires-clause-there : goal.fill-requires-clause-there
fill-requires-clause-there c =
    elim c.if-slot-len.branch [
      | then-slot-len w ↦
          let is = ap (λ (inside : Inside). length inside.slots.entries) w.self-inside-is ∙ ap length w.add.ensures.entries ∙ length-append c.self.inside.slots.entries _ in
          omega (arith, is, w.if-slot-len.true, c.len.ensures)
      | else-slot-len w ↦
          let is = ap (λ (inside : Inside). length inside.slots.entries) w.self-inside-is in
          omega (arith, is, w.if-slot-len.false, c.len.ensures, c.from-slot.ensures, c.renew.ensures.slot.next, c.self.invariant.used)
    ]

pub invariant_of-self : goal.invariant_of-self
invariant_of-self c =
    let inside = c.self.inside in
    let now = c.if-slot-len.self-inside in
    let is = ready c in
    let latest = still_latest inside.window inside.table inside.slots.entries inside.order inside.slots.room c.self.invariant c.args.id c.from-slot.result
    c.renew.new.order now.slots.entries (entry c) c.renew.ensures.order.order_is (few c) (front c) (used c) is.reached c.requires.id
    c.renew.new.table now.slots.room c.renew.ensures.order.tabled.table c.renew.ensures.order.tabled.small is.rooms in
    subst (λ (parts : ℕ × (List (Option ℕ) × (List Indexed × Stored))). AreLatest parts.0 parts.1.0 parts.1.1.1.entries parts.1.1.0 parts.1.1.1.room)
    (λ i. (sym is.window i, (sym is.table i, (sym is.order i, record { room = sym c.fill.ensures.room i; entries = sym c.fill.ensures.entries i })))) latest

pub returns : goal.returns
returns c =
    let inside = c.self.inside in
    let now = c.if-slot-len.self-inside in
    let is = ready c in
    let kept = kept_in_front inside.window inside.table inside.slots.entries inside.order inside.slots.room c.self.invariant c.args.id c.from-slot.result
    c.renew.new.order now.slots.entries (entry c) c.renew.ensures.order.order_is (few c) (front c) (used c) is.reached c.requires.id in
    (λ i. record { window = is.window i; kept = kept_by (c.fill.ensures.entries i) (newest_first (is.order i)) })
    ∙ ap (λ entries. record { window = inside.window; kept = entries }) kept
    ∙ (λ i. record { window = (c.self.view_is i).window; kept = take (c.self.view_is i).window (renewed id_in (entry c) (c.self.view_is i).kept) })
