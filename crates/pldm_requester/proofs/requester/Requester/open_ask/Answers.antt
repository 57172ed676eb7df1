use Rattle.std.specs.FinMap as map
use Rattle.std.proofs.Common.{◌≡◌, ◌∙◌, ◌+◌, ◌-◌, ◌%◌, ◌<◌, List, true, false, ap, sym, subst, refl, arith}
use Rattle.mctp_packet.specs.Pieces.{written_packets}
use Rattle.mctp_packet.specs.declared.packet.Route.{Route}
use Rattle.pldm_requester.specs.Asks.{ask_message}
use Rattle.pldm_requester.specs.AskRefs.{ask_in}
use Rattle.pldm_requester.specs.Courses.{begun}
use Rattle.pldm_requester.specs.Calls.{answer_key}
use Rattle.pldm_requester.specs.Numbering.{id_of}
use Rattle.pldm_requester.specs.Pacing.{kept}
use Rattle.pldm_requester.specs.Slots.{RequesterView, IsStation, IsWholeAt, held_of, freed, put_slot, most_opened}
use Rattle.pldm_requester.specs.Steps.{Memo, IsHeld, is_tag_in_use, opened_with}
use Rattle.pldm_requester.proofs.SlotSteps.{last_is_whole, opened_station, opened_is_held, memo_is}
use Rattle.pldm_requester.proofs.requester.Requester.open_ask.Goals as goal

pub invariant_of-self-2 : goal.invariant_of-self-2
invariant_of-self-2 c =
    let station : RequesterView = record { own = c.self.inside.own; device = c.self.inside.device; timing = c.self.inside.timing; pace = c.self.inside.pace; count = c.self.inside.count; slots = c.self.inside.slots.items; open_messages = c.self.inside.assembler; last = c.self.inside.last } in
    let route : Route = record { destination = station.device; source = station.own; owner = true; tag = c.tag_of-tag.result } in
    let memo : Memo = record { kind = (ask_in c.args.ask.now).kind; packets = written_packets route (ask_message (id_of station.count) (ask_in c.args.ask.now)); course = begun c.args.now; is_whole = true } in
    let count = ap (λ (s : RequesterView). s.count) c.self.view_is in
    let paced = c.if-is_id_in_use.ensures.paced in
    let few : station.count < most_opened c.args.now = omega (arith, paced, count) in
    let free = subst (λ (s : RequesterView). is_tag_in_use (held_of s) ≡ false) (sym c.self.view_is) (sym c.if-is_tag_in_use.ensures) in
    let made = c.new.ensures ∙ ap (λ ps. record { kind = (ask_in c.args.ask.now).kind; packets = ps; course = begun c.args.now; is_whole = true }) c.in_ok-content.ensures.content in
    let freed_is = c.in_ok-content.ensures.freed ∙ ap (freed station.pace station.count) c.make_room.ensures.items in
    let put_is : c.put.new.slots.items ≡ put_slot station.count (freed station.pace station.count station.slots) memo = c.put.ensures ∙ ap (λ xs. put_slot station.count xs c.new.result) freed_is ∙ ap (put_slot station.count (freed station.pace station.count station.slots)) made in
    subst (λ (xs : List Memo). IsStation (record station { count = station.count + 1; slots = xs; open_messages = c.forget.new.self; last = c.args.now })) (sym put_is)
    (opened_station station c.args.now memo c.forget.new.self c.self.invariant refl refl few free)

pub content_for-requires-clause-kept : goal.content_for-requires-clause-kept
content_for-requires-clause-kept c many =
    let station : RequesterView = record { own = c.self.inside.own; device = c.self.inside.device; timing = c.self.inside.timing; pace = c.self.inside.pace; count = c.self.inside.count; slots = c.self.inside.slots.items; open_messages = c.self.inside.assembler; last = c.self.inside.last } in
    subst (λ (xs : List Memo). IsWholeAt ((station.count - kept station.pace) % 32) xs) (sym c.make_room.ensures.items) (last_is_whole station c.self.invariant many)

pub returns-clause-held : goal.returns-clause-held
returns-clause-held c =
    let station : RequesterView = record { own = c.self.inside.own; device = c.self.inside.device; timing = c.self.inside.timing; pace = c.self.inside.pace; count = c.self.inside.count; slots = c.self.inside.slots.items; open_messages = c.self.inside.assembler; last = c.self.inside.last } in
    let tag = c.tag_of-tag.ensures.value in
    let route : Route = record { destination = station.device; source = station.own; owner = true; tag = c.tag_of-tag.result } in
    let packets = written_packets route (ask_message (id_of station.count) (ask_in c.args.ask.now)) in
    let memo : Memo = record { kind = (ask_in c.args.ask.now).kind; packets = packets; course = begun c.args.now; is_whole = true } in
    let new = memo_is station c.args.now (ask_in c.args.ask.now) c.tag_of-tag.result tag in
    let made = c.new.ensures ∙ ap (λ ps. record { kind = (ask_in c.args.ask.now).kind; packets = ps; course = begun c.args.now; is_whole = true }) c.in_ok-content.ensures.content in
    let freed_is = c.in_ok-content.ensures.freed ∙ ap (freed station.pace station.count) c.make_room.ensures.items in
    let put_is : c.put.new.slots.items ≡ put_slot station.count (freed station.pace station.count station.slots) memo = c.put.ensures ∙ ap (λ xs. put_slot station.count xs c.new.result) freed_is ∙ ap (put_slot station.count (freed station.pace station.count station.slots)) made in
    subst (λ (s : RequesterView). IsHeld (held_of (record station { count = station.count + 1; slots = c.put.new.slots.items; open_messages = c.forget.new.self; last = c.args.now })) (opened_with (held_of s) c.args.now (ask_in c.args.ask.now))) c.self.view_is
    (opened_is_held station c.args.now (ask_in c.args.ask.now) c.put.new.slots.items c.forget.new.self c.self.invariant.slots
    (put_is ∙ ap (put_slot station.count (freed station.pace station.count station.slots)) new)
    (c.forget.ensures ∙ ap (map.remove station.open_messages) (c.answer_key.ensures ∙ ap (answer_key station.device) tag)))
