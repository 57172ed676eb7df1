-- One more line, until there is none.
use Rattle.std.proofs.Common.{◌≡◌, ◌<◌, ◌+◌, ℕ, true, take, length, Some, sym, ap, subst, ◌∙◌, arith}
use Rattle.std.specs.Prelude.{slice_set}
use Rattle.pldm_requester.specs.Slots.{held_of}
use Rattle.pldm_requester.specs.Steps.{IsHeld, held_at_first}
use Rattle.mctp_schedule.specs.Askers.{Side}
use Rattle.mctp_schedule.specs.Places.{Begins, side_at}
use Rattle.mctp_schedule.specs.Worlds.{timing_from}
use Rattle.schedule_text.specs.Schedules.{has_requester}
use Rattle.mctp_schedule.proofs.BegunRequesters.{accepted_more, begun_more}
use Rattle.mctp_schedule.proofs.ListPlaces.{get_or, length_set, take_all}
use Rattle.mctp_schedule.proofs.places.begin_requesters.Goals as goal

pub loop-line-preserved : goal.loop-line-preserved
loop-line-preserved c =
    let lines = c.args.lines.now in
    let i = c.loop-line.line-index in
    let line = c.line-item.result in
    let places = c.loop-line.places.items in
    let within = c.loop-line-test.true in
    let at = sym c.line-item.is in
    let here = get_or lines i line within ∙ ap Some at in
    let before = c.loop-line.invariant in
    let all = before.all in
    let eid : c.from.result ≡ line.eid = c.from.ensures ∙ c.get.ensures.value in
    let range = c.get.ensures.range in
    let below : line.eid < length places = omega (arith, range, all) in
    let side = c.new.result in
    let new = c.new.ensures in
    let begun = begun_more c.args.device c.args.keep lines i line places side c.requires within at here below range c.in_ok-requester.ensures.ok (subst (λ (s : Side). IsHeld (held_of s.station) (held_at_first line.eid c.args.device (timing_from c.args.keep (Some line)))) (sym new) c.in_ok-requester.ensures.held) (ap (λ (s : Side). s.numbers) new) before.begun in
    record {
      all = length_set places c.from.result (Some side) ∙ all;
      begun = subst (λ e. (d : ℕ) → has_requester (take (i + 1) lines) d ≡ true → (s : Side) × (side_at (slice_set places e (Some side)) d ≡ Some s) × Begins c.args.device c.args.keep lines d s) (sym eid) begun;
      accepted = accepted_more c.args.device c.args.keep lines i line here c.in_ok-requester.ensures.ok before.accepted;
    }

pub returns-clause-begin : goal.returns-clause-begin
returns-clause-begin c =
    let done = c.loop-line-test.false in
    λ e has. c.loop-line.invariant.begun e (ap (λ ls. has_requester ls e) (take_all c.loop-line.line-index c.args.lines.now (omega (arith, done))) ∙ has)
