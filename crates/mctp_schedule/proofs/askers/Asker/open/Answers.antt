-- A request that was opened has the next number.
use Rattle.std.proofs.Common.{Ok, ap, subst, ◌∙◌}
use Rattle.pldm_requester.specs.Slots.{held_of}
use Rattle.pldm_requester.specs.Steps.{is_id_in_use, is_tag_in_use}
use Rattle.pldm_requester.specs.declared.results.Opened.{Opened}
use Rattle.mctp_schedule.specs.Askers.{IsOpenedAs, Side}
use Rattle.mctp_schedule.proofs.AskerCalls.{accepted_as}
use Rattle.mctp_schedule.proofs.askers.Asker.open.Goals as goal

pub returns-clause-opened : goal.returns-clause-opened
returns-clause-opened c =
    let held = held_of c.self.inside.requester in
    let is = accepted_as (is_tag_in_use held) (is_id_in_use held c.args.now) held.count c.in-Ok.opened c.in-Ok.ensures.answer in
    subst (λ (s : Side). IsOpenedAs (held_of s.station) c.args.now c.args.command.now c.in-Ok.opened.number) c.self.view_is
    (record {
      opened = c.in-Ok.ensures.answer ∙ ap Ok is;
      numbered = ap (λ (o : Opened). o.number) is;
      readable = c.in-Ok.ensures.readable;
    })
