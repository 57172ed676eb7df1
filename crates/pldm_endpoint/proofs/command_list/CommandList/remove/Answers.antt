use Rattle.std.proofs.Common.{None, refl, sym, subst}
use Rattle.mctp_assembly.specs.NumberLists.{NumberList, Changes, IsAt, Rises}
use Rattle.mctp_assembly.proofs.NumberPlaces.{rises_removed, removed_at, none_in_gap, change_of, unchanged}
use Rattle.pldm_endpoint.specs.RequestKeys.{no_command}
use Rattle.pldm_endpoint.specs.declared.pending_commands.PendingCommand.{PendingCommand}
use Rattle.pldm_endpoint.proofs.command_list.CommandList.remove.Goals as goal

pub invariant_of-self : goal.invariant_of-self
invariant_of-self c =
    let list = c.self.inside.list.items in
    let is = subst (λ (l : NumberList PendingCommand). IsAt no_command l c.args.number c.in-Ok.place) (sym c.self.view_is) c.in-Ok.ensures.found in
    subst (Rises no_command) (sym c.remove.ensures.items) (rises_removed no_command list c.self.invariant c.args.number c.in-Ok.place is)

pub returns-in-Ok : goal.returns-in-Ok
returns-in-Ok c =
    let list = c.self.inside.list.items in
    let is = subst (λ (l : NumberList PendingCommand). IsAt no_command l c.args.number c.in-Ok.place) (sym c.self.view_is) c.in-Ok.ensures.found in
    change_of no_command list c.args.self.now _ c.args.number None None c.self.view_is refl
    (subst (λ (new : NumberList PendingCommand). Changes list new c.args.number None) (sym c.remove.ensures.items) (removed_at no_command list c.self.invariant c.args.number c.in-Ok.place is))

pub returns-in_default : goal.returns-in_default
returns-in_default c = unchanged no_command c.args.self.now c.args.number (none_in_gap no_command c.args.self.now c.args.number _ c.in_default.ensures.absent)
