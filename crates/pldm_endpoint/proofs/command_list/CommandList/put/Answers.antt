use Rattle.std.proofs.Common.{Some, sym, subst, ap}
use Rattle.std.specs.Prelude.{slice_set}
use Rattle.mctp_assembly.specs.NumberLists.{NumberList, Changes, IsAt, IsGapFor, Rises}
use Rattle.mctp_assembly.proofs.NumberPlaces.{here, rises_changed, rises_inserted, written_at, inserted_at, change_of}
use Rattle.pldm_endpoint.specs.RequestKeys.{no_command}
use Rattle.pldm_endpoint.specs.declared.pending_commands.PendingCommand.{PendingCommand}
use Rattle.pldm_endpoint.proofs.command_list.CommandList.put.Goals as goal

pub invariant_of-self : goal.invariant_of-self
invariant_of-self c =
    let list = c.self.inside.list.items in
    let is = subst (λ (l : NumberList PendingCommand). IsAt no_command l c.args.number c.in-Ok.place) (sym c.self.view_is) c.in-Ok.ensures.found in
    subst (λ n. Rises no_command (slice_set list c.in-Ok.place (n, c.replace.new.self)))
    (sym (here no_command list c.self.invariant c.args.number c.in-Ok.place is c.index_mut.result.now c.index_mut.ensures.value))
    (rises_changed no_command list c.self.invariant c.args.number c.in-Ok.place is c.replace.new.self)

pub invariant_of-self-in-Continue-branch-2 : goal.invariant_of-self-in-Continue-branch-2
invariant_of-self-in-Continue-branch-2 c =
    let gap = subst (λ (l : NumberList PendingCommand). IsGapFor no_command l c.args.number c.in-Err.place) (sym c.self.view_is) c.in-Err.ensures.absent in
    subst (Rises no_command) (sym c.in_ok-insert-in-Err.ensures.items)
    (rises_inserted no_command c.self.inside.list.items c.args.number c.in-Err.place gap c.in_ok-command-in-Err.command c.self.invariant)

pub returns-in-Ok-clause-ok : goal.returns-in-Ok-clause-ok
returns-in-Ok-clause-ok c =
    let list = c.self.inside.list.items in
    let is = subst (λ (l : NumberList PendingCommand). IsAt no_command l c.args.number c.in-Ok.place) (sym c.self.view_is) c.in-Ok.ensures.found in
    change_of no_command list c.args.self.now _ c.args.number (Some c.replace.new.self) (Some c.args.command) c.self.view_is (ap Some c.replace.ensures)
    (written_at no_command list c.self.invariant c.args.number c.in-Ok.place is c.index_mut.result.now c.replace.new.self c.index_mut.ensures.value)

pub returns-in_ok-insert-in-Err-clause-ok : goal.returns-in_ok-insert-in-Err-clause-ok
returns-in_ok-insert-in-Err-clause-ok c =
    let list = c.self.inside.list.items in
    let gap = subst (λ (l : NumberList PendingCommand). IsGapFor no_command l c.args.number c.in-Err.place) (sym c.self.view_is) c.in-Err.ensures.absent in
    let asked = c.in_ok-command-in-Err.command in
    change_of no_command list c.args.self.now _ c.args.number (Some asked) (Some c.args.command) c.self.view_is (ap Some c.in_ok-command-in-Err.ensures)
    (subst (λ (new : NumberList PendingCommand). Changes list new c.args.number (Some asked)) (sym c.in_ok-insert-in-Err.ensures.items) (inserted_at no_command list c.args.number c.in-Err.place gap asked))
