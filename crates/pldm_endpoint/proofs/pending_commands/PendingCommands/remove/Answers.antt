use Rattle.std.proofs.Common.{None, ap, subst, ◌∙◌}
use Rattle.mctp_assembly.specs.NumberLists.{Changes}
use Rattle.std.specs.FinMap as map
use Rattle.mctp_assembly.proofs.NumberedMaps as maps
use Rattle.pldm_endpoint.specs.RequestKeys.{request_key_at, request_key_cmp, no_command, number_of}
use Rattle.pldm_endpoint.proofs.KeyOrder.{request_keys_exact, request_keys_total, request_key_of_number, number_of_request_key}
use Rattle.pldm_endpoint.proofs.pending_commands.PendingCommands.remove.Goals as goal

pub returns : goal.returns
returns c =
    maps.removed_in request_key_cmp request_keys_total request_keys_exact no_command request_key_at number_of number_of_request_key c.self.inside.list c.remove.new.self c.args.key (request_key_of_number c.args.key c.number.ensures.range)
    (subst (λ n. Changes c.self.inside.list c.remove.new.self n None) c.number.ensures.value c.remove.ensures)
    ∙ ap (λ m. map.remove m c.args.key) c.self.view_is
