use Rattle.std.proofs.Common.{Some, ap, subst, ◌∙◌}
use Rattle.mctp_assembly.specs.NumberLists.{Changes}
use Rattle.std.specs.FinMap as map
use Rattle.mctp_assembly.proofs.NumberedMaps as maps
use Rattle.pldm_endpoint.specs.RequestKeys.{request_key_at, request_key_cmp, no_command, number_of}
use Rattle.pldm_endpoint.proofs.KeyOrder.{request_keys_exact, request_keys_total, request_key_of_number, number_of_request_key}
use Rattle.pldm_endpoint.proofs.pending_commands.PendingCommands.insert.Goals as goal

pub returns-clause-ok : goal.returns-clause-ok
returns-clause-ok c =
    maps.inserted_in request_key_cmp request_keys_total request_keys_exact no_command request_key_at number_of number_of_request_key c.self.inside.list c.put.new.self c.args.key c.args.command
    (request_key_of_number c.args.key c.number.ensures.range)
    (subst (λ n. Changes c.self.inside.list c.put.new.self n (Some c.args.command)) c.number.ensures.value c.in_ok-put.ensures.ok)
    ∙ ap (λ m. map.insert m c.args.key c.args.command) c.self.view_is
