use Rattle.std.proofs.Common.{ap, sym, ◌∙◌}
use Rattle.std.specs.FinMap as map
use Rattle.mctp_assembly.proofs.NumberedMaps as maps
use Rattle.pldm_endpoint.specs.RequestKeys.{request_key_at, request_key_cmp, no_command, number_of}
use Rattle.pldm_endpoint.proofs.KeyOrder.{request_keys_exact, request_keys_total, number_of_request_key}
use Rattle.pldm_endpoint.proofs.pending_commands.PendingCommands.len.Goals as goal

pub returns : goal.returns
returns c =
    c.len.ensures.value ∙ sym (maps.len_in request_key_cmp request_keys_total request_keys_exact no_command request_key_at number_of number_of_request_key c.self.inside.list c.len.ensures.rises) ∙ ap map.len c.self.view_is
