-- The text so far, and that of the bytes that are left.
use Rattle.std.proofs.Common.{◌≡◌, ◌≤◌, ◌+◌, ◌*◌, ◌++◌, length}
use Rattle.mctpctl_decode.specs.AnswersToCommands.{commands_from}
use Rattle.mctpctl_decode.proofs.answer_to_command.push_commands.Given as goal

abbrev pub invariant-loop-rest : goal.invariant-loop-rest
invariant-loop-rest l = record {
  text : l.out.items ++ commands_from l.pldm_type l.first l.rest ≡ l.initial.out.items ++ commands_from l.pldm_type 0 l.bytes;
  count : l.first + 8 * length l.rest ≤ 256;
}

abbrev pub decreases-loop-rest : goal.decreases-loop-rest
decreases-loop-rest l = length l.rest
