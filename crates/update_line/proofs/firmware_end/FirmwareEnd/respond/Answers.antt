-- The command that was read is taken; where none was read, nothing comes of it.
use Rattle.std.proofs.Common.{ap, inl, inr}
use Rattle.update_line.proofs.firmware_end.FirmwareEnd.respond.Goals as goal
use Rattle.update_line.proofs.firmware_end.FirmwareEnd.respond.Goals.{in-Ok, in-Err}

pub returns : goal.returns
returns g c = elim c.match-read_update_command.branch [ in-Ok w ↦ inr (w.in-Ok.command, rw w.self-is w.take_command-answer.ensures) | in-Err w ↦ inl (ap (λ s. s.machine) w.self-is, ap (λ s. s.flash) w.self-is) ]
