use Rattle.std.proofs.Common.{ap}
use Rattle.mctpctl_input.specs.Bindings.{with_fault}
use Rattle.mctpctl_input.specs.declared.frame_fault.FrameFault.TheVariants.{Serial}
use Rattle.mctpctl_input.proofs.SerialRead.{frame_read}
use Rattle.mctpctl_input.proofs.laws.frames_are_read.Goals as goal

pub returns-clause-serial : goal.returns-clause-serial
returns-clause-serial c = λ packet has_frame. ap (with_fault (λ fault. Serial fault)) (frame_read packet has_frame)
