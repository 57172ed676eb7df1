-- A frame is read from its flag on, and what was read of one has come.
use Rattle.mctp_serial.proofs.FramesRead.{frame_read}
use Rattle.mctp_serial.proofs.FramesReported.{only_frames}
use Rattle.mctp_serial.proofs.laws.frames_read_back.Goals as goal

pub returns-clause-back : goal.returns-clause-back
returns-clause-back c = frame_read

pub returns-clause-only : goal.returns-clause-only
returns-clause-only c = only_frames
