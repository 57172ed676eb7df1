-- The packets that an end of the link takes: their bytes pass the checks of reading, and their tag is one
-- that it expects.
use Rattle.std.specs.Prelude.{ℕ, Bool, List, Some, Result, Ok, Err, if◌then◌else◌}
use Rattle.mctp_packet.specs.Packets.{Packet}
use Rattle.mctp_packet.specs.Reading.{reading}
use Rattle.mctp_packet.specs.declared.reason.Reason.{Reason}
use Rattle.mctp_packet.specs.declared.reason.Reason.TheVariants.{BadTag}

-- a packet that was read; the check of its tag comes last
abbrev pub passed : (Packet → Bool) → Result Packet Reason → Result Packet Reason
passed expected (Ok p) = if expected p then Ok p else Err BadTag
passed expected (Err reason) = Err reason

-- the packet that bytes bring to the endpoint `own`, or the first reason for which they are dropped
abbrev pub passing : (Packet → Bool) → ℕ → List ℕ → Result Packet Reason
passing expected own bytes = passed expected (reading (Some own) bytes)
