-- The lines of a record that came in parts, below the answer with its last part.
use Rattle.std.specs.Prelude.{ℕ, ◌==◌, List, [], ◌∷◌, ◌++◌, codes, Option, None, Some, if◌then◌else◌}
use Rattle.mctpctl_decode.specs.DecodedLines.{decoded_line}
use Rattle.mctpctl_decode.specs.RecordFields.{record_line}
use Rattle.mctpctl_decode.specs.RecordTexts.{record_lines, unread_text}
use Rattle.mctpctl_decode.specs.Transfers.{Between, Given, Transferred, given_by, is_ended_by, transfers_of}
use Rattle.mctpctl_engines.specs.MessageForms.{Message}
use Rattle.pldm_wire.specs.Crc.{crc}
use Rattle.pldm_wire.specs.RecordParts.{Part}

-- the record's lines, where its checksum is the one that came with its last part
abbrev pub checked_lines : List ℕ → Option ℕ → List ℕ
checked_lines bytes None = []
checked_lines bytes (Some checksum) =
    if crc bytes == checksum then record_lines bytes else record_line (unread_text bytes (codes "Crc"))

abbrev pub ended_lines : Transferred → ℕ → Part → List ℕ
ended_lines t id part = if is_ended_by t id part.flag then checked_lines t.bytes part.transfer_crc else []

abbrev pub given_lines : Transferred → Option Given → List ℕ
given_lines t None = []
given_lines t (Some given) = ended_lines t given.id given.part

-- the lines of the record that a message ends, where this is what is known with that message
abbrev pub message_ends : Between → Message → List ℕ
message_ends all m = given_lines (all m.route.destination m.route.source) (given_by m.bytes)

-- the line of a whole message, and below it the lines of a record that it ends
abbrev pub decoded_text : List Message → Message → List ℕ
decoded_text before m = decoded_line m.bytes ++ message_ends (transfers_of (m ∷ before)) m
