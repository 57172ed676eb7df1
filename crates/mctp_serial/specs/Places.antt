-- The reader's fields as where it stands.
use Rattle.std.specs.Prelude.{ℕ, ◌<◌, ◌≤◌, List, length, ⊤}
use Rattle.mctp_packet.specs.declared.TheConstants.{MAX_PACKET_BYTES}
use Rattle.mctp_serial.specs.Readings.{Reading, idle, opened, counting, inside, escaped, high, low, closing}
use Rattle.mctp_serial.specs.declared.reader.Place.{Place}
use Rattle.mctp_serial.specs.declared.reader.Place.TheVariants as at

abbrev pub reading_of : Place → List ℕ → Reading
reading_of at.Idle bytes = idle
reading_of at.Opened bytes = opened
reading_of at.Counting bytes = counting
reading_of (at.Inside count) bytes = inside count bytes
reading_of (at.Escaped count) bytes = escaped count bytes
reading_of at.High bytes = high bytes
reading_of (at.Low first) bytes = low bytes first
reading_of (at.Closing sent) bytes = closing bytes sent

-- in a packet there is room for what is to come of it
abbrev pub HasRoom : Place → List ℕ → Type 0
HasRoom (at.Inside count) bytes = (length bytes < count) × (count ≤ MAX_PACKET_BYTES)
HasRoom (at.Escaped count) bytes = (length bytes < count) × (count ≤ MAX_PACKET_BYTES)
HasRoom place bytes = ⊤
