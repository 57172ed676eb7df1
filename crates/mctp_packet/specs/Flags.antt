-- The fourth byte of a header as the code's struct of its parts.
use Rattle.std.specs.Prelude.{ℕ, ◌+◌, ◌*◌}
use Rattle.mctp_packet.specs.Bits.{bit}
use Rattle.mctp_packet.specs.declared.flags.Flags.{Flags}

-- SOM in bit 7, EOM in bit 6, the sequence number in bits 5:4, TO in bit 3, the tag in bits 2:0
abbrev pub flags_byte : Flags → ℕ
flags_byte f = 128 * bit f.start + 64 * bit f.end + 16 * f.seq + 8 * bit f.owner + f.tag
