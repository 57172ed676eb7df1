-- Words that look like packets.
use Rattle.std.specs.Prelude.{ℕ, ◌*◌, ◌%◌, ◌==◌, Bool, ◌&&◌, nat_le, List, length, take, bytes_eq, codes}
use Rattle.std.specs.Char.{is_ascii_hexdigit}
use Rattle.std.specs.List.{list_all}
use Rattle.mctp_packet.specs.declared.TheConstants.{HEADER}

-- two hex digits for each byte, a header's bytes at least, and the header version 1
abbrev pub looks_like_packet : List ℕ → Bool
looks_like_packet word =
    list_all is_ascii_hexdigit word && (length word % 2 == 0) && nat_le (2 * HEADER) (length word)
    && bytes_eq (take 2 word) (codes "01")
