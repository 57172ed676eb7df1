-- What the definition of a line of the board's capture says of lines that are written out.
use Rattle.std.proofs.Common.{◌≡◌, ℕ, List, [], ◌∷◌, ◌++◌, codes, Option, None, Some, Result, Ok, Err, refl}
use Rattle.hex.proofs.OnLiterals.{hex_on_literals}
use Rattle.fan_board.specs.PacketLines.{PacketAt, packet_of}
use Rattle.fan_board.specs.declared.packet_line.LineFault.{LineFault}
use Rattle.fan_board.specs.declared.packet_line.LineFault.TheVariants.{Words, NoMoment, NoHex}

abbrev packet : ℕ → List ℕ → Result (Option PacketAt) LineFault
packet moment bytes = Ok (Some (record { moment = moment; bytes = bytes }))

blank : packet_of (codes "  ") ≡ Ok None
blank = refl

comment : packet_of (codes " # 1 2 3") ≡ Ok None
comment = refl

-- a moment alone is an empty packet
empty_packet : packet_of (codes "37600") ≡ packet 37600 []
unfolding hex_on_literals
empty_packet = refl

-- hex digits of both cases, and one carriage return at the very end
packet_bytes : packet_of (codes "007  0aF0" ++ 13 ∷ []) ≡ packet 7 (10 ∷ 240 ∷ [])
unfolding hex_on_literals
packet_bytes = refl

latest : packet_of (codes "4000000000000000") ≡ packet 4000000000000000 []
unfolding hex_on_literals
latest = refl

too_late : packet_of (codes "4000000000000001") ≡ Err NoMoment
too_late = refl

-- the first fault is returned: the count of words, then the moment, then the digits
three_words : packet_of (codes "x 0 0") ≡ Err Words
three_words = refl

no_number : packet_of (codes "x 0") ≡ Err NoMoment
no_number = refl

odd_digits : packet_of (codes "0 010") ≡ Err NoHex
unfolding hex_on_literals
odd_digits = refl
