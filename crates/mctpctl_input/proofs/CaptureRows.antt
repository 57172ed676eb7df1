-- What the definition of a capture line says of lines that are written out.
use Rattle.std.proofs.Common.{◌≡◌, ℕ, List, [], ◌∷◌, ◌++◌, codes, Option, None, Some, Result, Ok, Err, refl}
use Rattle.hex.proofs.OnLiterals.{hex_on_literals}
use Rattle.mctpctl_input.specs.CaptureLine.{capture_of, TimedPacket}
use Rattle.mctpctl_input.specs.declared.faults.LineKind.{LineKind}
use Rattle.mctpctl_input.specs.declared.faults.LineKind.TheVariants.{Words, Number, BackInTime, BadHex}

says : List ℕ → ℕ → Result (Option TimedPacket) LineKind → Type 0
says line last said = capture_of line last ≡ said

packet : ℕ → List ℕ → Result (Option TimedPacket) LineKind
packet moment bytes = Ok (Some (record { moment = moment; bytes = bytes }))

-- an empty line, spaces with a carriage return, and comments say nothing
blank : says [] 0 (Ok None)
unfolding says capture_of
blank = refl

spaces : says (codes "   " ++ 13 ∷ []) 0 (Ok None)
unfolding says capture_of
spaces = refl

comment : says (codes "  # 1 2 3") 0 (Ok None)
unfolding says capture_of
comment = refl

-- a moment alone is an empty packet; the moment may be that of the line before
empty_packet : says (codes "7") 7 (packet 7 [])
unfolding says packet capture_of hex_on_literals
empty_packet = refl

-- hex digits of both cases, spaces all around, and one carriage return at the very end
packet_bytes : says (codes " 007  0aF0 " ++ 13 ∷ []) 0 (packet 7 (10 ∷ 240 ∷ []))
unfolding says packet capture_of hex_on_literals
packet_bytes = refl

-- a carriage return that a space follows, or another, is part of the last word
return_inside : says (codes "7 0aF0" ++ 13 ∷ codes " ") 0 (Err BadHex)
unfolding says capture_of hex_on_literals
return_inside = refl

two_returns : says (codes "7" ++ 13 ∷ 13 ∷ []) 0 (Err Number)
unfolding says capture_of
two_returns = refl

-- a tab is part of a word, and so is `#` after a moment
tab : says (48 ∷ 9 ∷ codes "00") 0 (Err Number)
unfolding says capture_of
tab = refl

late_comment : says (codes "0 #") 0 (Err BadHex)
unfolding says capture_of hex_on_literals
late_comment = refl

-- the first fault is returned: the count of words, then the number, then its order, then the digits
three_words : says (codes "x 0 0") 0 (Err Words)
unfolding says capture_of
three_words = refl

no_number : says (codes "-1 0") 0 (Err Number)
unfolding says capture_of
no_number = refl

back_in_time : says (codes "4 0") 5 (Err BackInTime)
unfolding says capture_of
back_in_time = refl

odd_digits : says (codes "0 01090") 0 (Err BadHex)
unfolding says capture_of hex_on_literals
odd_digits = refl

-- the range of a moment, and the most digits
latest : says (codes "4000000000000000") 0 (packet 4000000000000000 [])
unfolding says packet capture_of hex_on_literals
latest = refl

too_late : says (codes "4000000000000001") 0 (Err Number)
unfolding says capture_of
too_late = refl

too_many_digits : says (codes "00000000000000000") 0 (Err Number)
unfolding says capture_of
too_many_digits = refl
