-- A few frames and what a reader makes of them, computed from the definitions.
use Rattle.std.proofs.Common.{◌≡◌, ℕ, List, [], ◌∷◌, ◌++◌, refl, take, drop}
use Rattle.mctp_serial.specs.CheckSequences.{bit_further, bits_further, byte_further, check_sequence}
use Rattle.mctp_serial.specs.Frames.{frame}
use Rattle.mctp_serial.specs.Readings.{idle, packet_of, events_in}
use Rattle.mctp_serial.specs.declared.fault.SerialFault.TheVariants.{WrongRevision, Empty, TooLong, CutShort, BadEscape, WrongCheck, NoEnd}
use Rattle.mctp_serial.specs.declared.reader.FrameEvent.TheVariants.{Dropped}

abbrev a_packet : List ℕ
a_packet = 0x01 ∷ 0x09 ∷ 0x08 ∷ 0xC8 ∷ 0x01 ∷ 0x80 ∷ 0x00 ∷ 0x02 ∷ []

abbrev its_frame : List ℕ
its_frame = 0x7E ∷ 0x01 ∷ 0x08 ∷ 0x01 ∷ 0x09 ∷ 0x08 ∷ 0xC8 ∷ 0x01 ∷ 0x80 ∷ 0x00 ∷ 0x02 ∷ 0x0C ∷ 0xA6 ∷ 0x7E ∷ []

a_known_sequence : check_sequence a_packet ≡ 0x0CA6
unfolding byte_further bits_further bit_further
a_known_sequence = refl

a_frame : frame a_packet ≡ its_frame
unfolding byte_further bits_further bit_further
a_frame = refl

read_back : events_in idle its_frame ≡ packet_of a_packet ∷ []
unfolding byte_further bits_further bit_further
read_back = refl

-- the count of two is that of the packet, not of the bytes that are sent
escapes : take 7 (frame (0x7E ∷ 0x7D ∷ [])) ≡ 0x7E ∷ 0x01 ∷ 0x02 ∷ 0x7D ∷ 0x5E ∷ 0x7D ∷ 0x5D ∷ []
escapes = refl

noise_before_a_frame : events_in idle (0x55 ∷ 0x01 ∷ its_frame) ≡ packet_of a_packet ∷ []
unfolding byte_further bits_further bit_further
noise_before_a_frame = refl

a_flag_between_two : events_in idle (its_frame ++ drop 1 its_frame) ≡ packet_of a_packet ∷ packet_of a_packet ∷ []
unfolding byte_further bits_further bit_further
a_flag_between_two = refl

another_revision : events_in idle (0x7E ∷ 0x02 ∷ 0x08 ∷ []) ≡ Dropped WrongRevision ∷ []
another_revision = refl

no_bytes : events_in idle (0x7E ∷ 0x01 ∷ 0x00 ∷ []) ≡ Dropped Empty ∷ []
no_bytes = refl

too_many_bytes : events_in idle (0x7E ∷ 0x01 ∷ 0x45 ∷ []) ≡ Dropped TooLong ∷ []
too_many_bytes = refl

a_flag_for_the_count : events_in idle (0x7E ∷ 0x01 ∷ its_frame) ≡ Dropped TooLong ∷ packet_of a_packet ∷ []
unfolding byte_further bits_further bit_further
a_flag_for_the_count = refl

cut_short : events_in idle (take 9 its_frame ++ its_frame) ≡ Dropped CutShort ∷ packet_of a_packet ∷ []
unfolding byte_further bits_further bit_further
cut_short = refl

a_bad_escape : events_in idle (0x7E ∷ 0x01 ∷ 0x02 ∷ 0x7D ∷ 0x5F ∷ []) ≡ Dropped BadEscape ∷ []
a_bad_escape = refl

a_wrong_sequence : events_in idle (take 12 its_frame ++ 0xA7 ∷ 0x7E ∷ its_frame) ≡ Dropped WrongCheck ∷ packet_of a_packet ∷ []
unfolding byte_further bits_further bit_further
a_wrong_sequence = refl

no_flag_at_the_end : events_in idle (take 13 its_frame ++ 0x00 ∷ []) ≡ Dropped NoEnd ∷ []
no_flag_at_the_end = refl
