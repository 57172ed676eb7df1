-- The definitions, computed on captured packets of one key: source 8, tag 0, TO 1.
use Rattle.std.proofs.Common.{◌≡◌, ℕ, List, [], ◌∷◌, refl}
use Rattle.mctp_packet.specs.Packets.{Packet}
use Rattle.mctp_packet.specs.Reading.{packet_of}
use Rattle.mctp_packet.specs.declared.reason.Reason.TheVariants.{UnexpectedMiddleOrEnd, OutOfSequence, TooLong, WrongUnit}
use Rattle.mctp_assembly.specs.Keys.{key_of}
use Rattle.mctp_assembly.specs.Rows.{next}
use Rattle.mctp_assembly.specs.Histories.{Call, feed, forget, since}
use Rattle.mctp_assembly.specs.declared.fed.Fed.{Fed}
use Rattle.mctp_assembly.specs.declared.fed.Fed.TheVariants.{Whole, Partial, Dropped}

-- the packet with these flags and this payload
abbrev captured : ℕ → List ℕ → Packet
captured flags payload = packet_of (1 ∷ 9 ∷ 8 ∷ flags ∷ payload)

abbrev whole : List ℕ → Fed
whole bytes = Whole (record { items = bytes })

-- what a packet gives after these calls, the newest first
abbrev gives : List Call → Packet → Fed
gives calls p = next (since (key_of p) calls) p

-- a start packet begins anew
abbrev begun : Packet
begun = captured 0x88 (1 ∷ 0x80 ∷ [])

abbrev begun_again : Packet
begun_again = captured 0x88 (1 ∷ 0x82 ∷ [])

first_begun : gives [] begun ≡ Partial
first_begun = refl

second_begun : gives (feed begun ∷ []) begun_again ≡ Partial
second_begun = refl

second_ended : gives (feed begun_again ∷ feed begun ∷ []) (captured 0x58 (0 ∷ 2 ∷ [])) ≡ whole (1 ∷ 0x82 ∷ 0 ∷ 2 ∷ [])
second_ended = refl

-- a lost packet ends the assembly
abbrev late_end : Packet
late_end = captured 0x68 (5 ∷ [])

abbrev middle : Packet
middle = captured 0x18 (0 ∷ 1 ∷ [])

out_of_sequence : gives (feed begun ∷ []) late_end ≡ Dropped OutOfSequence
out_of_sequence = refl

middle_too_late : gives (feed late_end ∷ feed begun ∷ []) middle ≡ Dropped UnexpectedMiddleOrEnd
middle_too_late = refl

end_too_late : gives (feed middle ∷ feed late_end ∷ feed begun ∷ []) late_end ≡ Dropped UnexpectedMiddleOrEnd
end_too_late = refl

-- three packets in order are a message
middle_taken : gives (feed begun ∷ []) middle ≡ Partial
middle_taken = refl

three_joined : gives (feed middle ∷ feed begun ∷ []) late_end ≡ whole (1 ∷ 0x80 ∷ 0 ∷ 1 ∷ 5 ∷ [])
three_joined = refl

-- a middle packet of another length
short_middle : gives (feed begun ∷ []) (captured 0x18 (0 ∷ [])) ≡ Dropped WrongUnit
short_middle = refl

-- as many packets as a message may have, and one more
abbrev four : List Call
four = feed (captured 0x38 (1 ∷ [])) ∷ feed (captured 0x28 (0 ∷ [])) ∷ feed (captured 0x18 (0x80 ∷ [])) ∷ feed (captured 0x88 (1 ∷ [])) ∷ []

fourth_taken : gives (feed (captured 0x28 (0 ∷ [])) ∷ feed (captured 0x18 (0x80 ∷ [])) ∷ feed (captured 0x88 (1 ∷ [])) ∷ []) (captured 0x38 (1 ∷ [])) ≡ Partial
fourth_taken = refl

-- the fifth packet has the number of the first, and is distinguished from it by SOM
fifth_joined : gives four (captured 0x48 (5 ∷ [])) ≡ whole (1 ∷ 0x80 ∷ 0 ∷ 1 ∷ 5 ∷ [])
fifth_joined = refl

fifth_taken : gives four (captured 0x08 (0 ∷ [])) ≡ Partial
fifth_taken = refl

number_without_start : gives [] (captured 0x08 (0 ∷ [])) ≡ Dropped UnexpectedMiddleOrEnd
number_without_start = refl

sixth_dropped : gives (feed (captured 0x08 (0 ∷ [])) ∷ four) (captured 0x58 (5 ∷ [])) ≡ Dropped TooLong
sixth_dropped = refl

-- a key that was forgotten has nothing to go on
forgotten : gives (forget (key_of begun) ∷ feed begun ∷ []) (captured 0x58 (0 ∷ 2 ∷ [])) ≡ Dropped UnexpectedMiddleOrEnd
forgotten = refl

-- a packet of another tag, or with TO 0, is of another key
other_tag : gives (feed begun ∷ []) (captured 0x59 (0 ∷ 2 ∷ [])) ≡ Dropped UnexpectedMiddleOrEnd
other_tag = refl

not_owner : gives (feed begun ∷ []) (captured 0x50 (0 ∷ 2 ∷ [])) ≡ Dropped UnexpectedMiddleOrEnd
not_owner = refl
