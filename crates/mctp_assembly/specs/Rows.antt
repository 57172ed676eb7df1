-- What a packet gives after the packets of its key that came before it, by looking back over them (DSP0236, "Message
-- assembly" and "Terminating message assembly/dropped packets"). Lists of packets have the newest first.
use Rattle.std.specs.Prelude.{ℕ, ◌+◌, ◌%◌, Bool, false, ◌&&◌, not, ◌==◌, nat_le, List, [], ◌∷◌}
use Rattle.std.specs.Prelude.{◌++◌, length, map, take, find, Option, Some, None, if◌then◌else◌}
use Rattle.std.specs.List.{range_with_len}
use Rattle.mctp_packet.specs.Packets.{Packet}
use Rattle.mctp_packet.specs.declared.reason.Reason.TheVariants.{UnexpectedMiddleOrEnd}
use Rattle.mctp_packet.specs.declared.reason.Reason.TheVariants.{OutOfSequence, TooLong, WrongUnit}
use Rattle.mctp_packet.specs.declared.TheConstants.{MAX_PACKETS, SEQUENCE_NUMBERS}
use Rattle.mctp_assembly.specs.declared.fed.Fed.{Fed}
use Rattle.mctp_assembly.specs.declared.fed.Fed.TheVariants.{Whole, Partial, Dropped}

abbrev pub unit_of : Packet → ℕ
unit_of p = length p.payload

-- p has the sequence number after this one
abbrev pub follows : Packet → ℕ → Bool
follows p last = p.seq == (last + 1) % SEQUENCE_NUMBERS

-- p is a middle packet after q: neither SOM nor EOM, the next number, the same length
abbrev pub is_middle : Packet → Packet → Bool
is_middle p q = not p.start && not p.end && follows p q.seq && unit_of p == unit_of q

-- p is the end packet after q: EOM alone, the next number, no longer
abbrev pub is_end : Packet → Packet → Bool
is_end p q = not p.start && p.end && follows p q.seq && nat_le (unit_of p) (unit_of q)

-- these packets begin a message and do not end it
abbrev pub is_row : List Packet → Bool
is_row [] = false
is_row (p ∷ []) = p.start && not p.end
is_row (p ∷ q ∷ before) = is_middle p q && is_row (q ∷ before)

-- these packets are a message, from its start to its end
abbrev pub is_message : List Packet → Bool
is_message [] = false
is_message (p ∷ []) = p.start && p.end
is_message (p ∷ q ∷ before) = is_end p q && is_row (q ∷ before)

-- the last n packets that pass, for the least such n from 1 to a limit
abbrev pub newest : ℕ → (List Packet → Bool) → List Packet → Option (List Packet)
newest limit test packets = find test (map (λ n. take n packets) (range_with_len 1 limit))

-- their payloads, joined in the order in which they came
abbrev pub joined : List Packet → List ℕ
joined [] = []
joined (p ∷ before) = joined before ++ p.payload

-- why p is dropped, after this row of packets that it does not go on
abbrev pub dropped_after : ℕ → Option (List Packet) → Packet → Fed
dropped_after limit None p = Dropped UnexpectedMiddleOrEnd
dropped_after limit (Some []) p = Dropped UnexpectedMiddleOrEnd
dropped_after limit (Some (q ∷ before)) p =
    if not (follows p q.seq) then Dropped OutOfSequence
    else (if length (q ∷ before) == limit then Dropped TooLong else Dropped WrongUnit)

-- what p gives, by the message that it ends, else by the row that it leaves, else by the row before it
abbrev pub given : ℕ → Option (List Packet) → Option (List Packet) → Option (List Packet) → Packet → Fed
given limit (Some message) row before p = Whole (record { items = joined message })
given limit None (Some row) before p = Partial
given limit None None before p = dropped_after limit before p

-- what p gives after these packets, where a message has at most this many
abbrev pub next_within : ℕ → List Packet → Packet → Fed
next_within limit before p =
    given limit (newest limit is_message (p ∷ before)) (newest limit is_row (p ∷ before)) (newest limit is_row before) p

abbrev pub next : List Packet → Packet → Fed
next before p = next_within MAX_PACKETS before p
