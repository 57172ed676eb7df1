-- One call over what is held: what is open on each key, as a finite map.
use Rattle.std.specs.FinMap as map
use Rattle.std.specs.Prelude.{ℕ, ◌+◌, Bool, true, false, not, ◌==◌, nat_lt, ◌++◌, Option, Some, None, if◌then◌else◌}
use Rattle.mctp_packet.specs.Packets.{Packet}
use Rattle.mctp_packet.specs.declared.reason.Reason.TheVariants.{UnexpectedMiddleOrEnd}
use Rattle.mctp_packet.specs.declared.reason.Reason.TheVariants.{OutOfSequence, TooLong, WrongUnit}
use Rattle.mctp_packet.specs.declared.TheConstants.{MAX_PACKETS}
use Rattle.mctp_assembly.specs.Keys.{key_cmp, key_of}
use Rattle.mctp_assembly.specs.Opened.{Opened}
use Rattle.mctp_assembly.specs.Rows.{unit_of, follows}
use Rattle.mctp_assembly.specs.declared.fed.Fed.{Fed}
use Rattle.mctp_assembly.specs.declared.fed.Fed.TheVariants.{Whole, Partial, Dropped}

abbrev pub OpenMessages : Type 0
OpenMessages = map.FinMap key_cmp Opened

-- a packet that has no assembly to go on, or begins a new one
abbrev pub answer_alone : Packet → Fed
answer_alone p =
    if p.start then (if p.end then Whole (record { items = p.payload }) else Partial)
    else Dropped UnexpectedMiddleOrEnd

-- a middle packet has the unit's length, an end packet no more
abbrev pub is_wrong_unit : Opened → Packet → Bool
is_wrong_unit o p = if p.end then nat_lt o.unit (unit_of p) else not (unit_of p == o.unit)

-- what a packet gives, by what is open on its key
abbrev pub answer_to : ℕ → Option Opened → Packet → Fed
answer_to limit None p = answer_alone p
answer_to limit (Some o) p =
    if p.start then answer_alone p
    else (if not (follows p o.last) then Dropped OutOfSequence
    else (if o.count == limit then Dropped TooLong
    else (if is_wrong_unit o p then Dropped WrongUnit
    else (if p.end then Whole (record { items = o.bytes ++ p.payload }) else Partial))))

-- what a start packet opens
abbrev pub begun_by : Packet → Opened
begun_by p = record { unit = unit_of p; last = p.seq; count = 1; bytes = p.payload }

-- what is open after a packet that gave Partial
abbrev pub carried_on : Option Opened → Packet → Opened
carried_on None p = begun_by p
carried_on (Some o) p =
    if p.start then begun_by p
    else record { unit = o.unit; last = p.seq; count = o.count + 1; bytes = o.bytes ++ p.payload }

-- only a packet that gave Partial leaves its key open
abbrev pub stays_open : Fed → Bool
stays_open (Whole body) = false
stays_open Partial = true
stays_open (Dropped reason) = false

-- what is open on a key after a packet, by what it gives; a whole message is left to be ended
abbrev pub left_by : Fed → Option Opened → Packet → Option Opened
left_by (Whole body) o p = o
left_by Partial o p = Some (carried_on o p)
left_by (Dropped reason) o p = None

-- what a packet gives, where a message has at most this many
abbrev pub answer_within : ℕ → OpenMessages → Packet → Fed
answer_within limit held p = answer_to limit (map.get held (key_of p)) p

-- what is held after it
abbrev pub after_within : ℕ → OpenMessages → Packet → OpenMessages
after_within limit held p =
    if stays_open (answer_within limit held p)
    then map.insert held (key_of p) (carried_on (map.get held (key_of p)) p)
    else map.remove held (key_of p)

abbrev pub answer : OpenMessages → Packet → Fed
answer held p = answer_within MAX_PACKETS held p

abbrev pub after : OpenMessages → Packet → OpenMessages
after held p = after_within MAX_PACKETS held p

-- the old, where a message is whole, else the new
abbrev pub unless_whole : Fed → OpenMessages → OpenMessages → OpenMessages
unless_whole (Whole body) old new = old
unless_whole Partial old new = new
unless_whole (Dropped reason) old new = new

-- what is held after a packet, where a whole message is left to be ended
abbrev pub after_without_ending : OpenMessages → Packet → OpenMessages
after_without_ending held p = unless_whole (answer held p) held (after held p)
