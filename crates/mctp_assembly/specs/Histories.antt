-- What the list of all calls leaves, the newest call first.
use Rattle.std.specs.FinMap as map
use Rattle.std.specs.Prelude.{◌≡◌, ℕ, List, [], ◌∷◌, length, Option, Some, None, option_and_then, if◌then◌else◌}
use Rattle.std.specs.Ordering.{eq_by_cmp}
use Rattle.mctp_packet.specs.Packets.{Packet}
use Rattle.mctp_packet.specs.declared.TheConstants.{MAX_PACKETS}
use Rattle.mctp_assembly.specs.Keys.{key_cmp, key_of}
use Rattle.mctp_assembly.specs.Opened.{Opened}
use Rattle.mctp_assembly.specs.Rows.{unit_of, is_row, newest, joined}
use Rattle.mctp_assembly.specs.Steps.{OpenMessages}
use Rattle.mctp_assembly.specs.declared.key.Key.{Key}

-- a packet that was fed, or a key that was forgotten
pub data Call : Type 0 where
  feed : Packet → Call
  forget : Key → Call

-- the packets of a key since it was last forgotten
abbrev pub since : Key → List Call → List Packet
since key [] = []
since key (feed p ∷ calls) = if eq_by_cmp key_cmp key (key_of p) then p ∷ since key calls else since key calls
since key (forget k ∷ calls) = if eq_by_cmp key_cmp key k then [] else since key calls

-- a row of packets as what is open
abbrev pub opened : List Packet → Option Opened
opened [] = None
opened (p ∷ before) =
    Some (record { unit = unit_of p; last = p.seq; count = length (p ∷ before); bytes = joined (p ∷ before) })

-- what these packets of one key leave open, where a message has at most this many
abbrev pub left_open_within : ℕ → List Packet → Option Opened
left_open_within limit packets = option_and_then opened (newest limit is_row packets)

abbrev pub left_open : List Packet → Option Opened
left_open packets = left_open_within MAX_PACKETS packets

-- what is held is what the calls leave open on each key
abbrev pub IsLeftWithin : ℕ → OpenMessages → List Call → Type 0
IsLeftWithin limit held calls = (key : Key) → map.get held key ≡ left_open_within limit (since key calls)

abbrev pub IsLeftBy : OpenMessages → List Call → Type 0
IsLeftBy held calls = IsLeftWithin MAX_PACKETS held calls
