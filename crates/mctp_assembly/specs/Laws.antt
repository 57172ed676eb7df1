-- What is held after any list of calls, read by looking back over it: for every limit of packets, not only ours.
use Rattle.std.specs.FinMap as map
use Rattle.std.specs.Prelude.{◌≡◌, ℕ, ◌+◌, ◌*◌, ◌<◌, ◌≤◌, true, List, [], ◌∷◌, length, take, is_some}
use Rattle.std.specs.List.{AllByRecursion}
use Rattle.mctp_packet.specs.Packets.{Packet}
use Rattle.mctp_packet.specs.Pieces.{piece_count, packet_at}
use Rattle.mctp_packet.specs.declared.packet.Route.{Route}
use Rattle.mctp_packet.specs.declared.TheConstants.{BASELINE_UNIT, SEQUENCE_NUMBERS}
use Rattle.mctp_assembly.specs.Keys.{key_of}
use Rattle.mctp_assembly.specs.Rows.{is_row, newest, next_within}
use Rattle.mctp_assembly.specs.Steps.{OpenMessages, answer_within, after_within}
use Rattle.mctp_assembly.specs.Histories.{Call, feed, forget, since, IsLeftWithin}
use Rattle.mctp_assembly.specs.declared.key.Key.{Key}
use Rattle.mctp_assembly.specs.declared.fed.Fed.TheVariants.{Whole}

-- a packet gives what looking back over the packets of its key says, and leaves what the longer list leaves
abbrev pub FeedLooksBack : Type 0
FeedLooksBack =
    (limit : ℕ) (held : OpenMessages) (calls : List Call) (p : Packet) → 1 ≤ limit → IsLeftWithin limit held calls
    → (answer_within limit held p ≡ next_within limit (since (key_of p) calls) p)
    × IsLeftWithin limit (after_within limit held p) (feed p ∷ calls)

-- a key that is forgotten leaves what the longer list leaves
abbrev pub ForgetLooksBack : Type 0
ForgetLooksBack =
    (limit : ℕ) (held : OpenMessages) (calls : List Call) (key : Key) → IsLeftWithin limit held calls
    → IsLeftWithin limit (map.remove held key) (forget key ∷ calls)

-- a new value holds what the empty list leaves
abbrev pub NewLooksBack : Type 0
NewLooksBack = (limit : ℕ) → IsLeftWithin limit map.empty []

-- the keys held are those whose last packets are a row
abbrev pub HeldWhereBegun : Type 0
HeldWhereBegun =
    (limit : ℕ) (held : OpenMessages) (calls : List Call) (key : Key) → IsLeftWithin limit held calls
    → map.contains_key held key ≡ is_some (newest limit is_row (since key calls))

-- no two counts of last packets are both rows: SOM is on the first packet alone
abbrev pub OneRow : Type 0
OneRow =
    (packets : List Packet) (m n : ℕ) → is_row (take m packets) ≡ true → is_row (take n packets) ≡ true
    → take m packets ≡ take n packets

-- each packet is one of the message's, and any of them may be missing, come again or come in another order
abbrev pub AreCopies : Route → List ℕ → List Packet → Type 0
AreCopies route message packets =
    AllByRecursion (λ p. (i : ℕ) × (i < piece_count message) × (p ≡ packet_at route message i)) packets

-- where only copies of one message's packets came, no other message is given. A limit of one packet more than there are
-- sequence numbers is the highest: two packets with one number are distinguished where one of them is the start packet
abbrev pub CopiesGiveNoOther : Type 0
CopiesGiveNoOther =
    (limit : ℕ) (route : Route) (message : List ℕ) (before : List Packet) (p : Packet) (body : List ℕ)
    → limit ≤ SEQUENCE_NUMBERS + 1 → length message ≤ limit * BASELINE_UNIT → AreCopies route message (p ∷ before)
    → next_within limit before p ≡ Whole (record { items = body }) → body ≡ message
