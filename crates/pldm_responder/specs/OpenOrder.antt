-- Which open message ends where there is no room for one more: the one that began first.
use Rattle.std.specs.FinMap as map
use Rattle.std.specs.Prelude.{◌≡◌, Bool, true, false, ◌&&◌, ◌||◌, ◌==◌, not, nat_le, List, [], ◌∷◌, ◌++◌, filter, find, Option, Some, None, Result, Ok, Err, if◌then◌else◌}
use Rattle.std.specs.List.{list_any}
use Rattle.std.specs.Ordering.{eq_by_cmp}
use Rattle.mctp_packet.specs.Packets.{Packet}
use Rattle.mctp_packet.specs.declared.reason.Reason.{Reason}
use Rattle.mctp_assembly.specs.Keys.{key_cmp, key_of}
use Rattle.mctp_assembly.specs.Steps as assembly
use Rattle.mctp_assembly.specs.declared.key.Key.{Key}
use Rattle.pldm_responder.specs.Ends.{End}
use Rattle.pldm_responder.specs.ResponderStates.{ResponderState}

-- it begins a message of several packets
abbrev pub begins : Packet → Bool
begins p = p.start && not p.end

-- as many messages are open as may be, and none on this key
abbrev pub is_full_for : End → Key → Bool
is_full_for end key =
    not (map.contains_key end.open_messages key) && nat_le end.bounds.open_messages (map.len end.open_messages)

-- of these keys, the oldest first, the first on which a message is open
abbrev pub first_open : assembly.OpenMessages → List Key → Option Key
first_open open_messages begun = find (λ key. map.contains_key open_messages key) begun

-- the key whose message ends so that one can begin on this one
abbrev pub way_for : End → Key → Option Key
way_for end key =
    if is_full_for end key && end.ends_oldest then first_open end.open_messages end.begun else None

-- a message cannot begin on this key: there is no room, and none ends for it, or none may be open at all
abbrev pub is_shut_out_on : End → Key → Bool
is_shut_out_on end key = is_full_for end key && (not end.ends_oldest || end.bounds.open_messages == 0)

abbrev pub is_shut_out : End → Packet → Bool
is_shut_out end p = begins p && is_shut_out_on end (key_of p)

-- the key whose message ends for this packet
abbrev pub ended_for : End → Packet → Option Key
ended_for end p = if begins p then way_for end (key_of p) else None

-- what is open without the message that ends
abbrev pub without : Option Key → assembly.OpenMessages → assembly.OpenMessages
without None open_messages = open_messages
without (Some key) open_messages = map.remove open_messages key

-- the same is held, but for the message that ends
abbrev pub ended_held : {S : Type 0} → Option Key → ResponderState S → ResponderState S
ended_held ended held = record held { open_messages = without ended held.open_messages }

-- ---- the order
abbrev pub is_apart : Key → Key → Bool
is_apart a b = not (a.source == b.source) || not (a.tag == b.tag)

-- each key on which a message is open is among these
abbrev pub HasAllOpen : assembly.OpenMessages → List Key → Type 0
HasAllOpen open_messages begun =
    (key : Key) → map.contains_key open_messages key ≡ true → list_any (eq_by_cmp key_cmp key) begun ≡ true

-- where the order is kept, it has them all
abbrev pub IsOrdered : Bool → assembly.OpenMessages → List Key → Type 0
IsOrdered ends_oldest open_messages begun = ends_oldest ≡ true → HasAllOpen open_messages begun

-- the keys once a message began on this one: of those before, each that is open still, and this one last
abbrev pub begun_with : assembly.OpenMessages → Key → List Key → List Key
begun_with open_messages key begun =
    filter (λ other. is_apart other key && map.contains_key open_messages other) begun ++ key ∷ []

-- ---- a packet is taken
-- what is open then
abbrev pub open_fed : End → Packet → assembly.OpenMessages
open_fed end p = without (ended_for end p) (assembly.after end.open_messages p)

abbrev pub begun_fed : End → Packet → List Key
begun_fed end p =
    if begins p && end.ends_oldest then begun_with (open_fed end p) (key_of p) end.begun else end.begun

-- ---- the same of a packet that passed, and of one that did not
abbrev pub open_passed : End → Result Packet Reason → assembly.OpenMessages
open_passed end (Ok p) = open_fed end p
open_passed end (Err reason) = end.open_messages

abbrev pub begun_passed : End → Result Packet Reason → List Key
begun_passed end (Ok p) = begun_fed end p
begun_passed end (Err reason) = end.begun

abbrev pub ended_passed : End → Result Packet Reason → Option Key
ended_passed end (Ok p) = ended_for end p
ended_passed end (Err reason) = None

abbrev pub is_shut_out_passed : End → Result Packet Reason → Bool
is_shut_out_passed end (Ok p) = is_shut_out end p
is_shut_out_passed end (Err reason) = false
