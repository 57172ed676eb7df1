-- Open messages in a list by the numbers of their keys.
use Rattle.std.specs.Prelude.{◌≡◌, ℕ, true, ◌+◌, ◌*◌, ◌/◌, ◌%◌, ◌<◌, ◌≤◌, ◌==◌, List, [], map}
use Rattle.std.specs.List.{All}
use Rattle.std.specs.Coded.{Coded, coded_list, coded×, coded_ℕ}
use Rattle.mctp_packet.specs.Bits.{bit}
use Rattle.mctp_packet.specs.Packets.{Packet}
use Rattle.mctp_packet.specs.declared.TheConstants.{MIN_EID, MAX_EID, MAX_PACKETS, TAGS}
use Rattle.mctp_assembly.specs.Keys.{key_cmp}
use Rattle.mctp_assembly.specs.NumberLists.{Changes, Differ, NumberList, at, map_in}
use Rattle.mctp_assembly.specs.Opened.{Opened, IsOpened, coded_opened}
use Rattle.mctp_assembly.specs.Steps.{OpenMessages, answer_to, left_by}
use Rattle.mctp_assembly.specs.declared.fed.Fed.{Fed}
use Rattle.mctp_assembly.specs.declared.fed.Fed.TheVariants.{Partial}
use Rattle.mctp_assembly.specs.declared.key.Key.{Key}

-- numbers and what is open under them
abbrev pub Numbered : Type 0
Numbered = NumberList Opened

abbrev pub coded_numbered : Coded Numbered
coded_numbered = coded_list (coded× coded_ℕ coded_opened)

-- how many keys a source has: one for each tag and each value of the tag owner bit
abbrev pub KEYS : ℕ
KEYS = 2 * TAGS

-- keys are numbered by source, then by tag, then by the tag owner bit
abbrev pub number_of : Key → ℕ
number_of key = KEYS * key.source + 2 * key.tag + bit key.owner

-- the key of a number
abbrev pub key_at : ℕ → Key
key_at n = record { source = n / KEYS; tag = n % KEYS / 2; owner = n % 2 == 1 }

-- the number of a key of an endpoint
pub record IsNumber (n : ℕ) : Type 0 where
  pub low : KEYS * MIN_EID ≤ n
  pub high : n < KEYS * (MAX_EID + 1)

-- nothing is open: what stands past the end of a list
abbrev pub none_open : Opened
none_open = record { unit = 0; last = 0; count = 0; bytes = [] }

-- a number of a key, and under it a message that has begun and not ended
pub record IsEntry (entry : ℕ × Opened) : Type 0 where
  pub number : IsNumber entry.0
  pub opened : IsOpened entry.1

-- no number comes twice, and each entry is one
pub record AreOpen (list : Numbered) : Type 0 where
  pub differ : Differ none_open list
  pub each : All IsEntry list

-- these are the numbers of the open messages
pub record AreListed (numbers : List ℕ) (list : Numbered) : Type 0 where
  pub messages : AreOpen list
  pub listed : numbers ≡ map (λ entry. entry.0) list

-- what is open on each key
abbrev pub held_in : Numbered → OpenMessages
held_in list = map_in key_cmp key_at list

-- ---- a packet is taken under a number
-- what it gives
abbrev pub answer_at : Numbered → ℕ → Packet → Fed
answer_at list number p = answer_to MAX_PACKETS (at list number) p

-- what it leaves open under the number; under the others the same is open
abbrev pub IsLeftBy : Numbered → Numbered → ℕ → Packet → Type 0
IsLeftBy old new number p = Changes old new number (left_by (answer_at old number p) (at old number) p)

-- memory was refused to it: it is a start packet that gives Partial, and what is open is as before
pub record IsRefusedMemory (old new : Numbered) (number : ℕ) (p : Packet) : Type 0 where
  pub partial : answer_at old number p ≡ Partial
  pub at_start : p.start ≡ true
  pub same : new ≡ old
