-- Which numbers are endpoint IDs, tags, sequence numbers, keeping times and moments.
use Rattle.std.specs.Prelude.{ℕ, ◌≤◌, ◌<◌}
use Rattle.mctp_packet.specs.declared.TheConstants.{MIN_EID, MAX_EID, MAX_MOMENT}
use Rattle.mctp_packet.specs.declared.TheConstants.{MAX_KEEP, SEQUENCE_NUMBERS, TAGS}

-- an endpoint's own ID: neither null (0), reserved (1 to 7) nor broadcast (255)
abbrev pub IsEid : ℕ → Type 0
IsEid n = (MIN_EID ≤ n) × (n ≤ MAX_EID)

-- three bits
abbrev pub IsTag : ℕ → Type 0
IsTag n = n < TAGS

-- two bits
abbrev pub IsSeq : ℕ → Type 0
IsSeq n = n < SEQUENCE_NUMBERS

-- milliseconds, up to a minute
abbrev pub IsKeep : ℕ → Type 0
IsKeep n = (1 ≤ n) × (n ≤ MAX_KEEP)

-- milliseconds
abbrev pub IsMoment : ℕ → Type 0
IsMoment n = n ≤ MAX_MOMENT
