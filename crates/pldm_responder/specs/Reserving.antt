-- Room for the answers to a source, before it is used: a row of empty slots, where the source has none yet.
use Rattle.std.specs.FinMap as map
use Rattle.std.specs.Prelude.{◌≡◌, ℕ, ◌<◌, ◌≤◌, Bool, ◌&&◌, not, nat_le, [], Option, Some, None, IsSome}
use Rattle.pldm_responder.specs.Ends.{End, has_row}
use Rattle.pldm_responder.specs.Slots.{Answers, Rows, row_of, source_count}
use Rattle.pldm_responder.specs.declared.arriving.RoomRefusal.{RoomRefusal}
use Rattle.pldm_responder.specs.declared.arriving.RoomRefusal.TheVariants.{Sources, OpenMessages, Memory}

-- the source has a row, or gets this one, for which there is a place
abbrev pub IsRoomFor : Rows → ℕ → Option Answers → Type 0
IsRoomFor rows source None = IsSome (row_of rows source)
IsRoomFor rows source (Some answers) =
    (row_of rows source ≡ None)
    × (answers ≡ record { window = rows.window; kept = [] })
    × (source_count rows < rows.places)

-- a row more is within the bound
abbrev pub IsWithinSources : Rows → ℕ → Option Answers → Type 0
IsWithinSources rows max None = Unit {0}
IsWithinSources rows max (Some row) = source_count rows < max

-- the room that was reserved at an end for the answers to a source
abbrev pub IsRoomAt : End → ℕ → Option Answers → Type 0
IsRoomAt end source reserved =
    IsRoomFor end.rows source reserved × IsWithinSources end.rows end.bounds.sources reserved

-- the source has no row, and as many sources have one as may have
abbrev pub is_past_sources : Rows → ℕ → ℕ → Bool
is_past_sources rows max source = not (has_row rows source) && nat_le max (source_count rows)

-- why there is no room for its answers
abbrev pub IsWhyNoRow : Rows → ℕ → ℕ → RoomRefusal → Type 0
IsWhyNoRow rows max source Sources = (row_of rows source ≡ None) × (max ≤ source_count rows)
IsWhyNoRow rows max source OpenMessages = ⊥
IsWhyNoRow rows max source (Memory memory) = (row_of rows source ≡ None) × (source_count rows < max)

-- why there is no room at an end
abbrev pub IsWhyNoRoom : End → RoomRefusal → Type 0
IsWhyNoRoom end Sources = end.bounds.sources ≤ source_count end.rows
IsWhyNoRoom end OpenMessages = end.bounds.open_messages ≤ map.len end.open_messages
IsWhyNoRoom end (Memory memory) = Unit {0}
