-- Where the answer to a request is to be kept: its source has a row of slots, or has none yet, and gets one with its
-- first fresh request.
use Rattle.std.specs.Prelude.{◌≡◌, ℕ, Bool, ◌&&◌, ◌||◌, ◌==◌, None, if◌then◌else◌}
use Rattle.pldm_responder.specs.Arrivals.{Arrival, Drop, Part, Whole}
use Rattle.pldm_responder.specs.Ends.{count_with, has_row}
use Rattle.pldm_responder.specs.ResponderStates.{ResponderState}
use Rattle.pldm_responder.specs.Slots.{Rows, row_of, source_count}
use Rattle.pldm_responder.specs.Steps.{performs}

-- where a request arrives, its source has none
abbrev pub ArrivalLacksRow : Rows → Arrival → Type 0
ArrivalLacksRow rows (Drop reason) = Unit {0}
ArrivalLacksRow rows Part = Unit {0}
ArrivalLacksRow rows (Whole m) = row_of rows m.source ≡ None

module _ {S : Type 0} (held : ResponderState S) (rows : Rows) where
  -- whether a source has one after an arrival
  abbrev pub has_row_after : Arrival → ℕ → Bool
  has_row_after (Drop reason) source = has_row rows source
  has_row_after Part source = has_row rows source
  has_row_after (Whole m) source = has_row rows source || performs held m && m.source == source

  -- how many sources have one then
  abbrev pub source_count_after : Arrival → ℕ
  source_count_after (Drop reason) = source_count rows
  source_count_after Part = source_count rows
  source_count_after (Whole m) = if performs held m then count_with rows m.source else source_count rows

  -- these are the rows after an arrival: only a fresh request brings one more
  pub record AreRowsAfter (arrival : Arrival) (new : Rows) : Type 0 where
    pub each : (source : ℕ) → has_row new source ≡ has_row_after arrival source
    pub sources : source_count new ≡ source_count_after arrival
