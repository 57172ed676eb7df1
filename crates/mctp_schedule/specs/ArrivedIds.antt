-- What is noted of the instance IDs that arrived.
use Rattle.std.specs.Prelude.{ℕ, List, [], Option, Some, None, slice_get}
use Rattle.mctp_schedule.specs.declared.arrivals.Arrivals.{Arrivals}

abbrev pub ids_in : Option (List ℕ) → List ℕ
ids_in None = []
ids_in (Some ids) = ids

-- the instance IDs of a source by their latest first arrival, the newest first
abbrev pub ids_at : Arrivals → ℕ → List ℕ
ids_at arrivals source = ids_in (slice_get arrivals.sources.items source)
