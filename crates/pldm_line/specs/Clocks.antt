-- What a clause reads of a clock: its readings to come, and what the clock of the system said.
use Rattle.std.specs.Prelude.{◌≡◌, ℕ, ◌+◌, ◌-◌, ◌/◌, ◌^◌, map, min, List, [], Option, IfSome, option_map}
use Rattle.std.specs.Time.{instant_nanos}
use Rattle.pldm_line.specs.declared.ticks.SystemTicks.{SystemTicks}

-- no reading is to come, where those to come are known
abbrev pub HasNoMore : Option (List ℕ) → Type 0
HasNoMore to_come = IfSome to_come (λ readings. readings ≡ [])

-- the whole milliseconds from one moment in nanoseconds to another, none where that is before it; at most what 64 bits
-- hold
abbrev pub milliseconds_between : ℕ → ℕ → ℕ
milliseconds_between start now = min ((now - start) / 1_000_000) (2 ^ 64 - 1)

-- the moments at which the clock was started, and read last, in its nanoseconds
abbrev pub start_of : {C : Type 0} → SystemTicks C → ℕ
start_of ticks = instant_nanos ticks.start

abbrev pub latest_of : {C : Type 0} → SystemTicks C → ℕ
latest_of ticks = instant_nanos ticks.latest

-- the readings of a clock, each so much later, and at most what 64 bits hold
abbrev pub later_readings : ℕ → Option (List ℕ) → Option (List ℕ)
later_readings by to_come = option_map (λ readings. map (λ reading. min (reading + by) (2 ^ 64 - 1)) readings) to_come
