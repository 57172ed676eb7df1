-- The effecters so far and those of the rest are the effecters of all.
use Rattle.std.proofs.Common.{◌≡◌, [], drop}
use Rattle.toml.specs.View.{items_view}
use Rattle.pldm_device.specs.EffecterEntries.{numeric_effecters_after}
use Rattle.pldm_device.proofs.effecter_entries.numeric_effecters_of.Given as goal

abbrev pub invariant-loop-place : goal.invariant-loop-place
invariant-loop-place l =
    numeric_effecters_after l.effecters.entries (items_view (drop l.place l.entries)) ≡ numeric_effecters_after [] (items_view l.entries)
