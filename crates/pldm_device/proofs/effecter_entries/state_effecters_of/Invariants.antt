-- The effecters so far and those of the rest are the effecters of all.
use Rattle.std.proofs.Common.{◌≡◌, [], drop}
use Rattle.toml.specs.View.{items_view}
use Rattle.pldm_device.specs.EffecterEntries.{state_effecters_after}
use Rattle.pldm_device.proofs.effecter_entries.state_effecters_of.Given as goal

abbrev pub invariant-loop-place : goal.invariant-loop-place
invariant-loop-place l =
    state_effecters_after l.numeric.entries l.effecters.entries (items_view (drop l.place l.entries)) ≡ state_effecters_after l.numeric.entries [] (items_view l.entries)
