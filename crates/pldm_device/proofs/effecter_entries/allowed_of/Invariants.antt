-- The lists so far and those of the rest are the lists of all.
use Rattle.std.proofs.Common.{◌≡◌, [], drop}
use Rattle.toml.specs.View.{items_view}
use Rattle.pldm_device.specs.EffecterEntries.{allowed_after}
use Rattle.pldm_device.proofs.effecter_entries.allowed_of.Given as goal

abbrev pub invariant-loop-place : goal.invariant-loop-place
invariant-loop-place l = allowed_after l.allowed.items (items_view (drop l.place l.lists)) ≡ allowed_after [] (items_view l.lists)
