-- Laws over the definitions.
use Rattle.std.specs.Io.KnownBytes.{Appends}
use Rattle.std.specs.List.{FoldsTo, flat_map}
use Rattle.std.specs.Prelude.{◌≡◌, ℕ, false, List, Option}
use Rattle.pldm_line.specs.Events.{Seen}
use Rattle.pldm_line.specs.Logs.{AddsEvent, capture_contents, capture_failed, capture_text, drop_text}
use Rattle.pldm_line.specs.Logs.{drops_contents, drops_failed}
use Rattle.pldm_line.specs.declared.log.Log.{Log}

-- a log that saw events, one after the other, has the texts of them all, while it has not failed
abbrev pub LogsHaveAll : {N T : Type 0} → (N → Option (List ℕ)) → (T → Option (List ℕ)) → Type 0
LogsHaveAll {N} {T} drops captured =
    (old new : Log N T) (events : List Seen) → FoldsTo (AddsEvent drops captured) old events new
    → (drops_failed new ≡ false
    → Appends (drops_contents drops old) (drops_contents drops new) (flat_map drop_text events))
    × (capture_failed new ≡ false
    → Appends (capture_contents captured old) (capture_contents captured new) (flat_map capture_text events))
