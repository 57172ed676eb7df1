-- What a walk holds, and what it asks next.
use Rattle.std.specs.Prelude.{ℕ, Bool, true, false, List, [], length, replicate, slice_get, Option, Some, None, option_map}
use Rattle.pldm_records.specs.Fetches as fetches
use Rattle.pldm_records.specs.Fetches.{Fetching, next_request}
use Rattle.pldm_wire.specs.declared.command.Command.{Command}
use Rattle.pldm_wire.specs.declared.command.Command.TheVariants.{GetTid, GetPldmTypes, GetPldmVersion}
use Rattle.pldm_wire.specs.declared.command.Command.TheVariants.{GetPldmCommands, GetPdrRepositoryInfo}
use Rattle.pldm_wire.specs.declared.limits.TheConstants.{GET_FIRST_PART, TYPES_BYTES}
use Rattle.pldm_discovery.specs.Subjects.{question}
use Rattle.pldm_discovery.specs.declared.limits.TheConstants.{FIRST_RECORD, FIRST_TRANSFER}
use Rattle.pldm_discovery.specs.declared.stage.Stage.{Stage}
use Rattle.pldm_discovery.specs.declared.stage.Stage.TheVariants.{Tid, Types, Versions, Commands}
use Rattle.pldm_discovery.specs.declared.stage.Stage.TheVariants.{Repository, Records, Readings}
use Rattle.pldm_discovery.specs.declared.discovered.Discovered.{Discovered}

-- how far it has come; the terminus ID, the bits of the PLDM types and how many records there are, as answered; the
-- fetch of the next record; the records so far, what they describe, at their end of the asked terminus alone, and of
-- each that was asked for the message that answered
pub record Walking : Type 0 where
  pub stage : Stage
  pub tid : Option ℕ
  pub types : List ℕ
  pub expected : Option ℕ
  pub fetch : Fetching
  pub records : List (List ℕ)
  pub found : List Discovered
  pub readings : List (Option (List ℕ))

-- a new walk
abbrev pub begun : Walking
begun =
    record {
      stage = Tid;
      tid = None;
      types = replicate TYPES_BYTES 0;
      expected = None;
      fetch = fetches.begun FIRST_RECORD;
      records = [];
      found = [];
      readings = [];
    }

-- the first sensor or effecter that was not asked for yet
abbrev pub next_found : Walking → Option Discovered
next_found w = slice_get w.found (length w.readings)

abbrev pub command_at : Stage → Walking → Option Command
command_at Tid w = Some GetTid
command_at Types w = Some GetPldmTypes
command_at (Versions pldm_type) w = Some (GetPldmVersion FIRST_TRANSFER GET_FIRST_PART pldm_type)
command_at (Commands pldm_type version) w = Some (GetPldmCommands pldm_type version)
command_at Repository w = Some GetPdrRepositoryInfo
command_at Records w = next_request w.fetch
command_at Readings w = option_map (λ f. question f.subject) (next_found w)

-- the next command; none at the end
abbrev pub next_command : Walking → Option Command
next_command w = command_at w.stage w

abbrev pub joined : Option (Option (List ℕ)) → Option (List ℕ)
joined None = None
joined (Some message) = message

-- the message that answered for the sensor or effecter at a place, if one was asked for and one did
abbrev pub reading_at : Walking → ℕ → Option (List ℕ)
reading_at w place = joined (slice_get w.readings place)

abbrev pub keeps_at : Stage → Bool
keeps_at Records = true
keeps_at Readings = true
keeps_at _ = false

-- what answers now is kept: that alone wants memory
abbrev pub keeps : Walking → Bool
keeps w = keeps_at w.stage
