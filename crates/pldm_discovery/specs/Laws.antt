-- What holds of each walk, whatever messages the device answers with.
use Rattle.std.specs.Prelude.{◌≡◌, ◌≢◌, ℕ, suc, ◌≤◌, false, List, [], ◌∷◌, ◌++◌, length, filter, Option, Some, None}
use Rattle.std.specs.List.{All, AllPairs}
use Rattle.pldm_records.specs.Records.{handle_of}
use Rattle.pldm_records.specs.declared.limits.TheConstants.{MAX_RECORDS, MAX_RECORD_BYTES}
use Rattle.pldm_wire.specs.Commands.{sets}
use Rattle.pldm_wire.specs.declared.command.Command.{Command}
use Rattle.pldm_discovery.specs.Walks.{Walking, begun, next_command}
use Rattle.pldm_discovery.specs.Steps.{after, listed}
use Rattle.pldm_discovery.specs.Subjects.{found_of}
use Rattle.pldm_discovery.specs.Termini.{asked_handle, is_asked}
use Rattle.pldm_discovery.specs.declared.limits.TheConstants.{MAX_COMMANDS}
use Rattle.pldm_discovery.specs.declared.stage.Stage.TheVariants.{Readings}
use Rattle.pldm_discovery.specs.declared.discovered.Discovered.{Discovered}

-- a walk after these messages, the newest first
abbrev pub walked : List (Option (List ℕ)) → Walking
walked [] = begun
walked (message ∷ before) = after (walked before) message

-- it asks for no more than so much
abbrev pub WalksEnd : Type 0
WalksEnd = (messages : List (Option (List ℕ))) → MAX_COMMANDS ≤ length messages → next_command (walked messages) ≡ None

-- no command sets anything
abbrev pub WalksOnlyAsk : Type 0
WalksOnlyAsk = (w : Walking) (command : Command) → next_command w ≡ Some command → sets command ≡ false

-- it holds so many records of so many bytes at most
abbrev pub WalksAreBounded : Type 0
WalksAreBounded =
    (messages : List (Option (List ℕ)))
    → (length (walked messages).records ≤ MAX_RECORDS)
    × All (λ pdr. length pdr ≤ MAX_RECORD_BYTES) (walked messages).records

-- what the records describe, the first of them at a place
abbrev pub described : ℕ → List (List ℕ) → List Discovered
described place [] = []
described place (pdr ∷ records) = listed (found_of place pdr) ++ described (suc place) records

-- what they describe of the asked terminus, where the device answered this terminus ID
abbrev pub asked_of : Option ℕ → List (List ℕ) → List Discovered
asked_of tid records = filter (is_asked (asked_handle tid records)) (described 0 records)

-- once the records were read, what it has found is what they describe of the asked terminus, in their order
abbrev pub WalksFind : Type 0
WalksFind =
    (messages : List (Option (List ℕ)))
    → (walked messages).stage ≡ Readings
    → (walked messages).found ≡ asked_of (walked messages).tid (walked messages).records

-- no two of its records have one handle: none is read twice
abbrev pub WalksReadOnce : Type 0
WalksReadOnce =
    (messages : List (Option (List ℕ)))
    → AllPairs (λ pdr later. handle_of pdr ≢ handle_of later) (walked messages).records
