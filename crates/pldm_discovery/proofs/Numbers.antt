-- Every constant of the source, written a second time.
use Rattle.std.proofs.Common.{◌≡◌, refl}
use Rattle.pldm_discovery.specs.declared.limits.TheConstants.{MAX_TYPES, MAX_COMMANDS, FIRST_TRANSFER, NO_REARM}
use Rattle.pldm_discovery.specs.declared.limits.TheConstants.{FIRST_RECORD, NO_RECORD}

most_types : MAX_TYPES ≡ 64
most_types = refl

most_commands : MAX_COMMANDS ≡ 65547131
most_commands = refl

first_transfer : FIRST_TRANSFER ≡ 0
first_transfer = refl

no_rearm : NO_REARM ≡ 0
no_rearm = refl

first_record : FIRST_RECORD ≡ 0
first_record = refl

no_record : NO_RECORD ≡ 0
no_record = refl
