-- What a device of the types 0 and 2 says of itself, as the tables of DSP0240 have it.
use Rattle.std.proofs.Common.{◌≡◌, ℕ, List, [], ◌∷◌, refl}
use Rattle.needleoat_wire_c.specs.BaseAnswers.{first_bytes, has_command, has_type}
use Rattle.needleoat_wire_c.specs.declared.base_answer.TypeCommand.{TypeCommand}
use Rattle.needleoat_wire_c.specs.declared.base_answer.TypeVersion.{TypeVersion}

types : List TypeVersion
types =
    record { pldm_type = 0; version = 0 ∷ 240 ∷ 240 ∷ 241 ∷ [] }
    ∷ record { pldm_type = 2; version = 0 ∷ 242 ∷ 241 ∷ 241 ∷ [] } ∷ []

command : ℕ → ℕ → TypeCommand
command pldm_type number = record { pldm_type = pldm_type; command = number }

commands : List TypeCommand
commands = command 0 1 ∷ command 0 2 ∷ command 2 17 ∷ command 0 3 ∷ command 0 4 ∷ command 2 255 ∷ command 0 5 ∷ []

bits_of_types : first_bytes (has_type types) 8 ≡ 5 ∷ 0 ∷ 0 ∷ 0 ∷ 0 ∷ 0 ∷ 0 ∷ 0 ∷ []
unfolding types
bits_of_types = refl

bits_of_commands : first_bytes (has_command commands 0) 3 ≡ 62 ∷ 0 ∷ 0 ∷ []
unfolding commands command
bits_of_commands = refl

bits_of_other_commands : first_bytes (has_command commands 2) 3 ≡ 0 ∷ 0 ∷ 2 ∷ []
unfolding commands command
bits_of_other_commands = refl
