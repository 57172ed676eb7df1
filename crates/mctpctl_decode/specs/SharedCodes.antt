-- The names of the completion codes that PLDM and MCTP control messages share, as DSP0240 and DSP0236 spell them.
use Rattle.std.specs.Prelude.{ℕ, ◌==◌, List, codes, Option, Some, None, if◌then◌else◌}

abbrev pub shared_code_name : ℕ → Option (List ℕ)
shared_code_name code =
    if code == 0 then Some (codes "SUCCESS")
    else if code == 1 then Some (codes "ERROR")
    else if code == 2 then Some (codes "ERROR_INVALID_DATA")
    else if code == 3 then Some (codes "ERROR_INVALID_LENGTH")
    else if code == 4 then Some (codes "ERROR_NOT_READY")
    else None
