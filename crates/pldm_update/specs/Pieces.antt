-- A piece of an image (DSP0267, "RequestFirmwareData command").
use Rattle.std.specs.Prelude.{ℕ, ◌≤◌, List, length}
use Rattle.pldm_update.specs.declared.limits.TheConstants.{MAX_PIECE_BYTES}

-- it fits an answer
abbrev pub IsPiece : List ℕ → Type 0
IsPiece bytes = length bytes ≤ MAX_PIECE_BYTES
