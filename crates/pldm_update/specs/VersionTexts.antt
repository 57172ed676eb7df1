-- A version string with its type (DSP0267, "String types").
use Rattle.std.specs.Prelude.{ℕ, ◌≤◌, List, length}
use Rattle.pldm_update.specs.declared.limits.TheConstants.{MAX_TEXT_BYTES}

-- the string's type and its bytes
pub record VersionText : Type 0 where
  pub string_type : ℕ
  pub text : List ℕ

abbrev pub version_text : ℕ → List ℕ → VersionText
version_text string_type text = record { string_type = string_type; text = text }

-- one byte states its length
abbrev pub IsVersionText : VersionText → Type 0
IsVersionText version = length version.text ≤ MAX_TEXT_BYTES
