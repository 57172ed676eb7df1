-- The first auxiliary name of a sensor or an effecter, as text (DSP0248, "Sensor auxiliary names PDR" and "Effecter
-- auxiliary names PDR").
use Rattle.std.specs.Prelude.{ℕ, ◌==◌, nat_le, nat_lt, ◌&&◌, ◌||◌, List, [], ◌∷◌, length, map, slice_get, Option}
use Rattle.std.specs.Prelude.{None, Some, if◌then◌else◌}
use Rattle.std.specs.Char.Utf16.{utf16_lossy_chars}
use Rattle.std.specs.Str.{encode_utf8_all}
use Rattle.mctpctl_decode.specs.NameTexts.{all_names_of}
use Rattle.pldm_pdr.specs.Names.{Name}

-- a control character becomes U+FFFD, as a surrogate without its other half does
abbrev pub printed : ℕ → ℕ
printed unit = if nat_lt unit 32 || (nat_le 127 unit && nat_lt unit 160) then 65533 else unit

-- code units of UTF-16 in UTF-8; none are a dash
unfoldable pub units_text : List ℕ → List ℕ
units_text units = if length units == 0 then 45 ∷ [] else encode_utf8_all (utf16_lossy_chars units)

abbrev pub first_units : Option (List Name) → List ℕ
first_units None = []
first_units (Some []) = []
first_units (Some (name ∷ names)) = name.units

-- the first name of the sensor or effecter at a place of a composite one, in the bytes of a record's names
unfoldable pub name_text : ℕ → List ℕ → List ℕ
name_text place names = units_text (map printed (first_units (slice_get (all_names_of names) place)))
