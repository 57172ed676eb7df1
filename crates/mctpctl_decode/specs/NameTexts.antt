-- Auxiliary names, read from the text that a record has of them, and their lines (DSP0248, "Sensor auxiliary names
-- PDR", "Effecter auxiliary names PDR" and "Entity auxiliary names PDR").
use Rattle.std.specs.Prelude.{ℕ, zero, suc, ◌+◌, ◌*◌, ◌==◌, nat_le, Bool, ◌&&◌, not, List, [], ◌∷◌, ◌++◌, codes}
use Rattle.std.specs.Prelude.{if◌then◌else◌}
use Rattle.std.specs.Int.{to_be_bytes, w16}
use Rattle.std.specs.List.{flat_map}
use Rattle.hex.specs.Hex.{encode_lower}
use Rattle.mctpctl_decode.specs.FieldTexts.{word}
use Rattle.mctpctl_decode.specs.MeasureTexts.{entity_text}
use Rattle.mctpctl_decode.specs.RecordFields.{number, record_line}
use Rattle.mctpctl_decode.specs.declared.label.Label.TheVariants.{Effecter, Sensor, Terminus}
use Rattle.pldm_pdr.specs.Names.{Name}
use Rattle.pldm_pdr.specs.declared.names.EffecterNames.{EffecterNames}
use Rattle.pldm_pdr.specs.declared.names.EntityNames.{EntityNames}
use Rattle.pldm_pdr.specs.declared.names.SensorNames.{SensorNames}

-- a tag: what is before the first zero byte; and what is after it

abbrev pub tag_of : List ℕ → List ℕ
tag_of [] = []
tag_of (b ∷ bytes) = if b == 0 then [] else b ∷ tag_of bytes

abbrev pub after_tag : List ℕ → List ℕ
after_tag [] = []
after_tag (b ∷ bytes) = if b == 0 then bytes else after_tag bytes

-- a text: the code units before the first zero unit, of each its higher byte first; and what is after it

abbrev pub units_of : List ℕ → List ℕ
units_of [] = []
units_of (_ ∷ []) = []
units_of (high ∷ low ∷ bytes) = if (high == 0) && (low == 0) then [] else (256 * high + low) ∷ units_of bytes

abbrev pub after_units : List ℕ → List ℕ
after_units [] = []
after_units (_ ∷ []) = []
after_units (high ∷ low ∷ bytes) = if (high == 0) && (low == 0) then bytes else after_units bytes

-- a name, and what is after it

abbrev pub name_of : List ℕ → Name
name_of bytes = record { tag = tag_of bytes; units = units_of (after_tag bytes) }

abbrev pub after_name : List ℕ → List ℕ
after_name bytes = after_units (after_tag bytes)

-- so many things, each read where the one before it ends; and what is after them

abbrev pub each_of : {A : Type 0} → (List ℕ → A) → (List ℕ → List ℕ) → ℕ → List ℕ → List A
each_of one after zero bytes = []
each_of one after (suc count) bytes = one bytes ∷ each_of one after count (after bytes)

abbrev pub after_each : (List ℕ → List ℕ) → ℕ → List ℕ → List ℕ
after_each after zero bytes = bytes
after_each after (suc count) bytes = after_each after count (after bytes)

-- the names of one sensor, effecter or entity: how many there are, and each

abbrev pub names_of : List ℕ → List Name
names_of [] = []
names_of (count ∷ bytes) = each_of name_of after_name count bytes

abbrev pub after_names : List ℕ → List ℕ
after_names [] = []
after_names (count ∷ bytes) = after_each after_name count bytes

-- those of each sensor or effecter of a composite one: how many these are, and the names of each
abbrev pub all_names_of : List ℕ → List (List Name)
all_names_of [] = []
all_names_of (count ∷ bytes) = each_of names_of after_names count bytes

-- a printed character of ASCII, neither the quotation mark nor the backslash
abbrev pub is_plain : ℕ → Bool
is_plain unit = nat_le 32 unit && nat_le unit 126 && not (unit == 34) && not (unit == 92)

-- such a code unit as itself, any other one as \u and four hex digits
unfoldable pub unit_text : ℕ → List ℕ
unit_text unit = if is_plain unit then unit ∷ [] else 92 ∷ 117 ∷ encode_lower (to_be_bytes w16 unit)

-- code units between quotation marks
abbrev pub quoted : List ℕ → List ℕ
quoted units = 34 ∷ flat_map unit_text units ++ 34 ∷ []

unfoldable pub name_text : Name → List ℕ
name_text name = 32 ∷ quoted name.tag ++ 32 ∷ quoted name.units

unfoldable pub names_text : List Name → List ℕ
names_text names = word (codes "names") ++ flat_map name_text names

abbrev pub names_line : List Name → List ℕ
names_line names = record_line (names_text names)

abbrev pub sensor_text : SensorNames → List ℕ
sensor_text names = number Terminus names.terminus_handle ++ number Sensor names.sensor_id

unfoldable pub sensor_names_lines : SensorNames → List ℕ
sensor_names_lines names = record_line (sensor_text names) ++ flat_map names_line (all_names_of names.names.items)

abbrev pub effecter_text : EffecterNames → List ℕ
effecter_text names = number Terminus names.terminus_handle ++ number Effecter names.effecter_id

unfoldable pub effecter_names_lines : EffecterNames → List ℕ
effecter_names_lines names = record_line (effecter_text names) ++ flat_map names_line (all_names_of names.names.items)

unfoldable pub entity_names_lines : EntityNames → List ℕ
entity_names_lines names = record_line (entity_text names.entity) ++ names_line (names_of names.names.items)
