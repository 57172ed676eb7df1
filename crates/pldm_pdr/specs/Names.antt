-- Auxiliary names (DSP0248, "Sensor auxiliary names PDR", "Effecter auxiliary names PDR" and "Entity auxiliary names
-- PDR").
use Rattle.std.specs.Prelude.{ℕ, zero, suc, ◌-◌, ◌/◌, ◌%◌, ◌^◌, ◌<◌, ◌==◌, nat_lt, nat_le, Bool, false, ◌&&◌}
use Rattle.std.specs.Prelude.{List, [], ◌∷◌, ◌++◌, length, take, drop, Result, Ok, Err, if◌then◌else◌}
use Rattle.pldm_pdr.specs.declared.limits.TheConstants.{MAX_NAME_BYTES}
use Rattle.pldm_pdr.specs.declared.fault.RecordFault.{RecordFault}
use Rattle.pldm_pdr.specs.declared.fault.RecordFault.TheVariants.{Short, Tag, Names}
use Rattle.pldm_pdr.specs.Fields.{◌>>=◌, Field, byte, byte_at, refused}

-- a name: its language tag in ASCII, and its text in code units of UTF-16
pub record Name : Type 0 where
  pub tag : List ℕ
  pub units : List ℕ

-- the tag, and a zero byte
abbrev pub tag_bytes : List ℕ → List ℕ
tag_bytes tag = tag ++ 0 ∷ []

-- each code unit, its higher byte first, and a zero unit
abbrev pub text_bytes : List ℕ → List ℕ
text_bytes [] = 0 ∷ 0 ∷ []
text_bytes (unit ∷ units) = unit / 256 ∷ unit % 256 ∷ text_bytes units

abbrev pub name_bytes : Name → List ℕ
name_bytes name = tag_bytes name.tag ++ text_bytes name.units

-- the names of one sensor, effecter or entity: how many there are, and each

abbrev pub each_name_bytes : List Name → List ℕ
each_name_bytes [] = []
each_name_bytes (name ∷ names) = name_bytes name ++ each_name_bytes names

abbrev pub names_bytes : List Name → List ℕ
names_bytes names = byte (length names) ++ each_name_bytes names

-- those of each sensor or effecter of a composite one: how many these are, and the names of each

abbrev pub each_names_bytes : List (List Name) → List ℕ
each_names_bytes [] = []
each_names_bytes (names ∷ sets) = names_bytes names ++ each_names_bytes sets

abbrev pub all_names_bytes : List (List Name) → List ℕ
all_names_bytes sets = byte (length sets) ++ each_names_bytes sets

-- no byte of a tag and no code unit of a text is the zero that ends it; a tag is ASCII

abbrev pub IsTag : List ℕ → Type 0
IsTag [] = Unit {0}
IsTag (b ∷ tag) = (0 < b) × (b < 128) × IsTag tag

abbrev pub IsText : List ℕ → Type 0
IsText [] = Unit {0}
IsText (unit ∷ units) = (0 < unit) × (unit < 2 ^ 16) × IsText units

abbrev pub EachIsName : List Name → Type 0
EachIsName [] = Unit {0}
EachIsName (name ∷ names) = IsTag name.tag × IsText name.units × EachIsName names

abbrev pub AreNames : List Name → Type 0
AreNames names = (length names < 2 ^ 8) × EachIsName names

abbrev pub EachAreNames : List (List Name) → Type 0
EachAreNames [] = Unit {0}
EachAreNames (names ∷ sets) = AreNames names × EachAreNames sets

abbrev pub AreAllNames : List (List Name) → Type 0
AreAllNames sets = (length sets < 2 ^ 8) × EachAreNames sets

-- where they end

unfoldable pub tag_end : List ℕ → Result (List ℕ) RecordFault
tag_end [] = Err Short
tag_end (b ∷ bytes) = if b == 0 then Ok bytes else if nat_lt b 128 then tag_end bytes else Err Tag

unfoldable pub text_end : List ℕ → Result (List ℕ) RecordFault
text_end [] = Err Short
text_end (_ ∷ []) = Err Short
text_end (high ∷ low ∷ bytes) = if (high == 0) && (low == 0) then Ok bytes else text_end bytes

unfoldable pub name_end : List ℕ → Result (List ℕ) RecordFault
name_end bytes = do
  rest ← tag_end bytes
  text_end rest

unfoldable pub each_name_end : ℕ → List ℕ → Result (List ℕ) RecordFault
each_name_end zero bytes = Ok bytes
each_name_end (suc count) bytes = do
  rest ← name_end bytes
  each_name_end count rest

unfoldable pub names_end : List ℕ → Result (List ℕ) RecordFault
names_end bytes = do
  count ← byte_at bytes
  each_name_end count.0 count.1

unfoldable pub each_names_end : ℕ → List ℕ → Result (List ℕ) RecordFault
each_names_end zero bytes = Ok bytes
each_names_end (suc count) bytes = do
  rest ← names_end bytes
  each_names_end count rest

unfoldable pub all_names_end : List ℕ → Result (List ℕ) RecordFault
all_names_end bytes = do
  count ← byte_at bytes
  each_names_end count.0 count.1

-- the bytes up to where something ends, not too many, and those after
unfoldable pub text_to : List ℕ → Result (List ℕ) RecordFault → Field (List ℕ)
text_to bytes end = do
  rest ← end
  let count = length bytes - length rest in
      refused (nat_lt MAX_NAME_BYTES count) Names (Ok (take count bytes, drop count bytes))

-- whether the bytes end there, and are not too many

unfoldable pub is_all : Result (List ℕ) RecordFault → Bool
is_all (Ok rest) = length rest == 0
is_all (Err fault) = false

abbrev pub are_names : List ℕ → Bool
are_names text = is_all (names_end text) && nat_le (length text) MAX_NAME_BYTES

abbrev pub are_all_names : List ℕ → Bool
are_all_names text = is_all (all_names_end text) && nat_le (length text) MAX_NAME_BYTES
