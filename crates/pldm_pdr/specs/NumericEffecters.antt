-- The numeric effecter record (DSP0248, "Numeric effecter PDR").
use Rattle.std.specs.Prelude.{ℕ, ℤ, Bool, ◌&&◌, IsTrue, List, [], ◌∷◌, ◌++◌, Ok}
use Rattle.byteorder.specs.Endian.{little_bytes}
use Rattle.pldm_wire.specs.Numbers.{IsU8, IsU16, IsU32}
use Rattle.pldm_pdr.specs.declared.effecter_range.EffecterRange.{EffecterRange}
use Rattle.pldm_pdr.specs.declared.numeric_effecter.NumericEffecter.{NumericEffecter}
use Rattle.pldm_pdr.specs.Fields.{◌>>=◌, Field, all_fit, byte, byte_at, flag, flag_at, number_at, sized_bytes, sized_at}
use Rattle.pldm_pdr.specs.Entities.{entity_bytes, IsEntity, entity_at}
use Rattle.pldm_pdr.specs.Measures.{units_bytes, IsUnits, units_at, conversion_bytes, IsConversion, conversion_at}
use Rattle.pldm_pdr.specs.RangeFormats.{bits_size, format_code, format_at}

-- the format, which fields mean something, and the fields in the format
abbrev pub effecter_range_bytes : EffecterRange → List ℕ
effecter_range_bytes range =
    let size = bits_size range.format in
    byte (format_code range.format) ++ byte range.support
    ++ sized_bytes size range.nominal ++ sized_bytes size range.normal_max ++ sized_bytes size range.normal_min
    ++ sized_bytes size range.rated_max ++ sized_bytes size range.rated_min

-- the fields in the format, and whether they fit it

abbrev pub range_fields : EffecterRange → List ℤ
range_fields range =
    range.nominal ∷ range.normal_max ∷ range.normal_min ∷ range.rated_max ∷ range.rated_min ∷ []

abbrev pub range_fits : EffecterRange → Bool
range_fits range = all_fit (bits_size range.format) (range_fields range)

unfoldable pub effecter_range_at : List ℕ → Field EffecterRange
effecter_range_at bytes = do
  format ← format_at bytes
  support ← byte_at format.1
  nominal ← sized_at (bits_size format.0) support.1
  normal_max ← sized_at (bits_size format.0) nominal.1
  normal_min ← sized_at (bits_size format.0) normal_max.1
  rated_max ← sized_at (bits_size format.0) normal_min.1
  rated_min ← sized_at (bits_size format.0) rated_max.1
  Ok (
    record {
      format = format.0;
      support = support.0;
      nominal = nominal.0;
      normal_max = normal_max.0;
      normal_min = normal_min.0;
      rated_max = rated_max.0;
      rated_min = rated_min.0;
    },
    rated_min.1,
  )

abbrev pub numeric_effecter_bytes : NumericEffecter → List ℕ
numeric_effecter_bytes effecter =
    let size = effecter.conversion.size in
    little_bytes 2 effecter.terminus_handle ++ little_bytes 2 effecter.effecter_id ++ entity_bytes effecter.entity
    ++ little_bytes 2 effecter.semantic_id ++ byte effecter.init ++ flag effecter.has_auxiliary_names
    ++ units_bytes effecter.units ++ byte effecter.auxiliary_oem_unit_handle ++ conversion_bytes effecter.conversion
    ++ little_bytes 4 effecter.state_transition_interval ++ little_bytes 4 effecter.transition_interval
    ++ sized_bytes size effecter.max_settable ++ sized_bytes size effecter.min_settable
    ++ effecter_range_bytes effecter.range

-- the numbers in the data size; whether they fit it, and the range fields their format

abbrev pub settings : NumericEffecter → List ℤ
settings effecter = effecter.max_settable ∷ effecter.min_settable ∷ []

abbrev pub numeric_effecter_fits : NumericEffecter → Bool
numeric_effecter_fits effecter = all_fit effecter.conversion.size (settings effecter) && range_fits effecter.range

abbrev pub IsNumericEffecter : NumericEffecter → Type 0
IsNumericEffecter effecter =
    IsU16 effecter.terminus_handle × IsU16 effecter.effecter_id × IsEntity effecter.entity
    × IsU16 effecter.semantic_id × IsU8 effecter.init × IsUnits effecter.units
    × IsU8 effecter.auxiliary_oem_unit_handle × IsConversion effecter.conversion
    × IsU32 effecter.state_transition_interval × IsU32 effecter.transition_interval × IsU8 effecter.range.support
    × IsTrue (numeric_effecter_fits effecter)

unfoldable pub numeric_effecter_at : List ℕ → Field NumericEffecter
numeric_effecter_at bytes = do
  handle ← number_at 2 bytes
  id ← number_at 2 handle.1
  entity ← entity_at id.1
  semantic ← number_at 2 entity.1
  init ← byte_at semantic.1
  names ← flag_at init.1
  units ← units_at names.1
  oem ← byte_at units.1
  conversion ← conversion_at oem.1
  state_transition ← number_at 4 conversion.1
  transition ← number_at 4 state_transition.1
  max_settable ← sized_at conversion.0.size transition.1
  min_settable ← sized_at conversion.0.size max_settable.1
  range ← effecter_range_at min_settable.1
  Ok (
    record {
      terminus_handle = handle.0;
      effecter_id = id.0;
      entity = entity.0;
      semantic_id = semantic.0;
      init = init.0;
      has_auxiliary_names = names.0;
      units = units.0;
      auxiliary_oem_unit_handle = oem.0;
      conversion = conversion.0;
      state_transition_interval = state_transition.0;
      transition_interval = transition.0;
      max_settable = max_settable.0;
      min_settable = min_settable.0;
      range = range.0;
    },
    range.1,
  )
