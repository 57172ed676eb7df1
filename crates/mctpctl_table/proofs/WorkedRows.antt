-- Worked rows: cells of the board of examples/board.toml, and a resolution, an offset and a modifier.
use Rattle.std.proofs.Common.{◌≡◌, ℕ, ℤ, pos, negsuc, ◌++◌, true, codes, None, Some, refl}
use Rattle.std.specs.Fmt.{digits}
use Rattle.pldm_pdr.specs.declared.conversion.Conversion.{Conversion}
use Rattle.pldm_pdr.specs.declared.units.Units.{Units}
use Rattle.pldm_wire.specs.declared.size.Size.TheVariants.{Sint16}
use Rattle.mctpctl_table.specs.Decimals.{decimal_of, decimal_text, size_text}
use Rattle.mctpctl_table.specs.Real32s.{real32_decimal, shortest}
use Rattle.mctpctl_table.specs.Units.{base_unit_text, degrees, is_shown, rate_name, unit_text}
use Rattle.mctpctl_table.specs.Values.{value_of, value_text}
use Rattle.mctpctl_decode.specs.UnitNames.{electric_unit_name, matter_unit_name, unit_name}

-- 1.0, 0.1, -10.0, and infinity

one : real32_decimal 0x3f80_0000 ≡ Some (decimal_of (pos 1) 0)
unfolding real32_decimal shortest
one = refl

tenth : real32_decimal 0x3dcc_cccd ≡ Some (decimal_of (pos 1) 1)
unfolding real32_decimal shortest
tenth = refl

minus_ten : real32_decimal 0xc120_0000 ≡ Some (decimal_of (negsuc 9) 0)
unfolding real32_decimal shortest
minus_ten = refl

infinity : real32_decimal 0x7f80_0000 ≡ None
unfolding real32_decimal shortest
infinity = refl

millivolts : decimal_text (pos 12040) (negsuc 2) ≡ codes "12.040"
unfolding size_text digits
millivolts = refl

small : decimal_text (negsuc 4) (negsuc 2) ≡ codes "-0.005"
unfolding size_text digits
small = refl

-- numbers of this resolution and offset

conversion : ℕ → ℕ → Conversion
conversion resolution offset = record {
  is_linear = true;
  size = Sint16;
  resolution = resolution;
  offset = offset;
  accuracy = 0;
  plus_tolerance = 0;
  minus_tolerance = 0;
}

-- in this unit, times a power of ten

units : ℕ → ℤ → Units
units unit modifier = record {
  base_unit = unit;
  unit_modifier = modifier;
  rate_unit = 0;
  base_oem_unit_handle = 0;
  auxiliary_unit = 0;
  auxiliary_unit_modifier = pos 0;
  auxiliary_rate_unit = 0;
}

fan : value_text (conversion 0x3f80_0000 0) (units 19 (pos 0)) (pos 4200) ≡ codes "4200 rpm"
unfolding conversion units value_text value_of is_shown rate_name base_unit_text unit_text unit_name electric_unit_name real32_decimal shortest size_text digits
fan = refl

inlet : value_text (conversion 0x3f80_0000 0) (units 2 (negsuc 0)) (pos 415) ≡ codes "41.5 " ++ degrees (codes "C")
unfolding conversion units value_text value_of is_shown rate_name base_unit_text unit_text unit_name electric_unit_name real32_decimal shortest size_text digits
inlet = refl

speed : value_text (conversion 0x3f80_0000 0) (units 65 (pos 0)) (pos 40) ≡ codes "40 %"
unfolding conversion units value_text value_of is_shown rate_name base_unit_text unit_text unit_name matter_unit_name real32_decimal shortest size_text digits
speed = refl

-- 40 times 0.1, less 10, times 10
changed : value_text (conversion 0x3dcc_cccd 0xc120_0000) (units 2 (pos 1)) (pos 40) ≡ codes "-60 " ++ degrees (codes "C")
unfolding conversion units value_text value_of is_shown rate_name base_unit_text unit_text unit_name electric_unit_name real32_decimal shortest size_text digits
changed = refl

-- a resolution that is no number
raw : value_text (conversion 0x7fc0_0000 0) (units 2 (pos 1)) (negsuc 39) ≡ codes "-40 raw"
unfolding conversion units value_text value_of is_shown rate_name base_unit_text unit_text unit_name electric_unit_name real32_decimal shortest size_text digits
raw = refl
