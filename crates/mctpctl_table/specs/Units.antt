-- The unit of a value (DSP0248, "Sensor units", "Rate units" and the fields of the numeric sensor PDR).
use Rattle.std.specs.Prelude.{ℕ, ◌==◌, nat_lt, Bool, ◌&&◌, ◌||◌, List, [], ◌∷◌, ◌++◌, codes, Option, None, Some}
use Rattle.std.specs.Prelude.{is_some, if◌then◌else◌}
use Rattle.mctpctl_decode.specs.UnitNames.{unit_name}
use Rattle.pldm_pdr.specs.declared.units.Units.{Units}

-- the time that a unit is taken per: 0 is none
unfoldable pub rate_name : ℕ → Option (List ℕ)
rate_name rate =
    if rate == 1 then Some (codes "microsecond")
    else if rate == 2 then Some (codes "millisecond")
    else if rate == 3 then Some (codes "second")
    else if rate == 4 then Some (codes "minute")
    else if rate == 5 then Some (codes "hour")
    else if rate == 6 then Some (codes "day")
    else if rate == 7 then Some (codes "week")
    else if rate == 8 then Some (codes "month")
    else if rate == 9 then Some (codes "year")
    else None

-- The sign of a degree, in UTF-8, before what follows it.
abbrev pub degrees : List ℕ → List ℕ
degrees scale = 194 ∷ 176 ∷ scale

-- A base unit by its symbol, where it has a usual one, else by its name.
unfoldable pub base_unit_text : ℕ → Option (List ℕ)
base_unit_text unit =
    if unit == 2 then Some (degrees (codes "C"))
    else if unit == 3 then Some (degrees (codes "F"))
    else if unit == 4 then Some (codes "K")
    else if unit == 5 then Some (codes "V")
    else if unit == 6 then Some (codes "A")
    else if unit == 7 then Some (codes "W")
    else if unit == 8 then Some (codes "J")
    else if unit == 20 then Some (codes "Hz")
    else if unit == 65 then Some (codes "%")
    else unit_name unit

-- A base unit and a rate with names are shown. An auxiliary unit is not, which a value is also divided by or multiplied
-- with.
unfoldable pub is_shown : Units → Bool
is_shown units =
    (units.auxiliary_unit == 0) && is_some (unit_name units.base_unit)
    && ((units.rate_unit == 0) || is_some (rate_name units.rate_unit))

-- a character before a name, where there is one
abbrev pub behind : ℕ → Option (List ℕ) → List ℕ
behind character None = []
behind character (Some name) = character ∷ name

-- a space and the base unit, a slash and its rate; no unit (0) and an unspecified one (1) are not named, but for a rate
unfoldable pub unit_text : Units → List ℕ
unit_text units =
    if (units.rate_unit == 0) && nat_lt units.base_unit 2 then []
    else behind 32 (base_unit_text units.base_unit) ++ behind 47 (rate_name units.rate_unit)
