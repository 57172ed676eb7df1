-- The names of units: those of a description, and in the same form the others of the standard's list; other numbers
-- have none (DSP0248, "Sensor units" and "Rate units").
use Rattle.std.specs.Prelude.{ℕ, ◌==◌, nat_lt, List, codes, Option, Some, None, if◌then◌else◌}

-- the first units of the list: of heat, electricity, light, force and flow
unfoldable pub electric_unit_name : ℕ → Option (List ℕ)
electric_unit_name unit =
    if unit == 0 then Some (codes "none")
    else if unit == 1 then Some (codes "unspecified")
    else if unit == 2 then Some (codes "degrees_c")
    else if unit == 3 then Some (codes "degrees_f")
    else if unit == 4 then Some (codes "kelvins")
    else if unit == 5 then Some (codes "volts")
    else if unit == 6 then Some (codes "amps")
    else if unit == 7 then Some (codes "watts")
    else if unit == 8 then Some (codes "joules")
    else if unit == 9 then Some (codes "coulombs")
    else if unit == 10 then Some (codes "va")
    else if unit == 11 then Some (codes "nits")
    else if unit == 12 then Some (codes "lumens")
    else if unit == 13 then Some (codes "lux")
    else if unit == 14 then Some (codes "candelas")
    else if unit == 15 then Some (codes "kpa")
    else if unit == 16 then Some (codes "psi")
    else if unit == 17 then Some (codes "newtons")
    else if unit == 18 then Some (codes "cfm")
    else if unit == 19 then Some (codes "rpm")
    else if unit == 20 then Some (codes "hertz")
    else if unit == 21 then Some (codes "seconds")
    else None

-- units of time, space, angle and weight
unfoldable pub space_unit_name : ℕ → Option (List ℕ)
space_unit_name unit =
    if unit == 22 then Some (codes "minutes")
    else if unit == 23 then Some (codes "hours")
    else if unit == 24 then Some (codes "days")
    else if unit == 25 then Some (codes "weeks")
    else if unit == 26 then Some (codes "mils")
    else if unit == 27 then Some (codes "inches")
    else if unit == 28 then Some (codes "feet")
    else if unit == 29 then Some (codes "cubic_inches")
    else if unit == 30 then Some (codes "cubic_feet")
    else if unit == 31 then Some (codes "meters")
    else if unit == 32 then Some (codes "cubic_centimeters")
    else if unit == 33 then Some (codes "cubic_meters")
    else if unit == 34 then Some (codes "liters")
    else if unit == 35 then Some (codes "fluid_ounces")
    else if unit == 36 then Some (codes "radians")
    else if unit == 37 then Some (codes "steradians")
    else if unit == 38 then Some (codes "revolutions")
    else if unit == 39 then Some (codes "cycles")
    else if unit == 40 then Some (codes "gravities")
    else if unit == 41 then Some (codes "ounces")
    else if unit == 42 then Some (codes "pounds")
    else if unit == 43 then Some (codes "foot_pounds")
    else if unit == 44 then Some (codes "ounce_inches")
    else None

-- units of magnetism, matter, loudness, radiation and data
unfoldable pub matter_unit_name : ℕ → Option (List ℕ)
matter_unit_name unit =
    if unit == 45 then Some (codes "gauss")
    else if unit == 46 then Some (codes "gilberts")
    else if unit == 47 then Some (codes "henries")
    else if unit == 48 then Some (codes "farads")
    else if unit == 49 then Some (codes "ohms")
    else if unit == 50 then Some (codes "siemens")
    else if unit == 51 then Some (codes "moles")
    else if unit == 52 then Some (codes "becquerels")
    else if unit == 53 then Some (codes "ppm")
    else if unit == 54 then Some (codes "decibels")
    else if unit == 55 then Some (codes "dba")
    else if unit == 56 then Some (codes "dbc")
    else if unit == 57 then Some (codes "grays")
    else if unit == 58 then Some (codes "sieverts")
    else if unit == 59 then Some (codes "color_temperature_degrees_k")
    else if unit == 60 then Some (codes "bits")
    else if unit == 61 then Some (codes "bytes")
    else if unit == 62 then Some (codes "words")
    else if unit == 63 then Some (codes "double_words")
    else if unit == 64 then Some (codes "quad_words")
    else if unit == 65 then Some (codes "percent")
    else if unit == 66 then Some (codes "pascals")
    else if unit == 67 then Some (codes "counts")
    else None

-- units of counts, and of areas
unfoldable pub counted_unit_name : ℕ → Option (List ℕ)
counted_unit_name unit =
    if unit == 68 then Some (codes "grams")
    else if unit == 69 then Some (codes "newton_meters")
    else if unit == 70 then Some (codes "hits")
    else if unit == 71 then Some (codes "misses")
    else if unit == 72 then Some (codes "retries")
    else if unit == 73 then Some (codes "overruns")
    else if unit == 74 then Some (codes "underruns")
    else if unit == 75 then Some (codes "collisions")
    else if unit == 76 then Some (codes "packets")
    else if unit == 77 then Some (codes "messages")
    else if unit == 78 then Some (codes "characters")
    else if unit == 79 then Some (codes "errors")
    else if unit == 80 then Some (codes "corrected_errors")
    else if unit == 81 then Some (codes "uncorrectable_errors")
    else if unit == 82 then Some (codes "square_mils")
    else if unit == 83 then Some (codes "square_inches")
    else if unit == 84 then Some (codes "square_feet")
    else if unit == 85 then Some (codes "square_centimeters")
    else if unit == 86 then Some (codes "square_meters")
    else if unit == 255 then Some (codes "oem")
    else None

-- the unit of this number
unfoldable pub unit_name : ℕ → Option (List ℕ)
unit_name unit =
    if nat_lt unit 22 then electric_unit_name unit
    else if nat_lt unit 45 then space_unit_name unit
    else if nat_lt unit 68 then matter_unit_name unit
    else counted_unit_name unit

-- the time that a unit is taken per
unfoldable pub rate_name : ℕ → Option (List ℕ)
rate_name rate =
    if rate == 0 then Some (codes "none")
    else if rate == 1 then Some (codes "per_microsecond")
    else if rate == 2 then Some (codes "per_millisecond")
    else if rate == 3 then Some (codes "per_second")
    else if rate == 4 then Some (codes "per_minute")
    else if rate == 5 then Some (codes "per_hour")
    else if rate == 6 then Some (codes "per_day")
    else if rate == 7 then Some (codes "per_week")
    else if rate == 8 then Some (codes "per_month")
    else if rate == 9 then Some (codes "per_year")
    else None
