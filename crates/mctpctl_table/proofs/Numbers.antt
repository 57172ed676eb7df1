-- The constants of the source that definitions take, written a second time.
use Rattle.std.proofs.Common.{◌≡◌, refl}
use Rattle.mctpctl_table.specs.declared.decimal.TheConstants.{MAX_PLACES}
use Rattle.mctpctl_table.specs.declared.record_names.TheConstants.{HEADER_VERSION, SENSOR_NAMES, EFFECTER_NAMES}
use Rattle.mctpctl_table.specs.declared.record_names.TheConstants.{NAMES_PLACE}

most_places : MAX_PLACES ≡ 10
most_places = refl

header_version : HEADER_VERSION ≡ 1
header_version = refl

sensor_names : SENSOR_NAMES ≡ 6
sensor_names = refl

effecter_names : EFFECTER_NAMES ≡ 13
effecter_names = refl

names_place : NAMES_PLACE ≡ 14
names_place = refl
