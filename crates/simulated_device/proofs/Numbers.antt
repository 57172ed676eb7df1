-- Every constant of the source, written a second time.
use Rattle.std.proofs.Common.{◌≡◌, refl}
use Rattle.simulated_device.specs.declared.limits.TheConstants.{SENSOR_ENABLED, NO_EVENTS, EFFECTER_ENABLED}
use Rattle.simulated_device.specs.declared.limits.TheConstants.{REQUEST_SET, UNASSIGNED_TID, RESERVED_TID}

sensor_enabled : SENSOR_ENABLED ≡ 0
sensor_enabled = refl

no_events : NO_EVENTS ≡ 0
no_events = refl

effecter_enabled : EFFECTER_ENABLED ≡ 1
effecter_enabled = refl

request_set : REQUEST_SET ≡ 1
request_set = refl

unassigned_tid : UNASSIGNED_TID ≡ 0
unassigned_tid = refl

reserved_tid : RESERVED_TID ≡ 255
reserved_tid = refl
