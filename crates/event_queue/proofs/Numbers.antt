-- Every constant of the source, a second time.
use Rattle.std.proofs.Common.{◌≡◌, ◌+◌, ◌^◌, refl}
use Rattle.event_queue.specs.Queues.{MOST_COUNTED}
use Rattle.event_queue.specs.declared.event.TheConstants.{EVENT_IDS, MAX_EVENT_DATA}

-- 1 to 0xFFFE
event_ids : EVENT_IDS ≡ 65534
event_ids = refl

event_data : MAX_EVENT_DATA ≡ 256
event_data = refl

most_counted : MOST_COUNTED + 1 ≡ 2 ^ 64
most_counted = refl
