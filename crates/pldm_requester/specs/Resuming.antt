-- A requester that goes on where another one at its endpoint stopped, in another process say: what it is given, what it
-- holds then, and which moments it may be given.
use Rattle.std.specs.FinMap as map
use Rattle.std.specs.Prelude.{◌≡◌, ℕ, ◌+◌, ◌<◌, ◌≤◌, true, not, length, nat_lt, slice_get, if◌then◌else◌, None, option_map, IfSome}
use Rattle.mctp_packet.specs.Ids.{IsMoment}
use Rattle.pldm_wire.specs.Commands.{kind_of}
use Rattle.pldm_wire.specs.declared.assigned.TheConstants.{INSTANCE_IDS}
use Rattle.pldm_wire.specs.declared.command.Command.TheVariants.{GetTid}
use Rattle.pldm_requester.specs.Numbering.{id_of, packets_of}
use Rattle.pldm_requester.specs.Courses.{begun, given_up}
use Rattle.pldm_requester.specs.Steps.{Memo, RequesterState, is_kept, is_recent, outline_if}
use Rattle.pldm_requester.specs.Slots.{most_opened}
use Rattle.pldm_requester.specs.declared.openings.Openings.{Openings}
use Rattle.pldm_requester.specs.declared.pace.Pace.{Pace}
use Rattle.pldm_requester.specs.declared.timing.Timing.{Timing}

-- the number of the next request: as many were opened before it as there are openings, or more, and it has the next
-- instance ID
abbrev pub count_after : Openings → ℕ
count_after openings =
    if nat_lt (length openings.moments.items) INSTANCE_IDS then length openings.moments.items
    else INSTANCE_IDS + openings.next

-- the number of the last request with an instance ID, below a count of at most twice the instance IDs
abbrev pub last_with : ℕ → ℕ → ℕ
last_with count id = if nat_lt (INSTANCE_IDS + id) count then INSTANCE_IDS + id else id

-- the last request with an instance ID was opened at a moment at which so many can have been opened
abbrev pub IsKnown : Openings → ℕ → Type 0
IsKnown openings id =
    IfSome (slice_get openings.moments.items id)
    (λ moment. IsMoment moment × (last_with (count_after openings) id < most_opened moment))

-- a requester can have left these openings up to a moment
pub record AreKnown (now : ℕ) (openings : Openings) : Type 0 where
  pub used : length openings.moments.items ≤ INSTANCE_IDS
  pub next : openings.next ≡ id_of (count_after openings)
  pub few : count_after openings ≤ most_opened now
  pub each : (id : ℕ) → IsKnown openings id

-- a request of which the opening alone is known stands as one for the terminus ID that was given up
abbrev pub shut_memo : ℕ → ℕ → ℕ → ℕ → Memo
shut_memo own device id moment = record {
  kind = kind_of GetTid;
  packets = packets_of own device id GetTid;
  course = given_up (begun moment);
  is_whole = true;
}

-- what it holds: the last request with each instance ID that was used, all of them given up; of those that are not kept
-- whole the outline
abbrev pub resumed_held : ℕ → ℕ → Timing → Pace → ℕ → Openings → RequesterState
resumed_held own device timing pace now openings = record {
  own = own;
  device = device;
  timing = timing;
  pace = pace;
  count = count_after openings;
  remembered = λ number.
      if is_recent (count_after openings) number
      then outline_if (not (is_kept pace (count_after openings) number))
      (option_map (shut_memo own device (id_of number)) (slice_get openings.moments.items (id_of number)))
      else None;
  open_messages = map.empty;
  last = now;
}

-- these are the openings that a requester leaves: of each instance ID that was used the last one
pub record AreLeft (held : RequesterState) (openings : Openings) : Type 0 where
  pub next : openings.next ≡ id_of held.count
  pub used : length openings.moments.items ≡ (if nat_lt held.count INSTANCE_IDS then held.count else INSTANCE_IDS)
  pub each : (number : ℕ) → is_recent held.count number ≡ true
      → slice_get openings.moments.items (id_of number)
      ≡ option_map (λ memo. memo.course.opening) (held.remembered number)
