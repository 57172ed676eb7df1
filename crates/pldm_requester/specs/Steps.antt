-- One call of a requester over what it holds.
use Rattle.std.specs.FinMap as map
use Rattle.std.specs.Prelude.{◌≡◌, ℕ, ◌+◌, ◌-◌, ◌%◌, Bool, true, false, ◌&&◌, ◌||◌, not, ◌==◌, nat_lt, nat_le, List, [], filter, Option, Some, None, is_some, option_map, Result, Ok, Err, if◌then◌else◌}
use Rattle.std.specs.List.{range_with_len}
use Rattle.mctp_packet.specs.Packets.{Packet}
use Rattle.mctp_packet.specs.Passing.{passing}
use Rattle.mctp_packet.specs.declared.reason.Reason.{Reason}
use Rattle.mctp_packet.specs.declared.TheConstants.{TAGS}
use Rattle.mctp_assembly.specs.Steps as assembly
use Rattle.pldm_wire.specs.Kinds.{TypeAndCommand}
use Rattle.pldm_wire.specs.Responses.{Response}
use Rattle.pldm_wire.specs.declared.assigned.TheConstants.{INSTANCE_IDS}
use Rattle.pldm_wire.specs.declared.command.Command.{Command}
use Rattle.pldm_requester.specs.Asks.{Ask, ask_of}
use Rattle.pldm_requester.specs.Numbering.{tag_of, packets_with}
use Rattle.pldm_requester.specs.Courses.{Course, no_course, is_open, begun, is_given_up, is_sent_again, ticked, answered, without_answer}
use Rattle.pldm_requester.specs.Pacing.{at_default, newest, is_too_soon, kept, stride, is_crowded}
use Rattle.pldm_requester.specs.Arrivals.{Arrival, Drop, Part, Answer, got_of, is_response_to, passed_arrival}
use Rattle.pldm_requester.specs.Calls.{answer_key, is_from_device, open_answer}
use Rattle.pldm_requester.specs.declared.results.Got.{Got}
use Rattle.pldm_requester.specs.declared.results.Opened.{Opened}
use Rattle.pldm_requester.specs.declared.results.OpenFault.{OpenFault}
use Rattle.pldm_requester.specs.declared.pace.Pace.{Pace}
use Rattle.pldm_requester.specs.declared.timing.Timing.{Timing}
use Rattle.pldm_requester.specs.declared.requester.TheConstants.{MAX_OPEN, MAX_REMEMBERED}

-- what is remembered of a request: which command it is of, its packets and its course; or its outline, without its
-- packets and its answer
pub record Memo : Type 0 where
  pub kind : TypeAndCommand
  pub packets : List (List ℕ)
  pub course : Course
  pub is_whole : Bool

abbrev pub outline : Memo → Memo
outline memo = record { kind = memo.kind; packets = []; course = without_answer memo.course; is_whole = false }

-- the outline, where this is so
abbrev pub outline_if : Bool → Option Memo → Option Memo
outline_if b memo = if b then option_map outline memo else memo

-- what is remembered whole
abbrev pub whole : Option Memo → Option Memo
whole None = None
whole (Some memo) = if memo.is_whole then Some memo else None

-- its own endpoint ID and the device's, its timing and pace, how many requests were opened, what is remembered of each, what is
-- open on each key, and the last moment
pub record RequesterState : Type 0 where
  pub own : ℕ
  pub device : ℕ
  pub timing : Timing
  pub pace : Pace
  pub count : ℕ
  pub remembered : ℕ → Option Memo
  pub open_messages : assembly.OpenMessages
  pub last : ℕ

-- the same is held
pub record IsHeld (new held : RequesterState) : Type 0 where
  pub own : new.own ≡ held.own
  pub device : new.device ≡ held.device
  pub timing : new.timing ≡ held.timing
  pub pace : new.pace ≡ held.pace
  pub count : new.count ≡ held.count
  pub remembered : (number : ℕ) → new.remembered number ≡ held.remembered number
  pub open_messages : new.open_messages ≡ held.open_messages
  pub last : new.last ≡ held.last

-- what a new one with a pace holds
abbrev pub paced_at_first : ℕ → ℕ → Timing → Pace → RequesterState
paced_at_first own device timing pace = record {
  own = own;
  device = device;
  timing = timing;
  pace = pace;
  count = 0;
  remembered = λ number. None;
  open_messages = map.empty;
  last = 0;
}

-- what a new one holds that goes by the keeping time alone
abbrev pub held_at_first : ℕ → ℕ → Timing → RequesterState
held_at_first own device timing = paced_at_first own device timing (at_default timing.keep)

-- the last so many numbers below a count
abbrev pub is_recent : ℕ → ℕ → Bool
is_recent count number = nat_lt number count && nat_le count (number + MAX_REMEMBERED)

-- those that are remembered whole
abbrev pub is_kept : Pace → ℕ → ℕ → Bool
is_kept pace count number = nat_le count (number + kept pace)

abbrev pub passes : (Course → Bool) → Option Memo → Bool
passes test None = false
passes test (Some memo) = test memo.course

abbrev pub course_of : Option Memo → Course
course_of None = no_course
course_of (Some memo) = memo.course

abbrev pub with_course : (Course → Course) → Memo → Memo
with_course change memo =
    record { kind = memo.kind; packets = memo.packets; course = change memo.course; is_whole = memo.is_whole }

-- the last number below a count that has a tag
abbrev pub latest_on : ℕ → ℕ → Option ℕ
latest_on count tag = if nat_lt tag count then Some (count - 1 - (count - 1 - tag) % TAGS) else None

abbrev pub where_open : (ℕ → Bool) → Option ℕ → Option ℕ
where_open is_open None = None
where_open is_open (Some number) = if is_open number then Some number else None

-- the last numbers below a count: no older one is open
abbrev pub recent_numbers : ℕ → List ℕ
recent_numbers count = range_with_len (count - MAX_OPEN) (count - (count - MAX_OPEN))

abbrev pub is_mine_by : ℕ → Option Memo → Response → Bool
is_mine_by number None response = false
is_mine_by number (Some memo) response = is_response_to number memo.kind response

abbrev pub open_after : assembly.OpenMessages → Result Packet Reason → assembly.OpenMessages
open_after open_messages (Err reason) = open_messages
open_after open_messages (Ok p) = assembly.after open_messages p

-- SOM is set
abbrev pub begins_message : Result Packet Reason → Bool
begins_message (Err reason) = false
begins_message (Ok p) = p.start

module _ (held : RequesterState) where
  abbrev pub is_open_in : ℕ → Bool
  is_open_in number = passes is_open (held.remembered number)

  -- it is among those that are remembered whole
  abbrev pub is_there : ℕ → Bool
  is_there number = is_recent held.count number && is_kept held.pace held.count number

  abbrev pub at_hand : ℕ → Option Memo
  at_hand number = if is_there number then held.remembered number else None

  abbrev pub is_tag_in_use : Bool
  is_tag_in_use = nat_le TAGS held.count && is_open_in (held.count - TAGS)

  -- the courses of the other requests that are remembered, the newest first
  abbrev pub courses_since : List Course
  courses_since = newest (λ number. course_of (held.remembered number)) held.count (INSTANCE_IDS - 1)

  abbrev pub has_id_before : ℕ → Bool
  has_id_before moment =
      nat_le INSTANCE_IDS held.count
      && passes (λ before. is_too_soon held.timing.keep held.pace moment before.opening courses_since)
      (held.remembered (held.count - INSTANCE_IDS))

  abbrev pub has_many_before : ℕ → Bool
  has_many_before moment =
      nat_lt 0 (stride held.pace) && nat_le (stride held.pace) held.count
      && passes (is_crowded held.pace moment) (held.remembered (held.count - stride held.pace))

  abbrev pub is_id_in_use : ℕ → Bool
  is_id_in_use moment = has_id_before moment || has_many_before moment

  abbrev pub accepts : ℕ → Bool
  accepts moment = not is_tag_in_use && not (is_id_in_use moment)

  -- what an open at a moment answers, where there is memory
  abbrev pub opening_answer : ℕ → Result Opened OpenFault
  opening_answer moment = open_answer is_tag_in_use (is_id_in_use moment) held.count

  abbrev pub memo_with : ℕ → Ask → Memo
  memo_with moment ask = record {
    kind = ask.kind;
    packets = packets_with held.own held.device held.count ask;
    course = begun moment;
    is_whole = true;
  }

  abbrev pub new_memo : ℕ → Command → Memo
  new_memo moment command = memo_with moment (ask_of command)

  -- what is held after an accepted open: of the last requests one more is remembered, and of one the outline alone
  abbrev pub opened_with : ℕ → Ask → RequesterState
  opened_with moment ask = record held {
    count = held.count + 1;
    remembered = λ number.
        if number == held.count then Some (memo_with moment ask)
        else (if is_recent (held.count + 1) number
        then outline_if (number + kept held.pace == held.count) (held.remembered number) else None);
    open_messages = map.remove held.open_messages (answer_key held.device (tag_of held.count));
    last = moment;
  }

  abbrev pub opened_held : ℕ → Command → RequesterState
  opened_held moment command = opened_with moment (ask_of command)

  -- which requests a tick sends again, and which it gives up
  abbrev pub again_at : ℕ → List ℕ
  again_at moment =
      filter (λ number. passes (is_sent_again held.timing moment) (held.remembered number)) (recent_numbers held.count)

  abbrev pub given_up_at : ℕ → List ℕ
  given_up_at moment =
      filter (λ number. passes (is_given_up held.timing moment) (held.remembered number)) (recent_numbers held.count)

  abbrev pub ticked_held : ℕ → RequesterState
  ticked_held moment = record held {
    remembered = λ number. option_map (with_course (ticked held.timing moment)) (held.remembered number);
    last = moment;
  }

  -- the request that a packet comes to: the latest on its tag, where that is open
  abbrev pub goes_to : Packet → Option ℕ
  goes_to p =
      if is_from_device held.device p then where_open is_open_in (latest_on held.count p.route.tag) else None

  abbrev pub expects : Packet → Bool
  expects p = is_some (goes_to p)

  abbrev pub passed : List ℕ → Result Packet Reason
  passed bytes = passing expects held.own bytes

  abbrev pub is_mine : ℕ → Response → Bool
  is_mine number response = is_mine_by number (held.remembered number) response

  -- what a packet brings that passed, or did not
  abbrev pub arrived_by : Result Packet Reason → Arrival
  arrived_by passed = passed_arrival goes_to (λ number p. assembly.answer held.open_messages p) is_mine passed

  abbrev pub remembered_after : Arrival → ℕ → Option Memo
  remembered_after (Drop reason) number = held.remembered number
  remembered_after Part number = held.remembered number
  remembered_after (Answer n message) number =
      if number == n then option_map (with_course (answered message)) (held.remembered number)
      else held.remembered number

  -- what is held after it, but for the moment
  abbrev pub held_by : Result Packet Reason → RequesterState
  held_by passed = record held {
    remembered = remembered_after (arrived_by passed);
    open_messages = open_after held.open_messages passed;
  }

  abbrev pub got_at : List ℕ → Got
  got_at bytes = got_of (arrived_by (passed bytes))

  abbrev pub received_held : ℕ → List ℕ → RequesterState
  received_held moment bytes = record (held_by (passed bytes)) { last = moment }
