-- What a requester owes, read by looking back over the list of all its calls, the newest first. All requests are named
-- by their numbers, however long ago they were opened.
use Rattle.std.specs.Prelude.{ℕ, zero, suc, ◌-◌, false, Bool, ◌&&◌, ◌||◌, not, ◌==◌, nat_lt, nat_le, List, [], ◌∷◌, filter, Option, Some, None, is_some, Result, Ok, Err, if◌then◌else◌}
use Rattle.std.specs.List.{range_with_len}
use Rattle.mctp_packet.specs.Packets.{Packet}
use Rattle.mctp_packet.specs.Passing.{passing}
use Rattle.mctp_packet.specs.declared.reason.Reason.{Reason}
use Rattle.mctp_packet.specs.declared.TheConstants.{TAGS}
use Rattle.mctp_assembly.specs.Histories as assembly
use Rattle.mctp_assembly.specs.Rows.{next}
use Rattle.mctp_assembly.specs.declared.fed.Fed.{Fed}
use Rattle.mctp_assembly.specs.declared.key.Key.{Key}
use Rattle.pldm_wire.specs.Responses.{Response}
use Rattle.pldm_wire.specs.declared.assigned.TheConstants.{INSTANCE_IDS}
use Rattle.pldm_wire.specs.declared.command.Command.{Command}
use Rattle.pldm_wire.specs.declared.command.Command.TheVariants.{GetTid}
use Rattle.pldm_requester.specs.Asks.{Ask, ask_of}
use Rattle.pldm_requester.specs.Numbering.{tag_of, opened_as}
use Rattle.pldm_requester.specs.Courses.{Course, no_course, is_open, begun, is_given_up, is_sent_again, ticked, answered}
use Rattle.pldm_requester.specs.Pacing.{newest, is_too_soon, stride, is_crowded}
use Rattle.pldm_requester.specs.Arrivals.{Arrival, Drop, Part, Answer, got_of, is_response_to, passed_arrival}
use Rattle.pldm_requester.specs.declared.results.Got.{Got}
use Rattle.pldm_requester.specs.declared.results.Opened.{Opened}
use Rattle.pldm_requester.specs.declared.results.OpenFault.{OpenFault}
use Rattle.pldm_requester.specs.declared.results.OpenFault.TheVariants.{TagInUse, IdInUse}
use Rattle.pldm_requester.specs.declared.pace.Pace.{Pace}
use Rattle.pldm_requester.specs.declared.timing.Timing.{Timing}

-- each with its moment: what is to be opened as a request, a tick, and bytes that were received
pub data Call : Type 0 where
  OpenRequest : (moment : ℕ) → (ask : Ask) → Call
  Tick : (moment : ℕ) → Call
  Receive : (moment : ℕ) → (bytes : List ℕ) → Call

-- a command to be opened as a request
abbrev pub Open : ℕ → Command → Call
Open moment command = OpenRequest moment (ask_of command)

-- an accepted open, its course, and the packets that came to it since, the newest first
pub record Request : Type 0 where
  pub ask : Ask
  pub course : Course
  pub fed : List Packet

-- how many requests were opened, and each by its number, 0 for the first
pub record Requests : Type 0 where
  pub count : ℕ
  pub each : ℕ → Request

-- what stands at a number that is not given yet
abbrev pub no_request : Request
no_request = record { ask = ask_of GetTid; course = no_course; fed = [] }

abbrev pub none_yet : Requests
none_yet = record { count = 0; each = λ n. no_request }

abbrev pub request_with : ℕ → Ask → Request
request_with moment ask = record { ask = ask; course = begun moment; fed = [] }

abbrev pub new_request : ℕ → Command → Request
new_request moment command = request_with moment (ask_of command)

-- another request in the place of the one with this number
abbrev pub put : (ℕ → Request) → ℕ → Request → ℕ → Request
put each number request n = if n == number then request else each n

abbrev pub opened_for : Requests → ℕ → Ask → Requests
opened_for a moment ask = record { count = suc a.count; each = put a.each a.count (request_with moment ask) }

abbrev pub opened : Requests → ℕ → Command → Requests
opened a moment command = opened_for a moment (ask_of command)

abbrev pub with_request : Requests → ℕ → Request → Requests
with_request a number request = record { count = a.count; each = put a.each number request }

abbrev pub is_open_at : Requests → ℕ → Bool
is_open_at a n = is_open (a.each n).course

-- the last request with the new one's tag is still open
abbrev pub is_tag_in_use : Requests → Bool
is_tag_in_use a = nat_le TAGS a.count && is_open_at a (a.count - TAGS)

abbrev pub course_at : Requests → ℕ → Course
course_at a n = (a.each n).course

-- the last request with the new one's instance ID came too short a time ago
abbrev pub has_id_before : ℕ → Pace → Requests → ℕ → Bool
has_id_before keep pace a moment =
    nat_le INSTANCE_IDS a.count
    && is_too_soon keep pace moment (course_at a (a.count - INSTANCE_IDS)).opening
    (newest (course_at a) a.count (INSTANCE_IDS - 1))

-- too many came in the last lifetime, where requests are spread
abbrev pub has_many_before : Pace → Requests → ℕ → Bool
has_many_before pace a moment =
    nat_lt 0 (stride pace) && nat_le (stride pace) a.count
    && is_crowded pace moment (course_at a (a.count - stride pace))

-- the new one's instance ID is not free yet
abbrev pub is_id_in_use : ℕ → Pace → Requests → ℕ → Bool
is_id_in_use keep pace a moment = has_id_before keep pace a moment || has_many_before pace a moment

abbrev pub accepts : ℕ → Pace → Requests → ℕ → Bool
accepts keep pace a moment = not (is_tag_in_use a) && not (is_id_in_use keep pace a moment)

-- what an open answers, by whether its tag and its instance ID are in use
abbrev pub open_answer : Bool → Bool → ℕ → Result Opened OpenFault
open_answer tag_in_use id_in_use number =
    if tag_in_use then Err TagInUse else (if id_in_use then Err IdInUse else Ok (opened_as number))

-- the request that is open on a tag, among the first so many, by a test of what is open
abbrev pub open_on : (ℕ → Bool) → ℕ → ℕ → Option ℕ
open_on is_open zero tag = None
open_on is_open (suc n) tag = if tag_of n == tag && is_open n then Some n else open_on is_open n tag

-- whose messages the answers on a tag are: the device's, with TO 0
abbrev pub answer_key : ℕ → ℕ → Key
answer_key device tag = record { source = device; tag = tag; owner = false }

-- a packet that may be a part of an answer
abbrev pub is_from_device : ℕ → Packet → Bool
is_from_device device p = not p.route.owner && p.route.source == device

-- the numbers of the requests that pass a test, in their order
abbrev pub numbers_of : (Course → Bool) → Requests → List ℕ
numbers_of test a = filter (λ n. test (a.each n).course) (range_with_len 0 a.count)

module _ (own device : ℕ) (timing : Timing) where
  -- the request that a packet comes to: the one that is open on its tag
  abbrev pub goes_to : Requests → Packet → Option ℕ
  goes_to a p = if is_from_device device p then open_on (is_open_at a) a.count p.route.tag else None

  -- the packet that bytes are, where it passes the checks: its tag is expected where it comes to a request
  abbrev pub passed : Requests → List ℕ → Result Packet Reason
  passed a bytes = passing (λ p. is_some (goes_to a p)) own bytes

  abbrev pub gives : Requests → ℕ → Packet → Fed
  gives a n p = next (a.each n).fed p

  abbrev pub is_mine : Requests → ℕ → Response → Bool
  is_mine a n response = is_response_to n (a.each n).ask.kind response

  -- what bytes bring
  abbrev pub arrived : Requests → List ℕ → Arrival
  arrived a bytes = passed_arrival (goes_to a) (gives a) (is_mine a) (passed a bytes)

  -- a packet that comes to a request is the last of those that did
  abbrev pub fed_to : Requests → Packet → Option ℕ → Requests
  fed_to a p None = a
  fed_to a p (Some n) =
      with_request a n (record { ask = (a.each n).ask; course = (a.each n).course; fed = p ∷ (a.each n).fed })

  abbrev pub fed_by : Requests → Result Packet Reason → Requests
  fed_by a (Err reason) = a
  fed_by a (Ok p) = fed_to a p (goes_to a p)

  abbrev pub answered_by : Requests → Arrival → Requests
  answered_by a (Drop reason) = a
  answered_by a Part = a
  answered_by a (Answer n message) =
      with_request a n
      (record { ask = (a.each n).ask; course = answered message (a.each n).course; fed = (a.each n).fed })

  abbrev pub received : Requests → List ℕ → Requests
  received a bytes = answered_by (fed_by a (passed a bytes)) (arrived a bytes)

  abbrev pub ticked_request : ℕ → Request → Request
  ticked_request moment request =
      record { ask = request.ask; course = ticked timing moment request.course; fed = request.fed }

  -- a packet that passed the checks comes to assembly
  abbrev pub with_packet : Result Packet Reason → List assembly.Call → List assembly.Call
  with_packet (Ok p) packets = assembly.feed p ∷ packets
  with_packet (Err reason) packets = packets

module _ (own device : ℕ) (timing : Timing) (pace : Pace) where
  abbrev pub after_call : Requests → Call → Requests
  after_call a (OpenRequest moment ask) = if accepts timing.keep pace a moment then opened_for a moment ask else a
  after_call a (Tick moment) =
      record { count = a.count; each = λ n. ticked_request own device timing moment (a.each n) }
  after_call a (Receive moment bytes) = received own device timing a bytes

  -- the requests after these calls
  abbrev pub requests : List Call → Requests
  requests [] = none_yet
  requests (call ∷ calls) = after_call (requests calls) call

  -- the moment of the last call, but for a refused open; 0 where there was none
  abbrev pub last_moment : List Call → ℕ
  last_moment [] = 0
  last_moment (OpenRequest moment ask ∷ calls) =
      if accepts timing.keep pace (requests calls) moment then moment else last_moment calls
  last_moment (Tick moment ∷ calls) = moment
  last_moment (Receive moment bytes ∷ calls) = moment

  -- what came to assembly: the packets that passed, and at each accepted open its tag is forgotten
  abbrev pub assembled : List Call → List assembly.Call
  assembled [] = []
  assembled (OpenRequest moment ask ∷ calls) =
      if accepts timing.keep pace (requests calls) moment
      then assembly.forget (answer_key device (tag_of (requests calls).count)) ∷ assembled calls
      else assembled calls
  assembled (Tick moment ∷ calls) = assembled calls
  assembled (Receive moment bytes ∷ calls) =
      with_packet own device timing (passed own device timing (requests calls) bytes) (assembled calls)

  -- what an open at a moment answers after these calls
  abbrev pub open_expected : List Call → ℕ → Result Opened OpenFault
  open_expected calls moment =
      open_answer (is_tag_in_use (requests calls)) (is_id_in_use timing.keep pace (requests calls) moment)
      (requests calls).count

  -- which requests a tick at a moment sends again, and which it gives up
  abbrev pub again_expected : List Call → ℕ → List ℕ
  again_expected calls moment = numbers_of (is_sent_again timing moment) (requests calls)

  abbrev pub given_up_expected : List Call → ℕ → List ℕ
  given_up_expected calls moment = numbers_of (is_given_up timing moment) (requests calls)

  -- what bytes that are received give after these calls
  abbrev pub got_expected : List Call → List ℕ → Got
  got_expected calls bytes = got_of (arrived own device timing (requests calls) bytes)
