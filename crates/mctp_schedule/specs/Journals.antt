-- What a run writes down of its requests and their answers.
use Rattle.std.specs.Prelude.{ℕ, Bool, true, false, List, [], ◌∷◌, ◌++◌, ◌==◌, Option, Some, None, option_and_then, is_some, slice_get, if◌then◌else◌, refl}
use Rattle.std.specs.List.{list_any}
use Rattle.std.specs.Coded.{Coded, code_by, coded×, coded_ℕ, coded_list, coded_option}
use Rattle.pldm_requester.specs.Courses as courses
use Rattle.pldm_responder.specs.declared.outcome.Outcome.{Outcome}
use Rattle.pldm_responder.specs.declared.outcome.Outcome.TheVariants as outcomes
use Rattle.mctp_schedule.specs.Deliveries.{packets_of_outcome}
use Rattle.mctp_schedule.specs.EntryColumns.{outcomes_in}
use Rattle.mctp_schedule.specs.Requests.{Request, with_progress}
use Rattle.mctp_schedule.specs.declared.askers.AnsweredRequest.{AnsweredRequest}
use Rattle.mctp_schedule.specs.declared.entry.Entry.{Entry}

-- the header of the packet of a request, and the places of the latest reply and of the latest busy answer among the
-- deliveries
pub record Carried : Type 0 where
  pub header : List ℕ
  pub reply : Option ℕ
  pub busy : Option ℕ

-- it is stored as its parts
abbrev pub coded_carried : Coded Carried
coded_carried =
    code_by (List ℕ × (Option ℕ × Option ℕ))
    (coded× (coded_list coded_ℕ) (coded× (coded_option coded_ℕ) (coded_option coded_ℕ)))
    (λ c. (c.header, (c.reply, c.busy)))
    (λ c. record { header = c.0; reply = c.1.0; busy = c.1.1 })
    (λ _. refl)

-- the latest answer, busy or not, stands at this place
abbrev pub answers_at : ℕ → Bool → Carried → Carried
answers_at place true carried = record { header = carried.header; reply = carried.reply; busy = Some place }
answers_at place false carried = record { header = carried.header; reply = Some place; busy = carried.busy }

-- so does that to the request of this number, in its place
abbrev pub latest_answer_at : (number place : ℕ) → Bool → ℕ → Carried → Carried
latest_answer_at number place busy k carried = if k == number then answers_at place busy carried else carried

-- the packet of a request: its header, and the request's message
abbrev pub packet_of_request : Option Carried → Option Request → Option (List ℕ)
packet_of_request (Some carried) (Some request) = Some (carried.header ++ request.asked.message)
packet_of_request carried request = None

-- a request has a latest reply
abbrev pub is_replied : Option Carried → Bool
is_replied None = false
is_replied (Some carried) = is_some carried.reply

-- the packets of the answer at this place among the deliveries of these entries
abbrev pub packets_in : List Entry → Option ℕ → Option (List (List ℕ))
packets_in entries None = None
packets_in entries (Some place) = option_and_then packets_of_outcome (slice_get (outcomes_in entries) place)

-- the place of the latest answer, a busy one or not
abbrev pub place_of : Bool → Carried → Option ℕ
place_of true carried = carried.busy
place_of false carried = carried.reply

-- the packets of the latest answer to a request, a busy one or not
abbrev pub latest_packets : List Entry → Bool → Option Carried → Option (List (List ℕ))
latest_packets entries busy None = None
latest_packets entries busy (Some carried) = packets_in entries (place_of busy carried)

-- one of them
abbrev pub packet_at : List Entry → ℕ → Bool → Option Carried → Option (List ℕ)
packet_at entries packet busy carried =
    option_and_then (λ packets. slice_get packets packet) (latest_packets entries busy carried)

-- a request that was performed
abbrev pub fresh_numbers : ℕ → Outcome → List ℕ
fresh_numbers number (outcomes.Dropped reason) = []
fresh_numbers number outcomes.Partial = []
fresh_numbers number (outcomes.Answered fresh changed packets) = if fresh then number ∷ [] else []

-- how a request stands after those of these numbers were given up
abbrev pub progress_after : List ℕ → ℕ → Request → Request
progress_after given_up number request =
    if list_any (λ n. n == number) given_up then with_progress courses.GaveUp request else request

-- and how it stands after the one that was answered
abbrev pub answered_as : Option AnsweredRequest → ℕ → Request → Request
answered_as None number request = request
answered_as (Some answered) number request =
    if number == answered.number then with_progress (courses.Answered answered.message.now) request else request
