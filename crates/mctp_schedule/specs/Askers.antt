-- What contracts see of a requester of a run, and what its calls give.
use Rattle.std.specs.Prelude.{◌≡◌, ⊤, ℕ, ◌<◌, ◌≤◌, true, List, [], ◌∷◌, ◌++◌, length, Option, Some, None, Ok, option_map, slice_index, refl}
use Rattle.std.specs.Coded.{Coded, code_by, coded×, coded_ℕ, coded_list}
use Rattle.mctp_packet.specs.Packets.{packet, written}
use Rattle.mctp_packet.specs.declared.TheConstants.{HEADER}
use Rattle.pldm_wire.specs.Commands.{IsCommand}
use Rattle.pldm_wire.specs.declared.command.Command.{Command}
use Rattle.pldm_requester.specs.Arrivals.{Arrival, Drop, Part, Answer}
use Rattle.pldm_requester.specs.Courses as courses
use Rattle.pldm_requester.specs.Numbering.{message_of, opened_as, route_of}
use Rattle.pldm_requester.specs.Slots.{RequesterView, coded_view, held_of}
use Rattle.pldm_requester.specs.Steps.{RequesterState, opening_answer, at_hand}
use Rattle.pldm_requester.specs.declared.results.Got.{Got}
use Rattle.pldm_requester.specs.declared.results.Got.TheVariants as gots
use Rattle.mctp_schedule.specs.declared.askers.AnsweredRequest.{AnsweredRequest}
use Rattle.mctp_schedule.specs.declared.askers.SentRequest.{SentRequest}

-- a requester, and the numbers of its requests over all requests
pub record Side : Type 0 where
  pub station : RequesterView
  pub numbers : List ℕ

-- it is stored as its parts
abbrev pub coded_side : Coded Side
coded_side =
    code_by (RequesterView × List ℕ) (coded× coded_view (coded_list coded_ℕ))
    (λ s. (s.station, s.numbers))
    (λ c. record { station = c.0; numbers = c.1 })
    (λ _. refl)

-- the bytes of the one packet of a request's message
abbrev pub packet_bytes : ℕ → ℕ → ℕ → List ℕ → List ℕ
packet_bytes own device number message = written (packet (route_of own device number) true true 0 message)

-- the next request is opened for a command that can be written, and has this number
pub record IsOpenedAs (held : RequesterState) (moment : ℕ) (command : Command) (own : ℕ) : Type 0 where
  pub opened : opening_answer held moment ≡ Ok (opened_as held.count)
  pub numbered : own ≡ held.count
  pub readable : IsCommand command

-- a request that was opened for a command
pub record IsSent (held : RequesterState) (moment : ℕ) (command : Command) (sent : SentRequest) : Type 0 where
  pub opened : opening_answer held moment ≡ Ok (opened_as held.count)
  pub own : sent.own ≡ held.count
  pub message : sent.message.now ≡ message_of held.count command
  pub packet : sent.header ++ sent.message.now
      ≡ packet_bytes held.own held.device held.count (message_of held.count command)
  pub readable : IsCommand command

-- a request is remembered, and has one packet, which has a header
abbrev pub HasPacket : RequesterState → ℕ → Type 0
HasPacket held number =
    (bytes : List ℕ) × (option_map (λ memo. memo.packets) (at_hand held number) ≡ Some (bytes ∷ []))
    × (HEADER ≤ length bytes)

-- a request is remembered, and was answered
abbrev pub HasAnswer : RequesterState → ℕ → Type 0
HasAnswer held number =
    (message : List ℕ)
    × (option_map (λ memo. memo.course.progress) (at_hand held number) ≡ Some (courses.Answered message))

-- the request that a packet answered, if any, has an answer, and a number over all requests
abbrev pub IsAnswered : Side → Got → Type 0
IsAnswered side (gots.Dropped reason) = ⊤
IsAnswered side gots.Partial = ⊤
IsAnswered side (gots.Answered own) = HasAnswer (held_of side.station) own × (own < length side.numbers)

-- it is reported by that number, with its answer
abbrev pub ReportsAnswer : Side → Got → Option AnsweredRequest → Type 0
ReportsAnswer side (gots.Dropped reason) answered = answered ≡ None
ReportsAnswer side gots.Partial answered = answered ≡ None
ReportsAnswer side (gots.Answered own) answered =
    (a : AnsweredRequest) × (answered ≡ Some a) × (a.number ≡ slice_index side.numbers own)
    × (option_map (λ memo. memo.course.progress) (at_hand (held_of side.station) own)
    ≡ Some (courses.Answered a.message.now))

-- the request that a packet answered is reported by its number over all requests, with its answer
abbrev pub ReportsReply : List ℕ → Arrival → Option AnsweredRequest → Type 0
ReportsReply numbers (Drop reason) answered = answered ≡ None
ReportsReply numbers Part answered = answered ≡ None
ReportsReply numbers (Answer number message) answered =
    (a : AnsweredRequest) × (answered ≡ Some a) × (a.number ≡ slice_index numbers number) × (a.message.now ≡ message)
