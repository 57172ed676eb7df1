-- The premises of the headline and of the laws under it are met by one run over the example device: requests that come
-- in another order and again, a request and an answer that are lost, packets of an answer out of order, a restart, and
-- an instance ID that is used again after 32 requests. The newest step stands first.
use Rattle.std.proofs.Common.{◌≡◌, ◌≢◌, ℕ, ℤ, zero, suc, ◌+◌, pos, List, [], ◌∷◌, ◌++◌, map, replicate, reverse, Some, true, false, refl, inr, arith}
use Rattle.std.specs.Prelude.{option_map}
use Rattle.std.specs.List.{range_with_len}
use Rattle.pldm_wire.specs.declared.restart_policy.RestartPolicy.TheVariants.{All}
use Rattle.mctp_packet.specs.Ids.{IsEid}
use Rattle.pldm_wire.specs.CommandReading.{command_of}
use Rattle.pldm_wire.specs.Numbers.{sized}
use Rattle.pldm_wire.specs.Requests.{request_of}
use Rattle.pldm_wire.specs.Responses.{response_of}
use Rattle.pldm_wire.specs.declared.command.Command.TheVariants.{GetTid, GetPdr, GetSensorReading, SetNumericEffecterValue}
use Rattle.pldm_wire.specs.declared.size.Size.TheVariants.{Uint8}
use Rattle.simulated_device.specs.Devices.{Device}
use Rattle.pldm_requester.specs.Courses.{Answered, GaveUp}
use Rattle.pldm_responder.specs.Performing.{performed}
use Rattle.mctp_schedule.specs.FirstArrivals.{firsts}
use Rattle.mctp_schedule.specs.Headline.{state_once}
use Rattle.mctp_schedule.specs.Logs.{Asked, asked_at, reached, endpoint_of}
use Rattle.mctp_schedule.specs.Timely.{IsTimelyLog}
use Rattle.mctp_schedule.specs.OncePerformed.{AreRequests}
use Rattle.mctp_schedule.specs.RequesterHalf.{IsTimelySchedule}
use Rattle.mctp_schedule.specs.Runs.{newest_first}
use Rattle.schedule_text.specs.Schedules.{IsSchedule, Spelled}
use Rattle.mctp_schedule.specs.TakenReplies.{is_waiting, replies, taken}
use Rattle.mctp_schedule.specs.Worlds.{BothEnds, is_timely, requests_of, world}
use Rattle.mctp_schedule.specs.Actions.{Step, as_steps}
use Rattle.schedule_text.specs.declared.step.Action.{Action}
use Rattle.schedule_text.specs.declared.step.Action.TheVariants.{Open, Tick, Request, Reply, Sense, Restart, Busy}
use Rattle.schedule_text.specs.declared.step.Step.{Step as TextStep}
use Rattle.mctp_schedule.proofs.DeliveriesExpected.{state_is_once}
use Rattle.mctp_schedule.proofs.ExampleDevice.{with_tries, with_values}
use Rattle.mctp_schedule.proofs.SourcesOfRequests.{each_known_opens_at, sources_of}
use Rattle.mctp_schedule.proofs.SpelledAsks.{spelled_asks}
use Rattle.mctp_schedule.proofs.PremiseTests.{all_fit, all_known, all_read, all_rest, apart, are_requests, are_rested, each_is_known, goes_on, in_order, in_time, is_schedule, never_went_back, replies_fit, timely_log}
use Rattle.mctp_schedule.proofs.TimelyTests.{timely_is_tested}

abbrev setting : BothEnds Device
setting = with_tries 3 5

abbrev at : ℕ → Action → TextStep
at moment action = record { moment = moment; action = action }

abbrev set_to : ℕ → ℤ → Action
set_to e value = Open e (SetNumericEffecterValue 1 (sized Uint8 value))

-- the request of 10 comes before that of 8, and comes again; the answer to that of 8 is lost, and the one to its retry
-- comes
abbrev retried : List TextStep
retried =
    at 210 (Reply 0 0) ∷ at 200 (Request 0) ∷ at 200 (Tick 8) ∷ at 8 (Reply 0 1) ∷ at 7 (Request 1) ∷ at 6 (Request 0)
    ∷ at 5 (Request 1) ∷ at 0 (set_to 10 (pos 50)) ∷ at 0 (set_to 8 (pos 40)) ∷ []

-- an answer of four packets: the third comes before the second, then all come in order
abbrev out_of_order : List TextStep
out_of_order =
    at 310 (Reply 1 2) ∷ at 310 (Reply 2 2) ∷ at 310 (Reply 0 2) ∷ at 300 (Request 2)
    ∷ at 300 (Open 8 (GetPdr 0 0 1 239 0)) ∷ retried

abbrev in_parts : List TextStep
in_parts =
    at 320 (Reply 3 2) ∷ at 320 (Reply 2 2) ∷ at 320 (Reply 1 2) ∷ at 320 (Reply 0 2) ∷ out_of_order

-- so many more requests of 8, from number 3 on, each answered at once
abbrev so_many_more : ℕ → List TextStep
so_many_more zero = in_parts
so_many_more (suc n) =
    at 400 (Reply 0 (n + 3)) ∷ at 400 (Request (n + 3)) ∷ at 400 (Open 8 GetTid) ∷ so_many_more n

-- 10 sets another value, and 8 asks with the bytes of its first request, which has the same instance ID
abbrev used_again : List TextStep
used_again =
    at 2000 (Reply 0 34) ∷ at 2000 (Request 34) ∷ at 2000 (set_to 8 (pos 40)) ∷ at 500 (Reply 0 33) ∷ at 500 (Request 33)
    ∷ at 500 (set_to 10 (pos 60)) ∷ so_many_more 30

-- a restart: the busy answer is not taken, and the one to the retry is
abbrev restarted : List TextStep
restarted =
    at 3110 (Reply 0 35) ∷ at 3100 (Request 35) ∷ at 3100 (Tick 10) ∷ at 2210 (Busy 35) ∷ at 2200 (Request 35)
    ∷ at 2200 (Open 10 (GetSensorReading 1 0)) ∷ at 2100 Restart ∷ at 2050 (Sense 1 (pos 41)) ∷ used_again

-- a request that is lost is given up
abbrev spelled : List TextStep
spelled = at 4120 (Tick 10) ∷ at 3120 (Open 10 GetTid) ∷ restarted

abbrev steps : List Step
steps = as_steps spelled

-- ---- what the definitions give for it
in_this_order : firsts Device 1000 (world setting steps).log ≡ 1 ∷ 0 ∷ range_with_len 2 34
unfolding request_of command_of response_of
in_this_order = refl

set_at_the_end : state_once setting steps ≡ with_values (pos 41) (pos 40)
unfolding request_of command_of response_of
set_at_the_end = refl

abbrev set_40 : ℕ → ℕ → Asked
set_40 own opening =
    record { source = 8; own = own; opening = opening; message = 0x01 ∷ 0x80 ∷ 0x02 ∷ 0x31 ∷ 0x01 ∷ 0x00 ∷ 0x00 ∷ 0x28 ∷ [] }

same_bytes : (asked_at (world setting steps).log 0 ≡ Some (set_40 0 0)) × (asked_at (world setting steps).log 34 ≡ Some (set_40 32 2000))
unfolding request_of command_of response_of
same_bytes = (refl, refl)

all_but_the_lost_one : map (taken setting steps) (range_with_len 0 37) ≡ replicate 36 true ++ false ∷ []
unfolding request_of command_of response_of
all_but_the_lost_one = refl

lost_one_is_given_up : ((requests_of setting (world setting steps) 10).each 3).course.progress ≡ GaveUp
unfolding request_of command_of response_of
lost_one_is_given_up = refl

-- the request whose packets came out of order is still open after them
still_open : option_map (is_waiting setting (world setting (as_steps out_of_order))) (asked_at (world setting (as_steps out_of_order)).log 2) ≡ Some true
unfolding request_of command_of response_of
still_open = refl

these_came : replies setting (as_steps out_of_order) 2 ≡ Some 1 ∷ Some 2 ∷ Some 0 ∷ []
unfolding request_of command_of response_of
these_came = refl

-- the request with the instance ID of the first one is answered
answered_again : ((requests_of setting (world setting steps) 8).each 32).course.progress ≡ Answered (0x01 ∷ 0x00 ∷ 0x02 ∷ 0x31 ∷ 0x00 ∷ [])
unfolding request_of command_of response_of
answered_again = refl

-- ---- the premises
abbrev schedule : Spelled
schedule = record { requesters = setting.requesters; steps = reverse spelled }

pub a_schedule : IsSchedule schedule
a_schedule = is_schedule setting.requesters (reverse spelled) (refl, (refl, tt)) refl refl

these_steps : newest_first schedule ≡ steps
these_steps = refl

abbrev IsOther : ℕ → Type 0
IsOther e = IsEid (endpoint_of e) × (endpoint_of e ≢ 9)

is_eight : IsOther 8
is_eight = ((omega arith, omega arith), omega arith)

is_ten : IsOther 10
is_ten = ((omega arith, omega arith), omega arith)

goes_on_here : goes_on steps ≡ true
goes_on_here = refl

known_here : all_known setting.requesters steps ≡ true
known_here = refl

timely_here : is_timely setting steps ≡ true
unfolding request_of command_of response_of
timely_here = refl

fit_here : all_fit setting.device 32 1000 setting.start (world setting steps).log ≡ true
unfolding request_of command_of response_of
fit_here = refl

rested_here : all_rest 1000 (world setting steps).log ≡ true
unfolding request_of command_of response_of
rested_here = refl

pub timely_schedule : IsTimelySchedule setting steps
timely_schedule = record {
  order = never_went_back steps goes_on_here;
  timely = (timely_is_tested setting steps).0 timely_here;
  sound = record {
    device = (omega arith, omega arith);
    sources =
        sources_of setting IsOther steps
        (each_known_opens_at IsOther setting.requesters (is_eight, (is_ten, tt)) steps (each_is_known setting.requesters steps known_here));
    fit = replies_fit setting.device 32 1000 setting.start (world setting steps).log fit_here;
    pace = record { within = omega arith; window = inr refl };
    asks = spelled_asks spelled;
    rested = are_rested 1000 (world setting steps).log rested_here;
  };
}

in_order_here : in_order (world setting steps).log ≡ true
unfolding request_of command_of response_of
in_order_here = refl

apart_here : apart 1000 (world setting steps).log ≡ true
unfolding request_of command_of response_of
apart_here = refl

in_time_here : in_time Device 32 1000 (world setting steps).log ≡ true
unfolding request_of command_of response_of
in_time_here = refl

pub timely_link : IsTimelyLog Device 32 1000 1000 (world setting steps).log
timely_link = timely_log Device 32 1000 (world setting steps).log in_order_here apart_here in_time_here

read_here : all_read (world setting steps).log ≡ true
unfolding request_of command_of response_of
read_here = refl

pub requests_read : AreRequests (world setting steps).log
requests_read = are_requests (world setting steps).log read_here

-- ---- a law on it: the responder's state is that of performing each request once
pub performed_once : performed setting.device All 32 1000 setting.start (reached (world setting steps).log) ≡ state_once setting steps
performed_once = state_is_once setting.device 32 1000 1000 setting.start (world setting steps).log timely_link
