-- What the definitions of the requester's half give over schedules that are written out, computed. The newest step
-- stands first.
use Rattle.std.proofs.Common.{◌≡◌, ℕ, ℤ, pos, List, [], ◌∷◌, Some, None, true, false, refl, drop}
use Rattle.std.specs.Prelude.{replicate, Err}
use Rattle.mctp_packet.specs.declared.reason.Reason.TheVariants.{UnexpectedMiddleOrEnd, OutOfSequence, BadTag, NotReady}
use Rattle.pldm_wire.specs.CommandReading.{command_of}
use Rattle.pldm_wire.specs.Numbers.{sized}
use Rattle.pldm_wire.specs.Requests.{request_of}
use Rattle.pldm_wire.specs.Responses.{response_of}
use Rattle.pldm_wire.specs.declared.answer.Answer.{Answer}
use Rattle.pldm_wire.specs.declared.answer.Answer.TheVariants as answers
use Rattle.pldm_wire.specs.declared.command.Command.{Command}
use Rattle.pldm_wire.specs.declared.command.Command.TheVariants.{GetTid, GetPdrRepositoryInfo, GetSensorReading, SetNumericEffecterValue}
use Rattle.pldm_wire.specs.declared.size.Size.TheVariants.{Uint8}
use Rattle.pldm_platform.specs.declared.platform.ReadingFault.TheVariants.{NoSuchSensor}
use Rattle.pldm_responder.proofs.WorkedLight.{light_answer, light_after, light_sensed}
use Rattle.pldm_responder.specs.Performing.{Rules, rules_of}
use Rattle.pldm_requester.specs.Pacing.{at_default}
use Rattle.pldm_requester.specs.Courses as progresses
use Rattle.pldm_requester.specs.Courses.{Progress}
use Rattle.pldm_requester.specs.declared.results.Got.TheVariants.{Dropped, Partial, Answered}
use Rattle.mctp_schedule.specs.HandedPackets.{got_of_reply, got_of_busy}
use Rattle.mctp_schedule.specs.TakenReplies.{busy_expected, replies, reply_of, reply_expected, taken}
use Rattle.mctp_schedule.specs.Worlds.{BothEnds, requests_of, world}
use Rattle.mctp_schedule.specs.Actions.{Action}
use Rattle.mctp_schedule.specs.Actions.{open_for, Tick, Request, Reply, Sense, Restart, Busy}
use Rattle.mctp_schedule.specs.Actions.{Step}

abbrev at : ℕ → Action → Step
at moment action = record { moment = moment; action = action }

-- ---- a device with long answers: one of four packets, to a command of its kind
abbrev long_answer : ℕ → Command → Answer
long_answer state GetTid = answers.GetTid 1
long_answer state _ = answers.GetPldmVersion 0 (replicate 190 7)

abbrev long_device : Rules ℕ
long_device = rules_of long_answer (λ state command. state) (λ state id value. Err NoSuchSensor)

abbrev long : BothEnds ℕ
long = record {
  device = long_device;
  start = 0;
  eid = 9;
  keep = 1000;
  window = 32;
  requesters = record { eid = 8; timeout = 200; tries = 3 } ∷ [];
  pace = at_default 1000;
}

abbrev asked : List Step
asked = at 0 (Request 0) ∷ at 0 (open_for 8 GetPdrRepositoryInfo) ∷ []

-- packets 1, 0, 0, 1 and 2 were delivered: one too early, one that came again
abbrev in_turn : List Step
in_turn = at 5 (Reply 2 0) ∷ at 4 (Reply 1 0) ∷ at 3 (Reply 0 0) ∷ at 2 (Reply 0 0) ∷ at 1 (Reply 1 0) ∷ asked

too_early : reply_expected long asked 0 1 ≡ Some (Dropped UnexpectedMiddleOrEnd)
unfolding request_of command_of response_of
too_early = refl

first_packet : reply_expected long (drop 4 in_turn) 0 0 ≡ Some Partial
unfolding request_of command_of response_of
first_packet = refl

first_packet_again : reply_expected long (drop 3 in_turn) 0 0 ≡ Some Partial
unfolding request_of command_of response_of
first_packet_again = refl

second_packet : reply_expected long (drop 2 in_turn) 0 1 ≡ Some Partial
unfolding request_of command_of response_of
second_packet = refl

third_packet : reply_expected long (drop 1 in_turn) 0 2 ≡ Some Partial
unfolding request_of command_of response_of
third_packet = refl

fourth_packet : reply_expected long in_turn 0 3 ≡ Some (Answered 0)
unfolding request_of command_of response_of
fourth_packet = refl

not_taken_yet : taken long in_turn 0 ≡ false
unfolding request_of command_of response_of
not_taken_yet = refl

is_taken : taken long (at 6 (Reply 3 0) ∷ in_turn) 0 ≡ true
unfolding request_of command_of response_of
is_taken = refl

late_packet : reply_expected long (at 6 (Reply 3 0) ∷ in_turn) 0 3 ≡ Some (Dropped BadTag)
unfolding request_of command_of response_of
late_packet = refl

no_such_packet : reply_expected long (at 6 (Reply 3 0) ∷ in_turn) 0 4 ≡ None
unfolding request_of command_of response_of
no_such_packet = refl

deliveries_of_it : replies long in_turn 0 ≡ Some 2 ∷ Some 1 ∷ Some 0 ∷ Some 0 ∷ Some 1 ∷ []
unfolding request_of command_of response_of
deliveries_of_it = refl

-- a lost packet, and two that came in the other order
second_is_lost : reply_expected long (at 1 (Reply 0 0) ∷ asked) 0 2 ≡ Some (Dropped OutOfSequence)
unfolding request_of command_of response_of
second_is_lost = refl

after_the_loss : reply_expected long (at 2 (Reply 2 0) ∷ at 1 (Reply 0 0) ∷ asked) 0 3 ≡ Some (Dropped UnexpectedMiddleOrEnd)
unfolding request_of command_of response_of
after_the_loss = refl

other_order : taken long (at 4 (Reply 3 0) ∷ at 3 (Reply 1 0) ∷ at 2 (Reply 2 0) ∷ at 1 (Reply 0 0) ∷ asked) 0 ≡ false
unfolding request_of command_of response_of
other_order = refl

no_reply_before_it_arrives : reply_expected long (at 0 (open_for 8 GetPdrRepositoryInfo) ∷ []) 0 0 ≡ None
unfolding request_of command_of response_of
no_reply_before_it_arrives = refl

nothing_to_a_number_that_was_never_opened : reply_expected long asked 1 0 ≡ None
unfolding request_of command_of response_of
nothing_to_a_number_that_was_never_opened = refl

-- ---- a light at endpoint 9, which keeps answers for a second
abbrev light : BothEnds ℤ
light = record {
  device = rules_of light_answer light_after light_sensed;
  start = pos 10;
  eid = 9;
  keep = 1000;
  window = 32;
  requesters = record { eid = 8; timeout = 200; tries = 5 } ∷ [];
  pace = at_default 1000;
}

abbrev set_40 : Action
set_40 = open_for 8 (SetNumericEffecterValue 1 (sized Uint8 (pos 40)))

abbrev a_retry : List Step
a_retry = at 210 (Reply 0 0) ∷ at 200 (Request 0) ∷ at 200 (Tick 8) ∷ at 0 (Request 0) ∷ at 0 set_40 ∷ []

abbrev after_restart : List Step
after_restart =
    at 210 (Busy 0) ∷ at 200 (Request 0) ∷ at 200 (Tick 8) ∷ at 100 Restart ∷ at 0 (Request 0) ∷ at 0 set_40 ∷ []

-- a retry, a late copy of its answer, and a restart with a busy answer
retry_is_taken : taken light a_retry 0 ≡ true
unfolding request_of command_of response_of
retry_is_taken = refl

answer_of_it : reply_expected light (drop 1 a_retry) 0 0 ≡ Some (Answered 0)
unfolding request_of command_of response_of
answer_of_it = refl

answer_again : reply_expected light a_retry 0 0 ≡ Some (Dropped BadTag)
unfolding request_of command_of response_of
answer_again = refl

busy_answer : busy_expected light (drop 1 after_restart) 0 ≡ Some (Dropped NotReady)
unfolding request_of command_of response_of
busy_answer = refl

busy_answer_is_none_before : busy_expected light (drop 2 after_restart) 0 ≡ None
unfolding request_of command_of response_of
busy_answer_is_none_before = refl

busy_is_reported : replies light after_restart 0 ≡ None ∷ []
unfolding request_of command_of response_of
busy_is_reported = refl

reply_after_it : reply_expected light after_restart 0 0 ≡ Some (Answered 0)
unfolding request_of command_of response_of
reply_after_it = refl

busy_answer_afterwards : busy_expected light (at 220 (Reply 0 0) ∷ after_restart) 0 ≡ Some (Dropped BadTag)
unfolding request_of command_of response_of
busy_answer_afterwards = refl

-- ---- a busy answer ends a row of packets
abbrev cut_by_busy : List Step
cut_by_busy =
    at 210 (Reply 2 0) ∷ at 209 (Busy 0) ∷ at 200 (Request 0) ∷ at 100 Restart ∷ at 5 (Reply 1 0) ∷ at 4 (Reply 0 0) ∷ asked

row_is_cut : reply_expected long (drop 1 cut_by_busy) 0 2 ≡ Some (Dropped UnexpectedMiddleOrEnd)
unfolding request_of command_of response_of
row_is_cut = refl

cut_row_is_not_taken : taken long (at 211 (Reply 3 0) ∷ cut_by_busy) 0 ≡ false
unfolding request_of command_of response_of
cut_row_is_not_taken = refl

-- ---- one packet, and the same one again
abbrev tid_asked : List Step
tid_asked = at 0 (Request 0) ∷ at 0 (open_for 8 GetTid) ∷ []

abbrev progress : {S : Type 0} → BothEnds S → List Step → ℕ → Progress
progress setting steps n = ((requests_of setting (world setting steps) 8).each n).course.progress

tid_comes : reply_expected long tid_asked 0 0 ≡ Some (Answered 0)
unfolding request_of command_of response_of
tid_comes = refl

tid_comes_again : reply_expected long (at 0 (Reply 0 0) ∷ tid_asked) 0 0 ≡ Some (Dropped BadTag)
unfolding request_of command_of response_of
tid_comes_again = refl

tid_is_taken : progress long (at 600 (Tick 8) ∷ at 0 (Reply 0 0) ∷ at 0 (Reply 0 0) ∷ tid_asked) 0 ≡ progresses.Answered (1 ∷ 0 ∷ 0 ∷ 2 ∷ 0 ∷ 1 ∷ [])
unfolding request_of command_of response_of
tid_is_taken = refl

-- ---- a gauge: a copy gets the reading of its first arrival, a new request the one after a change
abbrev gauge_answer : ℤ → Command → Answer
gauge_answer level command = answers.GetSensorReading 0 0 1 1 1 (sized Uint8 level)

abbrev gauge : BothEnds ℤ
gauge = record {
  device = rules_of gauge_answer (λ level command. level) light_sensed;
  start = pos 40;
  eid = 9;
  keep = 1000;
  window = 32;
  requesters = record { eid = 8; timeout = 200; tries = 3 } ∷ [];
  pace = at_default 1000;
}

abbrev two_readings : List Step
two_readings =
    at 10 (Request 1) ∷ at 10 (open_for 8 (GetSensorReading 1 0)) ∷ at 10 (Request 0) ∷ at 5 (Sense 1 (pos 41)) ∷ at 0 (Request 0)
    ∷ at 0 (open_for 8 (GetSensorReading 1 0)) ∷ []

abbrev reading_of_first : List ℕ
reading_of_first = 1 ∷ 0 ∷ 2 ∷ 17 ∷ 0 ∷ 0 ∷ 0 ∷ 0 ∷ 1 ∷ 1 ∷ 1 ∷ 40 ∷ []

abbrev reading_of_second : List ℕ
reading_of_second = 1 ∷ 1 ∷ 2 ∷ 17 ∷ 0 ∷ 0 ∷ 0 ∷ 0 ∷ 1 ∷ 1 ∷ 1 ∷ 41 ∷ []

first_reading : reply_expected gauge two_readings 0 0 ≡ Some (Answered 0)
unfolding request_of command_of response_of
first_reading = refl

second_reading : reply_expected gauge (at 20 (Reply 0 0) ∷ two_readings) 1 0 ≡ Some (Answered 1)
unfolding request_of command_of response_of
second_reading = refl

first_reply : reply_of gauge (world gauge two_readings) 0 ≡ reading_of_first
unfolding request_of command_of response_of
first_reply = refl

first_stands : progress gauge (at 20 (Reply 0 1) ∷ at 20 (Reply 0 0) ∷ two_readings) 0 ≡ progresses.Answered reading_of_first
unfolding request_of command_of response_of
first_stands = refl

second_stands : progress gauge (at 20 (Reply 0 1) ∷ at 20 (Reply 0 0) ∷ two_readings) 1 ≡ progresses.Answered reading_of_second
unfolding request_of command_of response_of
second_stands = refl

-- ---- busy from the first on: no busy answer was given yet, then two, and the request is performed once the time is
-- over
abbrev opened_busy : List Step
opened_busy = at 500 set_40 ∷ at 0 Restart ∷ []

abbrev served_later : List Step
served_later =
    at 1000 (Request 0) ∷ at 999 (Request 0) ∷ at 500 (Request 0) ∷ at 500 (Busy 0) ∷ opened_busy

nothing_given_yet : busy_expected light opened_busy 0 ≡ None
unfolding request_of command_of response_of
nothing_given_yet = refl

busy_is_no_reply : reply_expected light (drop 1 served_later) 0 0 ≡ None
unfolding request_of command_of response_of
busy_is_no_reply = refl

served_at_last : reply_expected light served_later 0 0 ≡ Some (Answered 0)
unfolding request_of command_of response_of
served_at_last = refl

-- ---- the requesters give what is expected
fourth_is_given : got_of_reply long (world long in_turn) 0 3 ≡ Some (Answered 0)
unfolding request_of command_of response_of
fourth_is_given = refl

late_is_given : got_of_reply long (world long (at 6 (Reply 3 0) ∷ in_turn)) 0 3 ≡ Some (Dropped BadTag)
unfolding request_of command_of response_of
late_is_given = refl

busy_is_given : got_of_busy light (world light (drop 1 after_restart)) 0 ≡ Some (Dropped NotReady)
unfolding request_of command_of response_of
busy_is_given = refl
