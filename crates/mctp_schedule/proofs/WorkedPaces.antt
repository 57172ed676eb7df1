-- The premises of the headline are met, at a pace at which an instance ID is used again long before twice the keeping
-- time has passed: request 32, of the bytes of request 0, is performed as one of its own. The device counts what it
-- performs. The newest step stands first.
use Rattle.std.proofs.Common.{◌≡◌, ℕ, zero, suc, List, [], ◌∷◌, Err, true, false, refl, inl, arith}
use Rattle.pldm_platform.specs.declared.platform.ReadingFault.TheVariants.{NoSuchSensor}
use Rattle.pldm_requester.specs.Courses.{Answered}
use Rattle.pldm_responder.specs.Performing.{Rules, rules_of}
use Rattle.pldm_wire.specs.CommandReading.{command_of}
use Rattle.pldm_wire.specs.Requests.{request_of}
use Rattle.pldm_wire.specs.Responses.{response_of}
use Rattle.pldm_wire.specs.declared.answer.Answer.TheVariants as answers
use Rattle.pldm_wire.specs.declared.command.Command.TheVariants.{GetTid}
use Rattle.mctp_schedule.specs.Headline.{state_once}
use Rattle.mctp_schedule.specs.RequesterHalf.{IsTimelySchedule}
use Rattle.mctp_schedule.specs.Worlds.{BothEnds, is_timely, requests_of, world}
use Rattle.mctp_schedule.specs.Actions.{Action}
use Rattle.mctp_schedule.specs.Actions.{open_for, Tick, Reply, Request}
use Rattle.mctp_schedule.specs.Actions.{Step}
use Rattle.mctp_schedule.proofs.PremiseTests.{all_fit, all_from_requesters, all_rest, are_of_kinds, are_rested, goes_on, never_went_back, replies_fit, sources_of}
use Rattle.mctp_schedule.proofs.TimelyTests.{timely_is_tested}

-- it tells how many commands it has performed
abbrev counting : Rules ℕ
counting = rules_of (λ count command. answers.GetTid count) (λ count command. suc count) (λ count id value. Err NoSuchSensor)

-- it keeps the answer to one instance ID, and a packet comes within 10 ms
abbrev paced : BothEnds ℕ
paced = record {
  device = counting;
  start = 0;
  eid = 9;
  keep = 1000;
  window = 1;
  requesters = record { eid = 8; timeout = 5; tries = 2 } ∷ [];
  pace = record { lifetime = 10; window = 1; spread = false; brief = false };
}

abbrev at : ℕ → Action → Step
at moment action = record { moment = moment; action = action }

abbrev opens : ℕ → ℕ → List Step → List Step
opens moment zero past = past
opens moment (suc n) past = at moment (open_for 8 GetTid) ∷ opens moment n past

-- what is open is given up, and all tags are used again
abbrev round : ℕ → List Step → List Step
round moment past = opens moment 8 (at moment (Tick 8) ∷ past)

-- request 0 comes, and is not answered; of the 31 after it the last one is; then its instance ID is free
abbrev steps : List Step
steps =
    at 42 (Reply 0 32) ∷ at 41 (Request 32) ∷ at 40 (open_for 8 GetTid) ∷ at 40 (Tick 8)
    ∷ at 32 (Reply 0 31) ∷ at 31 (Request 31) ∷ round 30 (round 20 (round 10 (at 1 (Request 0) ∷ round 0 [])))

all_opened : (requests_of paced (world paced steps) 8).count ≡ 33
unfolding request_of command_of response_of
all_opened = refl

own_answer : ((requests_of paced (world paced steps) 8).each 32).course.progress ≡ Answered (0x01 ∷ 0x00 ∷ 0x00 ∷ 0x02 ∷ 0x00 ∷ 0x02 ∷ [])
unfolding request_of command_of response_of
own_answer = refl

each_once : state_once paced steps ≡ 3
unfolding request_of command_of response_of
each_once = refl

in_time : is_timely paced steps ≡ true
unfolding request_of command_of response_of
in_time = refl

goes : goes_on steps ≡ true
goes = refl

sources : all_from_requesters 9 (world paced steps).log ≡ true
unfolding request_of command_of response_of
sources = refl

fit : all_fit counting 1 1000 0 (world paced steps).log ≡ true
unfolding request_of command_of response_of
fit = refl

rested : all_rest 1000 (world paced steps).log ≡ true
unfolding request_of command_of response_of
rested = refl

pub is_met : IsTimelySchedule paced steps
is_met = record {
  order = never_went_back steps goes;
  timely = (timely_is_tested paced steps).0 in_time;
  sound = record {
    device = (omega arith, omega arith);
    sources = sources_of 9 (world paced steps).log sources;
    fit = replies_fit counting 1 1000 0 (world paced steps).log fit;
    pace = record { within = omega arith; window = inl (omega arith) };
    asks = are_of_kinds steps refl;
    rested = are_rested 1000 (world paced steps).log rested;
  };
}
