-- Worked schedules over the example device, computed from what the headline owes: the entries, the requests that
-- arrived in the order of their first arrivals, the device's state and the one reply of a request. One that is not
-- timely is computed from the definitions of both ends. The newest step stands first.
use Rattle.std.proofs.Common.{◌≡◌, ℕ, pos, List, [], ◌∷◌, ◌++◌, map, Some, None, true, false, Bool, Ok, ◌+◌, replicate, refl}
use Rattle.pldm_wire.specs.declared.restart_policy.RestartPolicy.TheVariants.{All}
use Rattle.mctp_packet.specs.declared.reason.Reason.TheVariants.{UnexpectedMiddleOrEnd, BadTag, NotReady}
use Rattle.pldm_wire.specs.CommandReading.{command_of}
use Rattle.pldm_wire.specs.Requests.{request_of}
use Rattle.pldm_wire.specs.Responses.{response_of}
use Rattle.pldm_wire.specs.declared.command.Command.TheVariants.{GetTid, GetPdr, GetSensorReading}
use Rattle.simulated_device.specs.Devices.{Device}
use Rattle.pldm_requester.specs.Courses.{Waiting}
use Rattle.pldm_requester.specs.declared.results.Got.TheVariants as got
use Rattle.pldm_responder.specs.Performing.{performed}
use Rattle.pldm_responder.specs.declared.outcome.Outcome.TheVariants.{Answered}
use Rattle.mctp_schedule.specs.Entries.{entries, requests_after}
use Rattle.mctp_schedule.specs.FirstArrivals.{firsts, order}
use Rattle.mctp_schedule.specs.Headline.{entries_expected, state_once}
use Rattle.mctp_schedule.specs.Logs.{reached}
use Rattle.mctp_schedule.specs.Requests.{Request as EndedRequest}
use Rattle.mctp_schedule.specs.TakenReplies.{reply_of, reply_expected, taken}
use Rattle.mctp_schedule.specs.Worlds.{BothEnds, is_timely, world}
use Rattle.mctp_schedule.specs.declared.entry.Entry.{Entry}
use Rattle.mctp_schedule.specs.declared.entry.Entry.TheVariants.{Nothing, Opened, Due, Delivered, Received, Sensed, Restarted}
use Rattle.mctp_schedule.specs.Actions.{Action}
use Rattle.mctp_schedule.specs.Actions.{open_for, Tick, Request, Reply, Sense, Restart, Busy}
use Rattle.mctp_schedule.specs.Actions.{Step}
use Rattle.mctp_schedule.proofs.ExampleDevice.{at, set_to, with_tries, with_values}

abbrev setting : BothEnds Device
setting = with_tries 3 3

-- entries in short
abbrev fresh : Bool → List ℕ → Entry
fresh changed packet = Delivered false (Answered true changed (packet ∷ []))

abbrev copy : List ℕ → Entry
copy packet = Delivered false (Answered false false (packet ∷ []))

abbrev busy : List ℕ → Entry
busy packet = Delivered true (Answered false false (packet ∷ []))

abbrev again : List ℕ → Entry
again numbers = Due (record { again = record { items = numbers }; given_up = record { items = [] } })

abbrev gave_up : List ℕ → Entry
gave_up numbers = Due (record { again = record { items = [] }; given_up = record { items = numbers } })

-- ---- a retry: the copy is not performed, and has the same answer
abbrev a_retry : List Step
a_retry = at 210 (Reply 0 0) ∷ at 200 (Request 0) ∷ at 200 (Tick 8) ∷ at 0 (Request 0) ∷ at 0 (set_to 8 (pos 40)) ∷ []

abbrev done : List ℕ
done = 0x01 ∷ 0x08 ∷ 0x09 ∷ 0xc0 ∷ 0x01 ∷ 0x00 ∷ 0x02 ∷ 0x31 ∷ 0x00 ∷ []

retry_entries : entries_expected setting a_retry ≡ Opened 0 ∷ fresh true done ∷ again (0 ∷ []) ∷ copy done ∷ Received (got.Answered 0) ∷ []
unfolding request_of command_of response_of
retry_entries = refl

retry_order : firsts Device 1000 (world setting a_retry).log ≡ 0 ∷ []
unfolding request_of command_of response_of
retry_order = refl

retry_state : state_once setting a_retry ≡ with_values (pos 40) (pos 40)
unfolding request_of command_of response_of
retry_state = refl

retry_reply : reply_of setting (world setting a_retry) 0 ≡ 0x01 ∷ 0x00 ∷ 0x02 ∷ 0x31 ∷ 0x00 ∷ []
unfolding request_of command_of response_of
retry_reply = refl

-- ---- a reading between a request and its copy: the copy has the answer of before
abbrev a_reading : List Step
a_reading =
    at 20 (Reply 0 1) ∷ at 20 (Reply 0 0) ∷ at 10 (Request 1) ∷ at 10 (open_for 8 (GetSensorReading 1 0)) ∷ at 10 (Request 0)
    ∷ at 5 (Sense 1 (pos 41)) ∷ at 0 (Request 0) ∷ at 0 (open_for 8 (GetSensorReading 1 0)) ∷ []

abbrev reading_message : ℕ → ℕ → List ℕ
reading_message id value =
    0x01 ∷ id ∷ 0x02 ∷ 0x11 ∷ 0x00 ∷ 0x00 ∷ 0x00 ∷ 0x00 ∷ 0x01 ∷ 0x01 ∷ 0x01 ∷ value ∷ []

abbrev reading_packet : ℕ → ℕ → List ℕ
reading_packet id value = 0x01 ∷ 0x08 ∷ 0x09 ∷ (0xc0 + id) ∷ reading_message id value

reading_entries : entries_expected setting a_reading ≡ Opened 0 ∷ fresh false (reading_packet 0 0x28) ∷ Sensed (Ok tt)
    ∷ copy (reading_packet 0 0x28) ∷ Opened 1 ∷ fresh false (reading_packet 1 0x29) ∷ Received (got.Answered 0)
    ∷ Received (got.Answered 1) ∷ []
unfolding request_of command_of response_of
reading_entries = refl

reading_order : firsts Device 1000 (world setting a_reading).log ≡ 0 ∷ 1 ∷ []
unfolding request_of command_of response_of
reading_order = refl

reading_state : state_once setting a_reading ≡ with_values (pos 41) (pos 10)
unfolding request_of command_of response_of
reading_state = refl

reading_replies : map (reply_of setting (world setting a_reading)) (0 ∷ 1 ∷ []) ≡ reading_message 0 0x28 ∷ reading_message 1 0x29 ∷ []
unfolding request_of command_of response_of
reading_replies = refl

-- ---- two requesters set one effecter: performed in the order of arrival, and a copy of the first one changes nothing
abbrev two_of_them : List Step
two_of_them =
    at 0 (Request 2) ∷ at 0 (Request 1) ∷ at 0 (Request 0) ∷ at 0 (Request 1)
    ∷ at 0 (set_to 10 (pos 50)) ∷ at 0 (set_to 8 (pos 40)) ∷ []

abbrev done_to : ℕ → List ℕ
done_to e = 0x01 ∷ e ∷ 0x09 ∷ 0xc0 ∷ 0x01 ∷ 0x00 ∷ 0x02 ∷ 0x31 ∷ 0x00 ∷ []

two_entries : entries_expected setting two_of_them
    ≡ Opened 0 ∷ Opened 1 ∷ fresh true (done_to 10) ∷ fresh true (done_to 8) ∷ copy (done_to 10) ∷ Nothing ∷ []
unfolding request_of command_of response_of
two_entries = refl

two_order : firsts Device 1000 (world setting two_of_them).log ≡ 1 ∷ 0 ∷ []
unfolding request_of command_of response_of
two_order = refl

two_state : state_once setting two_of_them ≡ with_values (pos 40) (pos 40)
unfolding request_of command_of response_of
two_state = refl

-- ---- an answer that comes twice is taken once
abbrev twice_answered : List Step
twice_answered = at 600 (Tick 8) ∷ at 0 (Reply 0 0) ∷ at 0 (Reply 0 0) ∷ at 0 (Request 0) ∷ at 0 (open_for 8 GetTid) ∷ []

twice_entries : entries_expected setting twice_answered
    ≡ Opened 0 ∷ fresh false (0x01 ∷ 0x08 ∷ 0x09 ∷ 0xc0 ∷ 0x01 ∷ 0x00 ∷ 0x00 ∷ 0x02 ∷ 0x00 ∷ 0x01 ∷ []) ∷ Received (got.Answered 0)
    ∷ Received (got.Dropped BadTag) ∷ again [] ∷ []
unfolding request_of command_of response_of
twice_entries = refl

-- ---- a restart: the copy after it is not performed, and the answer of before is still taken
abbrev a_restart : List Step
a_restart =
    at 220 (Reply 0 0) ∷ at 210 (Busy 0) ∷ at 200 (Request 0) ∷ at 200 (Tick 8) ∷ at 100 Restart ∷ at 0 (Request 0)
    ∷ at 0 (set_to 8 (pos 40)) ∷ []

abbrev not_ready : List ℕ
not_ready = 0x01 ∷ 0x08 ∷ 0x09 ∷ 0xc0 ∷ 0x01 ∷ 0x00 ∷ 0x02 ∷ 0x31 ∷ 0x04 ∷ []

restart_entries : entries_expected (with_tries 5 3) a_restart
    ≡ Opened 0 ∷ fresh true done ∷ Restarted ∷ again (0 ∷ []) ∷ busy not_ready ∷ Received (got.Dropped NotReady)
    ∷ Received (got.Answered 0) ∷ []
unfolding request_of command_of response_of
restart_entries = refl

restart_state : state_once (with_tries 5 3) a_restart ≡ with_values (pos 40) (pos 40)
unfolding request_of command_of response_of
restart_state = refl

-- ---- an answer of four packets: what each delivery of them gives, where they come out of order and again
abbrev of_four : List Step
of_four = at 0 (Request 0) ∷ at 0 (open_for 8 (GetPdr 0 0 1 239 0)) ∷ []

abbrev replies_after : List ℕ → List Step
replies_after [] = of_four
replies_after (j ∷ earlier) = at 0 (Reply j 0) ∷ replies_after earlier

four_reply : reply_of setting (world setting of_four) 0
    ≡ (0x01 ∷ 0x00 ∷ 0x02 ∷ 0x51 ∷ 0x00 ∷ 0x00 ∷ 0x00 ∷ 0x00 ∷ 0x00 ∷ 0xef ∷ 0x00 ∷ 0x00 ∷ 0x00 ∷ 0x00 ∷ 0xef ∷ 0x00
    ∷ 0x01 ∷ 0x00 ∷ 0x00 ∷ 0x00 ∷ 0x01 ∷ 0x01 ∷ 0x00 ∷ 0x00 ∷ 0x22 ∷ 0x01 ∷ []) ++ replicate 229 0
unfolding request_of command_of response_of
four_reply = refl

four_early : reply_expected setting of_four 0 1 ≡ Some (got.Dropped UnexpectedMiddleOrEnd)
unfolding request_of command_of response_of
four_early = refl

four_parts : (reply_expected setting (replies_after (1 ∷ [])) 0 0 ≡ Some got.Partial)
    × (reply_expected setting (replies_after (0 ∷ 1 ∷ [])) 0 0 ≡ Some got.Partial)
    × (reply_expected setting (replies_after (0 ∷ 0 ∷ 1 ∷ [])) 0 1 ≡ Some got.Partial)
    × (reply_expected setting (replies_after (1 ∷ 0 ∷ 0 ∷ 1 ∷ [])) 0 2 ≡ Some got.Partial)
unfolding request_of command_of response_of
four_parts = (refl, refl, refl, refl)

four_answered : (reply_expected setting (replies_after (2 ∷ 1 ∷ 0 ∷ 0 ∷ 1 ∷ [])) 0 3 ≡ Some (got.Answered 0))
    × (reply_expected setting (replies_after (3 ∷ 2 ∷ 1 ∷ 0 ∷ 0 ∷ 1 ∷ [])) 0 3 ≡ Some (got.Dropped BadTag))
    × (reply_expected setting (replies_after (3 ∷ 3 ∷ 2 ∷ 1 ∷ 0 ∷ 0 ∷ 1 ∷ [])) 0 4 ≡ None)
unfolding request_of command_of response_of
four_answered = (refl, refl, refl)

-- ---- a tag that is used again: a part of the first answer came before its request was given up, and is no part of the
-- later one
abbrev ask_for_record : Action
ask_for_record = open_for 8 (GetPdr 0 0 1 65535 0)

abbrev seven_opens : List Step → List Step
seven_opens past =
    at 600 (open_for 8 GetTid) ∷ at 600 (open_for 8 GetTid) ∷ at 600 (open_for 8 GetTid) ∷ at 600 (open_for 8 GetTid) ∷ at 600 (open_for 8 GetTid)
    ∷ at 600 (open_for 8 GetTid) ∷ at 600 (open_for 8 GetTid) ∷ past

abbrev tag_used_again : List Step
tag_used_again =
    at 620 (Reply 4 8) ∷ at 620 (Reply 3 8) ∷ at 620 (Reply 2 8) ∷ at 620 (Reply 1 8) ∷ at 620 (Reply 0 8)
    ∷ at 610 (Reply 1 8) ∷ at 600 (Request 8)
    ∷ at 600 ask_for_record
    ∷ seven_opens (at 600 (Tick 8) ∷ at 0 (Reply 0 0) ∷ at 0 (Request 0) ∷ at 0 ask_for_record ∷ [])

abbrev record_packets : ℕ → List (List ℕ)
record_packets id =
    ((0x01 ∷ 0x08 ∷ 0x09 ∷ 0x80 ∷ 0x01 ∷ id ∷ 0x02 ∷ 0x51 ∷ 0x00 ∷ 0x00 ∷ 0x00 ∷ 0x00 ∷ 0x00 ∷ 0x00 ∷ 0x00 ∷ 0x00 ∷ 0x00
    ∷ 0x05 ∷ 0x2c ∷ 0x01 ∷ 0x01 ∷ 0x00 ∷ 0x00 ∷ 0x00 ∷ 0x01 ∷ 0x01 ∷ 0x00 ∷ 0x00 ∷ 0x22 ∷ 0x01 ∷ []) ++ replicate 38 0)
    ∷ (0x01 ∷ 0x08 ∷ 0x09 ∷ 0x10 ∷ replicate 64 0)
    ∷ (0x01 ∷ 0x08 ∷ 0x09 ∷ 0x20 ∷ replicate 64 0)
    ∷ (0x01 ∷ 0x08 ∷ 0x09 ∷ 0x30 ∷ replicate 64 0)
    ∷ (0x01 ∷ 0x08 ∷ 0x09 ∷ 0x40 ∷ replicate 60 0)
    ∷ []

tag_used_again_entries : entries_expected setting tag_used_again
    ≡ Opened 0 ∷ Delivered false (Answered true false (record_packets 0)) ∷ Received got.Partial ∷ gave_up (0 ∷ []) ∷ Opened 1
    ∷ Opened 2 ∷ Opened 3 ∷ Opened 4 ∷ Opened 5 ∷ Opened 6 ∷ Opened 7 ∷ Opened 8
    ∷ Delivered false (Answered true false (record_packets 8)) ∷ Received (got.Dropped UnexpectedMiddleOrEnd)
    ∷ Received got.Partial ∷ Received got.Partial ∷ Received got.Partial ∷ Received got.Partial
    ∷ Received (got.Answered 8) ∷ []
unfolding request_of command_of response_of
tag_used_again_entries = refl

tag_used_again_taken : (taken setting tag_used_again 0 ≡ false) × (taken setting tag_used_again 8 ≡ true)
unfolding request_of command_of response_of
tag_used_again_taken = (refl, refl)

tag_used_again_is_timely : is_timely setting tag_used_again ≡ true
unfolding request_of command_of response_of
tag_used_again_is_timely = refl

-- ---- a copy that comes the keeping time after its opening is performed again: the schedule is not timely
abbrev untimely : List Step
untimely = at 1000 (Request 0) ∷ at 0 (Request 0) ∷ at 0 (set_to 8 (pos 40)) ∷ []

untimely_entries : entries setting untimely ≡ Opened 0 ∷ fresh true done ∷ fresh true done ∷ []
unfolding request_of command_of response_of
untimely_entries = refl

untimely_requests : map (λ (r : EndedRequest). r.progress) (requests_after setting (world setting untimely)) ≡ Waiting ∷ []
unfolding request_of command_of response_of
untimely_requests = refl

untimely_order : order Device 32 1000 (world setting untimely).log ≡ 0 ∷ 0 ∷ []
unfolding request_of command_of response_of
untimely_order = refl

untimely_state : performed setting.device All 32 1000 setting.start (reached (world setting untimely).log) ≡ with_values (pos 40) (pos 40)
unfolding request_of command_of response_of
untimely_state = refl

untimely_is_reported : is_timely setting untimely ≡ false
unfolding request_of command_of response_of
untimely_is_reported = refl
