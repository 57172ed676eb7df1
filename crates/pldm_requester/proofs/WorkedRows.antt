-- Requester 8 and its device 9, with a keeping time of 1000, a timeout of 200 and 3 tries: what a few calls give,
-- computed from the definitions. And the premises can be met.
use Rattle.std.specs.FinMap as map
use Rattle.std.proofs.Common.{◌≡◌, ℕ, true, false, List, [], ◌∷◌, Some, None, Ok, Err, refl, sym, arith, lit≤}
use Rattle.std.specs.Prelude.{Bool, ◌==◌, nat_lt, nat_le, if◌then◌else◌}
use Rattle.std.proofs.lemmas.Bool.{and_left, cond-false, le-ltb}
use Rattle.mctp_packet.specs.declared.reason.Reason.TheVariants.{BadTag, NotResponse, NotMine, NotReady}
use Rattle.mctp_assembly.specs.Keys.{key_cmp}
use Rattle.pldm_wire.specs.Responses.{response_of}
use Rattle.pldm_wire.specs.declared.command.Command.TheVariants.{GetTid}
use Rattle.pldm_requester.specs.Calls.{Call, Open, Tick, Receive, Requests, is_tag_in_use, is_id_in_use, is_open_at, open_answer, open_on, requests, open_expected, again_expected, given_up_expected, got_expected}
use Rattle.pldm_requester.specs.Courses.{Answered, GaveUp}
use Rattle.pldm_requester.specs.Laws.{IsLeftBy, IsInOrder}
use Rattle.pldm_requester.specs.Asks.{ask_of}
use Rattle.pldm_requester.specs.Numbering.{packets_of}
use Rattle.pldm_requester.specs.Pacing.{at_default, pace_fault, stride}
use Rattle.pldm_requester.specs.Slots.{AreSlots}
use Rattle.pldm_requester.specs.Steps.{RequesterState, IsHeld, held_at_first, is_recent, ticked_held}
use Rattle.pldm_requester.specs.Timings.{timing_fault}
use Rattle.pldm_requester.specs.declared.results.Got.TheVariants as got
use Rattle.pldm_requester.specs.declared.results.OpenFault.TheVariants.{TagInUse, IdInUse}
use Rattle.pldm_requester.specs.declared.pace.Pace.{Pace}
use Rattle.pldm_requester.specs.declared.pace.PaceFault.TheVariants.{NoLifetime, LongLifetime, TooLate as TooLong, Window}
use Rattle.pldm_requester.specs.declared.timing.Timing.{Timing}
use Rattle.pldm_requester.specs.declared.timing.TimingFault.TheVariants.{Timeout, Tries, TooLate, SameEid}
use Rattle.pldm_requester.proofs.CallsLookBack.{tick_looks_back}

abbrev with_times : ℕ → ℕ → Timing
with_times timeout tries = record { keep = 1000; timeout = timeout; tries = tries }

abbrev timing : Timing
timing = with_times 200 3

abbrev pace : Pace
pace = at_default 1000

-- ---- timings
no_timeout : timing_fault 8 9 (with_times 0 9) ≡ Some Timeout
no_timeout = refl

no_tries : timing_fault 8 9 (with_times 200 0) ≡ Some Tries
no_tries = refl

too_many_tries : timing_fault 8 9 (with_times 200 9) ≡ Some Tries
too_many_tries = refl

tries_longer_than_the_keeping_time : timing_fault 8 9 (with_times 334 3) ≡ Some TooLate
tries_longer_than_the_keeping_time = refl

tries_as_long_as_the_keeping_time : timing_fault 8 9 (with_times 250 4) ≡ None
tries_as_long_as_the_keeping_time = refl

own_endpoint : timing_fault 9 9 timing ≡ Some SameEid
own_endpoint = refl

-- ---- opens
abbrev one : List Call
one = Open 0 GetTid ∷ []

its_packet : packets_of 8 9 0 GetTid ≡ (1 ∷ 9 ∷ 8 ∷ 200 ∷ 1 ∷ 128 ∷ 0 ∷ 2 ∷ []) ∷ []
its_packet = refl

eight_open : open_expected 8 9 timing pace (Open 0 GetTid ∷ Open 0 GetTid ∷ Open 0 GetTid ∷ Open 0 GetTid ∷ Open 0 GetTid ∷ Open 0 GetTid ∷ Open 0 GetTid ∷ one) 0 ≡ Err TagInUse
eight_open = refl

-- 32 requests that were opened at 0, and answered
abbrev all_answered : Requests
all_answered = record {
  count = 32;
  each = λ n. record { ask = ask_of GetTid; course = record { opening = 0; last_sent = 0; progress = Answered [] }; fed = [] };
}

before_twice_the_keeping_time : open_answer (is_tag_in_use all_answered) (is_id_in_use 1000 pace all_answered 1999) 32 ≡ Err IdInUse
before_twice_the_keeping_time = refl

at_twice_the_keeping_time : open_answer (is_tag_in_use all_answered) (is_id_in_use 1000 pace all_answered 2000) 32 ≡ Ok (record { number = 32; id = 0; tag = 0 })
at_twice_the_keeping_time = refl

-- the first of 32 was opened at 0 and the others at this moment, and so many of those were answered
abbrev answered_since : ℕ → ℕ → Requests
answered_since opening answered = record {
  count = 32;
  each = λ n. record {
    ask = ask_of GetTid;
    course = record {
      opening = if n == 0 then 0 else opening;
      last_sent = 0;
      progress = if nat_le n answered then Answered [] else GaveUp;
    };
    fed = [];
  };
}

-- a line that loses or delivers within 100 ms, and a device that keeps answers for 4 instance IDs
abbrev fast : Pace
fast = record { lifetime = 100; window = 4; spread = false; brief = false }

abbrev id_in_use : Requests → ℕ → Bool
id_in_use a moment = is_id_in_use 1000 fast a moment

-- twice the lifetime has passed, and the device has performed 4 others since
freed_by_four_answers : id_in_use (answered_since 100 4) 200 ≡ false
freed_by_four_answers = refl

not_freed_by_three : id_in_use (answered_since 100 3) 1999 ≡ true
not_freed_by_three = refl

not_freed_by_those_opened_before : id_in_use (answered_since 99 31) 1999 ≡ true
not_freed_by_those_opened_before = refl

not_freed_before_twice_the_lifetime : id_in_use (answered_since 100 31) 199 ≡ true
not_freed_before_twice_the_lifetime = refl

freed_by_time : id_in_use (answered_since 100 0) 2000 ≡ false
freed_by_time = refl

-- spread over a lifetime: at most 16 requests, and fewer where the window leaves fewer
abbrev spread_fast : ℕ → Pace
spread_fast window = record { lifetime = 100; window = window; spread = true; brief = false }

strides : (stride fast ∷ stride (spread_fast 4) ∷ stride (spread_fast 16) ∷ stride (spread_fast 24) ∷ stride (spread_fast 32) ∷ []) ≡ 0 ∷ 16 ∷ 16 ∷ 8 ∷ 0 ∷ []
strides = refl

-- the 16 last ones were opened at 150: the next one waits until 250
spread_waits : is_id_in_use 1000 (spread_fast 4) (answered_since 150 31) 249 ≡ true
spread_waits = refl

spread_goes_on : is_id_in_use 1000 (spread_fast 4) (answered_since 150 31) 250 ≡ false
spread_goes_on = refl

-- ---- paces, with 3 tries of 200 ms each
abbrev with_lifetime : ℕ → ℕ → Pace
with_lifetime lifetime window = record { lifetime = lifetime; window = window; spread = false; brief = false }

no_lifetime : pace_fault timing (with_lifetime 0 33) ≡ Some NoLifetime
no_lifetime = refl

lifetime_longer_than_the_keeping_time : pace_fault timing (with_lifetime 1001 33) ≡ Some LongLifetime
lifetime_longer_than_the_keeping_time = refl

tries_longer_than_the_lifetime : pace_fault timing (with_lifetime 599 33) ≡ Some TooLong
tries_longer_than_the_lifetime = refl

no_window : pace_fault timing (with_lifetime 600 0) ≡ Some Window
no_window = refl

window_of_33 : pace_fault timing (with_lifetime 600 33) ≡ Some Window
window_of_33 = refl

tries_as_long_as_the_lifetime : pace_fault timing (with_lifetime 600 1) ≡ None
tries_as_long_as_the_lifetime = refl

the_default : pace_fault timing pace ≡ None
the_default = refl

-- ---- ticks
before_the_timeout : again_expected 8 9 timing pace one 199 ≡ []
before_the_timeout = refl

at_the_timeout : again_expected 8 9 timing pace one 200 ≡ 0 ∷ []
at_the_timeout = refl

again_at_the_next_timeout : again_expected 8 9 timing pace (Tick 399 ∷ Tick 200 ∷ one) 400 ≡ 0 ∷ []
again_at_the_next_timeout = refl

not_before_the_next_timeout : again_expected 8 9 timing pace (Tick 200 ∷ one) 399 ≡ []
not_before_the_next_timeout = refl

not_given_up_before_all_tries : given_up_expected 8 9 timing pace (Tick 400 ∷ Tick 200 ∷ one) 599 ≡ []
not_given_up_before_all_tries = refl

given_up_after_all_tries : given_up_expected 8 9 timing pace (Tick 400 ∷ Tick 200 ∷ one) 600 ≡ 0 ∷ []
given_up_after_all_tries = refl

what_is_given_up_is_not_sent_again : again_expected 8 9 timing pace one 650 ≡ []
what_is_given_up_is_not_sent_again = refl

-- ---- answers
abbrev tid : List ℕ
tid = 1 ∷ 8 ∷ 9 ∷ 192 ∷ 1 ∷ 0 ∷ 0 ∷ 2 ∷ 0 ∷ 1 ∷ []

another_tag : got_expected 8 9 timing pace one (1 ∷ 8 ∷ 9 ∷ 193 ∷ 1 ∷ 0 ∷ 0 ∷ 2 ∷ 0 ∷ 1 ∷ []) ≡ got.Dropped BadTag
another_tag = refl

with_the_tag_owner : got_expected 8 9 timing pace one (1 ∷ 8 ∷ 9 ∷ 200 ∷ 1 ∷ 0 ∷ 0 ∷ 2 ∷ 0 ∷ 1 ∷ []) ≡ got.Dropped BadTag
with_the_tag_owner = refl

from_another_endpoint : got_expected 8 9 timing pace one (1 ∷ 8 ∷ 10 ∷ 192 ∷ 1 ∷ 0 ∷ 0 ∷ 2 ∷ 0 ∷ 1 ∷ []) ≡ got.Dropped BadTag
from_another_endpoint = refl

a_request : got_expected 8 9 timing pace one (1 ∷ 8 ∷ 9 ∷ 192 ∷ 1 ∷ 128 ∷ 0 ∷ 2 ∷ 0 ∷ 1 ∷ []) ≡ got.Dropped NotResponse
unfolding response_of
a_request = refl

another_instance_id : got_expected 8 9 timing pace one (1 ∷ 8 ∷ 9 ∷ 192 ∷ 1 ∷ 1 ∷ 0 ∷ 2 ∷ 0 ∷ 1 ∷ []) ≡ got.Dropped NotMine
unfolding response_of
another_instance_id = refl

another_type : got_expected 8 9 timing pace one (1 ∷ 8 ∷ 9 ∷ 192 ∷ 1 ∷ 0 ∷ 2 ∷ 2 ∷ 0 ∷ 1 ∷ []) ≡ got.Dropped NotMine
unfolding response_of
another_type = refl

another_command : got_expected 8 9 timing pace one (1 ∷ 8 ∷ 9 ∷ 192 ∷ 1 ∷ 0 ∷ 0 ∷ 3 ∷ 0 ∷ 1 ∷ []) ≡ got.Dropped NotMine
unfolding response_of
another_command = refl

not_mine_before_not_ready : got_expected 8 9 timing pace one (1 ∷ 8 ∷ 9 ∷ 192 ∷ 1 ∷ 1 ∷ 0 ∷ 2 ∷ 4 ∷ []) ≡ got.Dropped NotMine
unfolding response_of
not_mine_before_not_ready = refl

not_ready : got_expected 8 9 timing pace one (1 ∷ 8 ∷ 9 ∷ 192 ∷ 1 ∷ 0 ∷ 0 ∷ 2 ∷ 4 ∷ []) ≡ got.Dropped NotReady
unfolding response_of
not_ready = refl

its_own : got_expected 8 9 timing pace one tid ≡ got.Answered 0
unfolding response_of
its_own = refl

-- a refused command answers too
a_refusal : got_expected 8 9 timing pace one (1 ∷ 8 ∷ 9 ∷ 192 ∷ 1 ∷ 0 ∷ 0 ∷ 2 ∷ 5 ∷ []) ≡ got.Answered 0
unfolding response_of
a_refusal = refl

only_once : got_expected 8 9 timing pace (Receive 0 tid ∷ one) tid ≡ got.Dropped BadTag
unfolding response_of
only_once = refl

how_it_stands : ((requests 8 9 timing pace (Receive 0 tid ∷ one)).each 0).course.progress ≡ Answered (1 ∷ 0 ∷ 0 ∷ 2 ∷ 0 ∷ 1 ∷ [])
unfolding response_of
how_it_stands = refl

-- ---- the last 32
thirty_third : is_recent 33 0 ≡ false
thirty_third = refl

the_one_after : is_recent 33 1 ≡ true
the_one_after = refl

-- ---- the premises can be met
abbrev new_requester : RequesterState
new_requester = held_at_first 8 9 timing

new_one_is_left : IsLeftBy 8 9 timing pace new_requester []
new_one_is_left = record {
  endpoint = refl;
  peer = refl;
  times = refl;
  paced = refl;
  count = refl;
  remembered = λ n. sym (cond-false (is_recent 0 n) _ _ (and_left (nat_lt n 0) _ (le-ltb n 0 (omega arith))));
  open_messages = λ key. map.get-empty key_cmp key;
  last = refl;
}

one_with_a_tick_is_left : IsLeftBy 8 9 timing pace (ticked_held new_requester 5) (Tick 5 ∷ [])
one_with_a_tick_is_left = (tick_looks_back 8 9 timing pace new_requester [] 5 new_one_is_left).2

same_as_itself : IsHeld new_requester new_requester
same_as_itself = record {
  own = refl;
  device = refl;
  timing = refl;
  pace = refl;
  count = refl;
  remembered = λ n. refl;
  open_messages = refl;
  last = refl;
}

moments_in_order : IsInOrder 8 9 timing pace (Receive 250 tid ∷ Tick 200 ∷ Open 0 GetTid ∷ one)
moments_in_order = (lit≤ tt, (lit≤ tt, (lit≤ tt, (lit≤ tt, tt))))

second_has_its_own_tag : open_on (is_open_at (requests 8 9 timing pace (Open 0 GetTid ∷ one))) 2 1 ≡ Some 1
second_has_its_own_tag = refl

no_slots_yet : AreSlots 0 []
no_slots_yet = record { some = λ few. refl; all = λ many. absurd (omega arith) }
