-- The definitions, computed on what endpoints 8 and 10 send to endpoint 9, which keeps answers for a second: a light
-- whose numeric effecter is set. Lists of calls have the newest first.
use Rattle.std.specs.FinMap as map
use Rattle.std.proofs.Common.{◌≡◌, ℕ, ℤ, pos, true, false, List, [], ◌∷◌, refl}
use Rattle.std.specs.List.{IsDistinct}
use Rattle.mctp_packet.specs.declared.reason.Reason.TheVariants.{Short, BadTag, NotRequest, UnknownDestination}
use Rattle.mctp_assembly.specs.Keys.{key_cmp}
use Rattle.pldm_wire.specs.CommandReading.{command_of}
use Rattle.pldm_wire.specs.Requests.{request_of}
use Rattle.pldm_wire.specs.declared.restart_policy.RestartPolicy.TheVariants.{All, Sets}
use Rattle.pldm_wire.specs.declared.command.Command.TheVariants.{GetTid}
use Rattle.pldm_responder.specs.Arrivals.{Arrival, Whole, message_of}
use Rattle.pldm_responder.specs.Calls.{Call, Received, Sensed, Restart, Updated, Assigned, events, outcome}
use Rattle.pldm_responder.proofs.WorkedLight.{light_answer, light_after, light_sensed}
use Rattle.pldm_responder.specs.Events.{is_kept}
use Rattle.pldm_responder.specs.Counts.{CountsKept}
use Rattle.pldm_responder.specs.ResponderStates.{ResponderState, IsHeld, held_at_first}
use Rattle.pldm_responder.specs.Laws.{IsLeftBy}
use Rattle.pldm_responder.specs.Performing.{Rules, rules_of, performed}
use Rattle.pldm_responder.specs.Steps.{kept_for, sensed_held, restarted_held, updated_held, arrival_commands}
use Rattle.pldm_responder.specs.Needs.{KeepsNone}
use Rattle.pldm_responder.specs.declared.outcome.Outcome.{Outcome}
use Rattle.pldm_responder.specs.declared.outcome.Outcome.TheVariants.{Dropped, Partial, Answered}
use Rattle.pldm_responder.proofs.CallsLookBack.{sensed_looks_back, updated_looks_back}

abbrev light : Rules ℤ
light = rules_of light_answer light_after light_sensed

abbrev outcome_of : List (Call ℤ) → ℕ → List ℕ → Outcome
outcome_of calls moment bytes = outcome light 9 All 32 1000 (pos 0) calls moment bytes

abbrev level : List (Call ℤ) → ℤ
level calls = performed light All 32 1000 (pos 0) (events 9 calls)

-- GetTID from endpoint 8 with instance ID 0, on tags 0 and 2
abbrev get_tid : List ℕ
get_tid = 1 ∷ 9 ∷ 8 ∷ 200 ∷ 1 ∷ 128 ∷ 0 ∷ 2 ∷ []

abbrev get_tid_on_2 : List ℕ
get_tid_on_2 = 1 ∷ 9 ∷ 8 ∷ 202 ∷ 1 ∷ 128 ∷ 0 ∷ 2 ∷ []

first_is_fresh : outcome_of [] 0 get_tid ≡ Answered true false ((1 ∷ 8 ∷ 9 ∷ 192 ∷ 1 ∷ 0 ∷ 0 ∷ 2 ∷ 0 ∷ 1 ∷ []) ∷ [])
unfolding request_of command_of
first_is_fresh = refl

copy_on_its_own_tag : outcome_of (Received 0 get_tid ∷ []) 1 get_tid_on_2 ≡ Answered false false ((1 ∷ 8 ∷ 9 ∷ 194 ∷ 1 ∷ 0 ∷ 0 ∷ 2 ∷ 0 ∷ 1 ∷ []) ∷ [])
unfolding request_of command_of
copy_on_its_own_tag = refl

-- the effecter is set to 40 with instance ID 1, and to 50 with instance ID 2
abbrev set_40 : List ℕ
set_40 = 1 ∷ 9 ∷ 8 ∷ 201 ∷ 1 ∷ 129 ∷ 2 ∷ 49 ∷ 1 ∷ 0 ∷ 0 ∷ 40 ∷ []

abbrev set_50 : List ℕ
set_50 = 1 ∷ 9 ∷ 8 ∷ 202 ∷ 1 ∷ 130 ∷ 2 ∷ 49 ∷ 1 ∷ 0 ∷ 0 ∷ 50 ∷ []

abbrev was_set : List (List ℕ)
was_set = (1 ∷ 8 ∷ 9 ∷ 193 ∷ 1 ∷ 1 ∷ 2 ∷ 49 ∷ 0 ∷ []) ∷ []

abbrev both_set : List (Call ℤ)
both_set = Received 500 set_50 ∷ Received 0 set_40 ∷ []

copy_at_the_last_moment : outcome_of both_set 999 set_40 ≡ Answered false false was_set
unfolding request_of command_of
copy_at_the_last_moment = refl

copy_changes_nothing : level (Received 999 set_40 ∷ both_set) ≡ pos 50
unfolding request_of command_of
copy_changes_nothing = refl

fresh_after_the_last_moment : outcome_of both_set 1000 set_40 ≡ Answered true true was_set
unfolding request_of command_of
fresh_after_the_last_moment = refl

fresh_one_is_performed : level (Received 1000 set_40 ∷ both_set) ≡ pos 40
unfolding request_of command_of
fresh_one_is_performed = refl

copy_does_not_lengthen : outcome_of (Received 700 set_50 ∷ Received 600 set_40 ∷ Received 0 set_40 ∷ []) 1100 set_40 ≡ Answered true true was_set
unfolding request_of command_of
copy_does_not_lengthen = refl

other_bytes_are_fresh : outcome_of (Received 0 set_40 ∷ []) 1 (1 ∷ 9 ∷ 8 ∷ 201 ∷ 1 ∷ 129 ∷ 2 ∷ 49 ∷ 1 ∷ 0 ∷ 0 ∷ 41 ∷ []) ≡ Answered true true was_set
unfolding request_of command_of
other_bytes_are_fresh = refl

-- endpoint 10 sends what endpoint 8 sent
other_source_is_fresh : outcome_of (Received 0 set_40 ∷ []) 1 (1 ∷ 9 ∷ 10 ∷ 201 ∷ 1 ∷ 129 ∷ 2 ∷ 49 ∷ 1 ∷ 0 ∷ 0 ∷ 40 ∷ []) ≡ Answered true true ((1 ∷ 10 ∷ 9 ∷ 193 ∷ 1 ∷ 1 ∷ 2 ∷ 49 ∷ 0 ∷ []) ∷ [])
unfolding request_of command_of
other_source_is_fresh = refl

-- a refused command is answered with its code and kept too
refusal_is_kept : outcome_of (Received 0 (1 ∷ 9 ∷ 8 ∷ 200 ∷ 1 ∷ 128 ∷ 5 ∷ 2 ∷ []) ∷ []) 1 (1 ∷ 9 ∷ 8 ∷ 200 ∷ 1 ∷ 128 ∷ 5 ∷ 2 ∷ []) ≡ Answered false false ((1 ∷ 8 ∷ 9 ∷ 192 ∷ 1 ∷ 0 ∷ 5 ∷ 2 ∷ 32 ∷ []) ∷ [])
unfolding request_of command_of
refusal_is_kept = refl

-- a message of two packets has the moment of the last, and a packet that is dropped stays out of it
message_of_two_packets : outcome_of (Received 2 (1 ∷ 9 ∷ 8 ∷ 80 ∷ 0 ∷ 2 ∷ []) ∷ Received 1 (1 ∷ 9 ∷ 8 ∷ 136 ∷ 1 ∷ 128 ∷ []) ∷ []) 3 (1 ∷ 9 ∷ 8 ∷ 88 ∷ 0 ∷ 2 ∷ []) ≡ Answered true false ((1 ∷ 8 ∷ 9 ∷ 192 ∷ 1 ∷ 0 ∷ 0 ∷ 2 ∷ 0 ∷ 1 ∷ []) ∷ [])
unfolding request_of command_of
message_of_two_packets = refl

first_of_two_packets : outcome_of [] 1 (1 ∷ 9 ∷ 8 ∷ 136 ∷ 1 ∷ 128 ∷ []) ≡ Partial
unfolding request_of command_of
first_of_two_packets = refl

too_short : outcome_of [] 0 [] ≡ Dropped Short
too_short = refl

without_the_tag_owner : outcome_of [] 0 (1 ∷ 9 ∷ 8 ∷ 192 ∷ 1 ∷ 128 ∷ 0 ∷ 2 ∷ []) ≡ Dropped BadTag
without_the_tag_owner = refl

no_request : outcome_of [] 0 (1 ∷ 9 ∷ 8 ∷ 200 ∷ 1 ∷ 0 ∷ 0 ∷ 2 ∷ []) ≡ Dropped NotRequest
unfolding request_of
no_request = refl

-- a reading is set, and one of another sensor is refused
reading_is_set : level (Sensed 2 (pos 8) ∷ Sensed 1 (pos 7) ∷ []) ≡ pos 7
reading_is_set = refl

-- a change from outside puts the level, and is no message: a copy still gets its old answer, and the next fresh request
-- changes what was put
change_is_put : level (Updated (pos 9) ∷ Received 0 set_40 ∷ []) ≡ pos 9
change_is_put = refl

copy_after_a_change : outcome_of (Updated (pos 9) ∷ Received 0 set_40 ∷ []) 999 set_40 ≡ Answered false false was_set
unfolding request_of command_of
copy_after_a_change = refl

copy_leaves_the_change : level (Received 999 set_40 ∷ Updated (pos 9) ∷ Received 0 set_40 ∷ []) ≡ pos 9
unfolding request_of command_of
copy_leaves_the_change = refl

fresh_one_after_a_change : level (Received 1000 set_40 ∷ Updated (pos 9) ∷ Received 0 set_40 ∷ []) ≡ pos 40
unfolding request_of command_of
fresh_one_after_a_change = refl

pairs_stay_through_a_change : is_kept All 32 1000 (events 9 (Updated (pos 9) ∷ Received 0 set_40 ∷ [])) 8 1 ≡ true
unfolding request_of command_of
pairs_stay_through_a_change = refl

-- with a window of one instance ID, another one that comes between makes a copy a new request; with two it does not
abbrev outcome_in : ℕ → List (Call ℤ) → ℕ → List ℕ → Outcome
outcome_in window calls moment bytes = outcome light 9 All window 1000 (pos 0) calls moment bytes

copy_within_two : outcome_in 2 both_set 999 set_40 ≡ Answered false false was_set
unfolding request_of command_of
copy_within_two = refl

fresh_past_one : outcome_in 1 both_set 999 set_40 ≡ Answered true true was_set
unfolding request_of command_of
fresh_past_one = refl

latest_within_one : outcome_in 1 both_set 999 set_50 ≡ Answered false false ((1 ∷ 8 ∷ 9 ∷ 194 ∷ 1 ∷ 2 ∷ 2 ∷ 49 ∷ 0 ∷ []) ∷ [])
unfolding request_of command_of
latest_within_one = refl

-- after a restart every good message is answered with code 4 for the keeping time, and not performed; then the old
-- answers are gone
abbrev restarted : List (Call ℤ)
restarted = Restart 100 ∷ Received 0 set_40 ∷ []

busy_at_the_last_moment : outcome_of restarted 1099 set_40 ≡ Answered false false ((1 ∷ 8 ∷ 9 ∷ 193 ∷ 1 ∷ 1 ∷ 2 ∷ 49 ∷ 4 ∷ []) ∷ [])
unfolding request_of command_of
busy_at_the_last_moment = refl

served_again : outcome_of (Received 1099 set_40 ∷ restarted) 1100 set_40 ≡ Answered true true was_set
unfolding request_of command_of
served_again = refl

-- where only what sets is refused then, a command that asks is performed, and one that is not known is refused by its
-- code
outcome_while_busy : List (Call ℤ) → ℕ → List ℕ → Outcome
outcome_while_busy calls moment bytes = outcome light 9 (Sets (record { pldm_types = 0; unknown_commands = false })) 32 1000 (pos 0) calls moment bytes

set_is_refused_while_busy : outcome_while_busy restarted 1099 set_40 ≡ Answered false false ((1 ∷ 8 ∷ 9 ∷ 193 ∷ 1 ∷ 1 ∷ 2 ∷ 49 ∷ 4 ∷ []) ∷ [])
unfolding request_of command_of outcome_while_busy
set_is_refused_while_busy = refl

read_is_served_while_busy : outcome_while_busy restarted 1099 get_tid ≡ Answered true false ((1 ∷ 8 ∷ 9 ∷ 192 ∷ 1 ∷ 0 ∷ 0 ∷ 2 ∷ 0 ∷ 1 ∷ []) ∷ [])
unfolding request_of command_of outcome_while_busy
read_is_served_while_busy = refl

unknown_one_is_refused_while_busy : outcome_while_busy restarted 1099 (1 ∷ 9 ∷ 8 ∷ 200 ∷ 1 ∷ 128 ∷ 5 ∷ 2 ∷ []) ≡ Answered true false ((1 ∷ 8 ∷ 9 ∷ 192 ∷ 1 ∷ 0 ∷ 5 ∷ 2 ∷ 32 ∷ []) ∷ [])
unfolding request_of command_of outcome_while_busy
unknown_one_is_refused_while_busy = refl

restart_forgets_the_pairs : is_kept All 32 1000 (events 9 restarted) 8 1 ≡ false
unfolding request_of command_of
restart_forgets_the_pairs = refl

-- ---- an endpoint ID is assigned
-- before the first no packet is for it, and then it serves at once
outcome_at : ℕ → List (Call ℤ) → ℕ → List ℕ → Outcome
outcome_at own calls moment bytes = outcome light own All 32 1000 (pos 0) calls moment bytes

dropped_before_the_first : outcome_at 0 [] 0 set_40 ≡ Dropped UnknownDestination
unfolding outcome_at
dropped_before_the_first = refl

dropped_at_the_null_one : outcome_at 0 [] 0 (1 ∷ 0 ∷ 8 ∷ 200 ∷ 1 ∷ 128 ∷ 0 ∷ 2 ∷ []) ≡ Dropped UnknownDestination
unfolding outcome_at
dropped_at_the_null_one = refl

abbrev got_9 : List (Call ℤ)
got_9 = Assigned 100 0 ∷ Received 0 set_40 ∷ []

served_from_the_first_on : outcome_at 9 got_9 100 set_40 ≡ Answered true true was_set
unfolding outcome_at request_of command_of
served_from_the_first_on = refl

-- it gets 10 and then 9 back: a copy of what was performed before is not performed in the busy time, and not a copy
-- after it
abbrev got_9_back : List (Call ℤ)
got_9_back = Assigned 300 10 ∷ Assigned 200 9 ∷ Received 100 set_40 ∷ got_9

busy_with_9_again : outcome_at 9 got_9_back 1299 set_40 ≡ Answered false false ((1 ∷ 8 ∷ 9 ∷ 193 ∷ 1 ∷ 1 ∷ 2 ∷ 49 ∷ 4 ∷ []) ∷ [])
unfolding outcome_at request_of command_of
busy_with_9_again = refl

served_with_9_again : outcome_at 9 got_9_back 1300 set_40 ≡ Answered true true was_set
unfolding outcome_at request_of command_of
served_with_9_again = refl

dropped_at_9_with_10 : outcome_at 10 (Assigned 200 9 ∷ got_9) 201 set_40 ≡ Dropped UnknownDestination
unfolding outcome_at
dropped_at_9_with_10 = refl

-- ---- the premises can be met
abbrev new_light : ResponderState ℤ
new_light = held_at_first 9 All 32 1000 (pos 0)

new_one_is_left : IsLeftBy light 9 All 32 1000 (pos 0) new_light []
new_one_is_left = record {
  endpoint = refl;
  refusing = refl;
  windows = refl;
  keeping = refl;
  open_messages = λ key. map.get-empty key_cmp key;
  kept = λ source. refl;
  state = refl;
  serves_from = refl;
  last = refl;
}

one_with_a_reading_is_left : IsLeftBy light 9 All 32 1000 (pos 0) (sensed_held light new_light 1 (pos 7)) (Sensed 1 (pos 7) ∷ [])
one_with_a_reading_is_left = sensed_looks_back light 9 All 32 1000 (pos 0) new_light [] 1 (pos 7) new_one_is_left

one_that_was_changed_is_left : IsLeftBy light 9 All 32 1000 (pos 0) (updated_held new_light (pos 7)) (Updated (pos 7) ∷ [])
one_that_was_changed_is_left = updated_looks_back light 9 All 32 1000 (pos 0) new_light [] (pos 7) new_one_is_left

same_as_itself : IsHeld new_light new_light
same_as_itself = record {
  own = refl;
  busy = refl;
  window = refl;
  keep = refl;
  open_messages = refl;
  kept = λ source. refl;
  state = refl;
  serves_from = refl;
  last = refl;
}

none_is_counted : CountsKept (kept_for new_light) 0
unfolding IsDistinct
none_is_counted = record { pairs = []; each = λ source id. refl; once = tt; all = refl }

nothing_of_8_is_kept : KeepsNone new_light true 8
nothing_of_8_is_kept = refl

-- it restarted at 100 and serves from 1100 on
restarted_light : ResponderState ℤ
restarted_light = restarted_held new_light 100

restarted_one_is_left : IsLeftBy light 9 All 32 1000 (pos 0) restarted_light (Restart 100 ∷ [])
unfolding restarted_light
restarted_one_is_left = record {
  endpoint = refl;
  refusing = refl;
  windows = refl;
  keeping = refl;
  open_messages = λ key. map.get-empty key_cmp key;
  kept = λ source. refl;
  state = refl;
  serves_from = refl;
  last = refl;
}

-- what the platform performs: the command of a fresh message, and none while the responder is busy or where the command
-- is not known
abbrev came_at : ℕ → List ℕ → Arrival
came_at moment bytes = Whole (message_of 8 0 moment bytes)

fresh_one_carries_a_command : arrival_commands new_light (came_at 0 (1 ∷ 128 ∷ 0 ∷ 2 ∷ [])) ≡ GetTid ∷ []
unfolding request_of command_of
fresh_one_carries_a_command = refl

unknown_one_carries_none : arrival_commands new_light (came_at 0 (1 ∷ 128 ∷ 5 ∷ 2 ∷ [])) ≡ []
unfolding request_of command_of
unknown_one_carries_none = refl

busy_one_carries_none : arrival_commands restarted_light (came_at 1099 (1 ∷ 128 ∷ 0 ∷ 2 ∷ [])) ≡ []
unfolding restarted_light
busy_one_carries_none = refl

served_one_carries_a_command : arrival_commands restarted_light (came_at 1100 (1 ∷ 128 ∷ 0 ∷ 2 ∷ [])) ≡ GetTid ∷ []
unfolding restarted_light request_of command_of
served_one_carries_a_command = refl
