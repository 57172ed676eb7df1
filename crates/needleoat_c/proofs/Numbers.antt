-- The numbers of kinds and of refusals, written a second time.
use Rattle.std.proofs.Common.{◌≡◌, refl}
use Rattle.needleoat_c.specs.declared.kinds.TheConstants.{BUSY_ALL, BUSY_SETS, HALF_ANSWERING, HALF_ASKING, RECEIVING_ANSWERED, RECEIVING_DROPPED, RECEIVING_PARTIAL}
use Rattle.needleoat_c.specs.declared.kinds.TheConstants.{RECEIVING_REFUSED, STATUS_ANSWERED, STATUS_GAVE_UP, STATUS_OPEN}
use Rattle.needleoat_c.specs.declared.kinds.TheConstants.{STATUS_UNKNOWN, STEP_ANSWERED, STEP_DROPPED, STEP_PARTIAL}
use Rattle.needleoat_c.specs.declared.kinds.TheConstants.{STEP_CONTROL, STEP_PERFORM, STEP_REFUSED, STEP_RESPOND}
use Rattle.needleoat_c.specs.declared.refusals.TheConstants.{ALREADY_THERE, BAD_MOMENT, BEING_PERFORMED, ID_IN_USE, NOTHING_THERE}
use Rattle.needleoat_c.specs.declared.refusals.TheConstants.{NO_COMMAND, NO_EID, NO_MEMORY, NOT_ITS_ANSWER, NOT_PENDING, OUT_OF_RANGE}
use Rattle.needleoat_c.specs.declared.refusals.TheConstants.{OUT_OF_TURN, RESTING, TAG_IN_USE, TOO_MANY_COMMANDS, TOO_MANY_OPEN_MESSAGES, TOO_MANY_SOURCES}
use Rattle.needleoat_c.specs.declared.firmware.TheConstants.{GENERIC_ERROR}
use Rattle.needleoat_c.specs.declared.kinds.TheConstants.{FLASH_ABANDON, FLASH_ABANDON_UPDATE, FLASH_ACTIVATE, FLASH_APPLY}
use Rattle.needleoat_c.specs.declared.kinds.TheConstants.{FLASH_BEGIN, FLASH_NONE, FLASH_STORE, FLASH_VERIFY}
use Rattle.needleoat_c.specs.declared.kinds.TheConstants.{UPDATE_ACTIVATING, UPDATE_APPLIED, UPDATE_APPLYING, UPDATE_BEGINNING}
use Rattle.needleoat_c.specs.declared.kinds.TheConstants.{UPDATE_FAILED, UPDATE_FETCHED, UPDATE_FETCHING, UPDATE_IDLE}
use Rattle.needleoat_c.specs.declared.kinds.TheConstants.{UPDATE_LEARNING, UPDATE_NONE, UPDATE_NOT_APPLIED, UPDATE_NOT_VERIFIED}
use Rattle.needleoat_c.specs.declared.kinds.TheConstants.{UPDATE_READY, UPDATE_STORING, UPDATE_VERIFIED, UPDATE_VERIFYING}
use Rattle.needleoat_c.specs.declared.refusals.TheConstants.{FIRMWARE_ANSWERS}

busy_all : BUSY_ALL ≡ 0
busy_all = refl

busy_sets : BUSY_SETS ≡ 1
busy_sets = refl

step_refused : STEP_REFUSED ≡ 0
step_refused = refl

step_dropped : STEP_DROPPED ≡ 1
step_dropped = refl

step_partial : STEP_PARTIAL ≡ 2
step_partial = refl

step_answered : STEP_ANSWERED ≡ 3
step_answered = refl

step_perform : STEP_PERFORM ≡ 4
step_perform = refl

step_respond : STEP_RESPOND ≡ 5
step_respond = refl

step_control : STEP_CONTROL ≡ 6
step_control = refl

receiving_refused : RECEIVING_REFUSED ≡ 0
receiving_refused = refl

receiving_dropped : RECEIVING_DROPPED ≡ 1
receiving_dropped = refl

receiving_partial : RECEIVING_PARTIAL ≡ 2
receiving_partial = refl

receiving_answered : RECEIVING_ANSWERED ≡ 3
receiving_answered = refl

status_unknown : STATUS_UNKNOWN ≡ 0
status_unknown = refl

status_open : STATUS_OPEN ≡ 1
status_open = refl

status_answered : STATUS_ANSWERED ≡ 2
status_answered = refl

status_gave_up : STATUS_GAVE_UP ≡ 3
status_gave_up = refl

no_memory : NO_MEMORY ≡ 1
no_memory = refl

bad_moment : BAD_MOMENT ≡ 2
bad_moment = refl

nothing_there : NOTHING_THERE ≡ 3
nothing_there = refl

out_of_turn : OUT_OF_TURN ≡ 4
out_of_turn = refl

not_its_answer : NOT_ITS_ANSWER ≡ 5
not_its_answer = refl

out_of_range : OUT_OF_RANGE ≡ 6
out_of_range = refl

already_there : ALREADY_THERE ≡ 7
already_there = refl

being_performed : BEING_PERFORMED ≡ 8
being_performed = refl

too_many_commands : TOO_MANY_COMMANDS ≡ 9
too_many_commands = refl

not_pending : NOT_PENDING ≡ 10
not_pending = refl

tag_in_use : TAG_IN_USE ≡ 11
tag_in_use = refl

id_in_use : ID_IN_USE ≡ 12
id_in_use = refl

no_command : NO_COMMAND ≡ 13
no_command = refl

too_many_sources : TOO_MANY_SOURCES ≡ 14
too_many_sources = refl

too_many_open_messages : TOO_MANY_OPEN_MESSAGES ≡ 15
too_many_open_messages = refl

no_eid : NO_EID ≡ 16
no_eid = refl

resting : RESTING ≡ 17
resting = refl

half_answering : HALF_ANSWERING ≡ 0
half_answering = refl

half_asking : HALF_ASKING ≡ 1
half_asking = refl

generic_error : GENERIC_ERROR ≡ 10
generic_error = refl

flash_none : FLASH_NONE ≡ 0
flash_none = refl

flash_begin : FLASH_BEGIN ≡ 1
flash_begin = refl

flash_store : FLASH_STORE ≡ 2
flash_store = refl

flash_verify : FLASH_VERIFY ≡ 3
flash_verify = refl

flash_apply : FLASH_APPLY ≡ 4
flash_apply = refl

flash_activate : FLASH_ACTIVATE ≡ 5
flash_activate = refl

flash_abandon : FLASH_ABANDON ≡ 6
flash_abandon = refl

flash_abandon_update : FLASH_ABANDON_UPDATE ≡ 7
flash_abandon_update = refl

update_none : UPDATE_NONE ≡ 0
update_none = refl

update_idle : UPDATE_IDLE ≡ 1
update_idle = refl

update_learning : UPDATE_LEARNING ≡ 2
update_learning = refl

update_ready : UPDATE_READY ≡ 3
update_ready = refl

update_beginning : UPDATE_BEGINNING ≡ 4
update_beginning = refl

update_fetching : UPDATE_FETCHING ≡ 5
update_fetching = refl

update_storing : UPDATE_STORING ≡ 6
update_storing = refl

update_fetched : UPDATE_FETCHED ≡ 7
update_fetched = refl

update_failed : UPDATE_FAILED ≡ 8
update_failed = refl

update_verifying : UPDATE_VERIFYING ≡ 9
update_verifying = refl

update_verified : UPDATE_VERIFIED ≡ 10
update_verified = refl

update_not_verified : UPDATE_NOT_VERIFIED ≡ 11
update_not_verified = refl

update_applying : UPDATE_APPLYING ≡ 12
update_applying = refl

update_applied : UPDATE_APPLIED ≡ 13
update_applied = refl

update_not_applied : UPDATE_NOT_APPLIED ≡ 14
update_not_applied = refl

update_activating : UPDATE_ACTIVATING ≡ 15
update_activating = refl

firmware_answers : FIRMWARE_ANSWERS ≡ 18
firmware_answers = refl
