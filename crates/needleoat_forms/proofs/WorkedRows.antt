-- The definitions computed on structs and messages: which bytes a struct is written as, and what a response is to a
-- request.
use Rattle.std.proofs.Common.{◌≡◌, ℕ, pos, negsuc, List, [], ◌∷◌, replicate, Some, None, refl}
use Rattle.pldm_wire.specs.AnswerReading.{success_of}
use Rattle.pldm_wire.specs.CommandReading.{command_of}
use Rattle.pldm_wire.specs.Requests.{request_of}
use Rattle.pldm_wire.specs.Responses.{response_of}
use Rattle.needleoat_forms.specs.Answers.{answer_in, response_in}
use Rattle.needleoat_forms.specs.AnswersToRequests.{answer_between, number_of_outcome}
use Rattle.needleoat_forms.specs.Commands.{command_in, request_in}
use Rattle.needleoat_forms.specs.declared.answer.AnswerFields.{AnswerFields}
use Rattle.needleoat_forms.specs.declared.command.CommandFields.{CommandFields}

-- structs of zeros

abbrev no_command : CommandFields
no_command = record {
  instance_id = 0;
  pldm_type = 0;
  command = 0;
  tid = 0;
  asked_type = 0;
  transfer_operation_flag = 0;
  rearm = 0;
  size = 0;
  count = 0;
  sensor = 0;
  effecter = 0;
  request_count = 0;
  record_change_number = 0;
  data_transfer_handle = 0;
  record_handle = 0;
  value = pos 0;
  version = replicate 4 0;
  sets = replicate 8 (record { set_request = 0; state = 0 });
}

abbrev no_answer : AnswerFields
no_answer = record {
  instance_id = 0;
  pldm_type = 0;
  command = 0;
  code = 0;
  tid = 0;
  transfer_flag = 0;
  transfer_crc = 0;
  size = 0;
  operational = 0;
  sensor_event_message_enable = 0;
  present = 0;
  previous = 0;
  event = 0;
  count = 0;
  repository_state = 0;
  timeout = 0;
  next_record_handle = 0;
  next_data_transfer_handle = 0;
  record_count = 0;
  repository_size = 0;
  largest_record_size = 0;
  value = pos 0;
  pending_value = pos 0;
  length = 0;
  sensor_states = replicate 8 (record { operational = 0; present = 0; previous = 0; event = 0 });
  effecter_states = replicate 8 (record { operational = 0; pending = 0; present = 0 });
  types = replicate 8 0;
  commands = replicate 32 0;
  update_time = replicate 13 0;
  oem_update_time = replicate 13 0;
  bytes = replicate 303 0;
}

-- effecter 1 to the sint16 -2; a uint8 of 256 is no number

effecter_to_minus_two :
    request_in (record no_command { instance_id = 1; pldm_type = 2; command = 0x31; effecter = 1; size = 3; value = negsuc 1 })
    ≡ Some (0x01 ∷ 0x81 ∷ 0x02 ∷ 0x31 ∷ 0x01 ∷ 0x00 ∷ 0x03 ∷ 0xfe ∷ 0xff ∷ [])
unfolding command_in
effecter_to_minus_two = refl

too_great : request_in (record no_command { pldm_type = 2; command = 0x31; size = 0; value = pos 256 }) ≡ None
unfolding command_in
too_great = refl

no_such_command : request_in (record no_command { command = 6 }) ≡ None
unfolding command_in
no_such_command = refl

-- the terminus ID 40, and a refusal

tid_is_40 : response_in (record no_answer { instance_id = 2; command = 2; tid = 40 })
    ≡ Some (0x01 ∷ 0x02 ∷ 0x00 ∷ 0x02 ∷ 0x00 ∷ 0x28 ∷ [])
unfolding answer_in
tid_is_40 = refl

refused : response_in (record no_answer { instance_id = 4; pldm_type = 2; command = 0x51; code = 0x82 })
    ≡ Some (0x01 ∷ 0x04 ∷ 0x02 ∷ 0x51 ∷ 0x82 ∷ [])
unfolding answer_in
refused = refl

-- what responses are to GetTID: an answer, another instance ID, another command, a byte too few

abbrev outcome : List ℕ → ℕ
outcome response =
    number_of_outcome (answer_between (request_of (0x01 ∷ 0x80 ∷ 0x00 ∷ 0x02 ∷ [])) (response_of response))

answered : outcome (0x01 ∷ 0x00 ∷ 0x00 ∷ 0x02 ∷ 0x00 ∷ 0x01 ∷ []) ≡ 0
unfolding request_of response_of command_of success_of
answered = refl

other_instance : outcome (0x01 ∷ 0x01 ∷ 0x00 ∷ 0x02 ∷ 0x00 ∷ 0x01 ∷ []) ≡ 4
unfolding request_of response_of command_of success_of
other_instance = refl

other_command : outcome (0x01 ∷ 0x00 ∷ 0x00 ∷ 0x01 ∷ 0x00 ∷ 0x01 ∷ []) ≡ 5
unfolding request_of response_of command_of success_of
other_command = refl

too_short : outcome (0x01 ∷ 0x00 ∷ 0x00 ∷ 0x02 ∷ 0x00 ∷ []) ≡ 6
unfolding request_of response_of command_of success_of
too_short = refl
