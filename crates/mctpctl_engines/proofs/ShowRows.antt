-- What a few captures show, computed from the definitions.
use Rattle.std.proofs.Common.{◌≡◌, List, ℕ, [], ◌∷◌, codes, None, Some, false, refl}
use Rattle.std.specs.Fmt.{digits}
use Rattle.hex.proofs.OnLiterals.{hex_on_literals}
use Rattle.mctpctl_input.specs.CaptureLine.{capture_of}
use Rattle.mctpctl_engines.specs.LineRuns.{lines_written}
use Rattle.mctpctl_input.specs.declared.binding.Binding.TheVariants.{I2c}
use Rattle.mctpctl_engines.specs.MessageForms.{in_hex}
use Rattle.mctpctl_engines.specs.ShowText.{seen_step, show_text}
use Rattle.mctpctl_input.specs.declared.faults.EngineFault.TheVariants.{Line}
use Rattle.mctpctl_input.specs.declared.faults.LineKind.TheVariants.{BackInTime}
use Rattle.pldm_wire.specs.CommandNames.{name_of_kind}
use Rattle.pldm_wire.specs.CommandReading.{command_of}
use Rattle.pldm_wire.specs.Crc.{crc}
use Rattle.pldm_wire.specs.Requests.{request_of}
use Rattle.pldm_wire.specs.Responses.{response_of}

-- these lines give this text, and no fault
abbrev shows : List (List ℕ) → List ℕ → Type 0
shows lines text = lines_written (seen_step None in_hex) false 1 [] lines ≡ record { text = text; fault = None }

-- a question and its answer, from their bytes to their text
question : show_text None in_hex (codes "0 010908c801800002\n1 010809c0010000020001\n") ≡ record { text = codes "0 8>9 tag 0 to 1 som 1 eom 1 seq 0 len 4 whole\n  request 0 GetTID - ok\n1 9>8 tag 0 to 0 som 1 eom 1 seq 0 len 6 whole\n  response 0 GetTID 00 01\n"; fault = None }
unfolding digits capture_of hex_on_literals request_of response_of command_of name_of_kind
question = refl

-- the question in a frame on I2C, and with another PEC
framed : show_text (Some I2c) in_hex (codes "0 3a0f0921010908c801800002ca\n1 3a0f0921010908c801800002cb\n") ≡ record { text = codes "0 8>9 tag 0 to 1 som 1 eom 1 seq 0 len 4 whole\n  request 0 GetTID - ok\n1 no frame: WrongPec\n"; fault = None }
unfolding digits capture_of hex_on_literals crc request_of command_of name_of_kind
framed = refl

request_with_data : shows (codes "0 010908c90181023101000028" ∷ []) (codes "0 8>9 tag 1 to 1 som 1 eom 1 seq 0 len 8 whole\n  request 1 SetNumericEffecterValue 01000028 ok\n")
unfolding digits capture_of hex_on_literals request_of response_of command_of name_of_kind
request_with_data = refl

command_without_a_name : shows (codes "1 010908c801800502" ∷ []) (codes "1 8>9 tag 0 to 1 som 1 eom 1 seq 0 len 4 whole\n  request 0 5/02 - refused 20\n")
unfolding digits capture_of hex_on_literals request_of response_of command_of name_of_kind
command_without_a_name = refl

response_that_breaks_off : shows (codes "2 010809c001000002" ∷ []) (codes "2 9>8 tag 0 to 0 som 1 eom 1 seq 0 len 4 whole\n  drop ShortHeader\n")
unfolding digits capture_of hex_on_literals request_of response_of command_of name_of_kind
response_that_breaks_off = refl

-- of one byte there is no request bit: it is read as a request
one_byte : shows (codes "3 010908c802" ∷ []) (codes "3 8>9 tag 0 to 1 som 1 eom 1 seq 0 len 1 whole\n  drop NotPldm\n")
unfolding digits capture_of hex_on_literals request_of response_of command_of name_of_kind
one_byte = refl

goes_on_with_nothing : shows (codes "4 0109086805" ∷ codes "5 0109" ∷ []) (codes "4 8>9 tag 0 to 1 som 0 eom 1 seq 2 len 1 drop UnexpectedMiddleOrEnd\n5 drop Short\n")
unfolding digits capture_of hex_on_literals
goes_on_with_nothing = refl

-- two messages from one source under one tag, to two destinations in turn
two_destinations : shows (codes "7 010908880180" ∷ codes "7 010a0888018100" ∷ codes "8 010908580002" ∷ codes "8 010a08580105" ∷ []) (codes "7 8>9 tag 0 to 1 som 1 eom 0 seq 0 len 2 partial\n7 8>10 tag 0 to 1 som 1 eom 0 seq 0 len 3 partial\n8 8>9 tag 0 to 1 som 0 eom 1 seq 1 len 2 whole\n  request 0 GetTID - ok\n8 8>10 tag 0 to 1 som 0 eom 1 seq 1 len 2 whole\n  request 1 SetTID 05 ok\n")
unfolding digits capture_of hex_on_literals request_of response_of command_of name_of_kind
two_destinations = refl

-- a comment shows nothing, and a moment before that of the last packet ends the run
back_in_time : lines_written (seen_step None in_hex) false 1 [] (codes "5 0109" ∷ codes "# 4" ∷ codes "4 0109" ∷ []) ≡ record { text = codes "5 drop Short\n"; fault = Some (Line 3 BackInTime) }
unfolding digits capture_of hex_on_literals
back_in_time = refl
