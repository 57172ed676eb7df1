-- What a few captures of the example device give, computed from the definitions: its keeping time is 1000 milliseconds.
use Rattle.std.proofs.Common.{◌≡◌, ℕ, List, [], ◌∷◌, codes, replicate, pos, None, Some, false, refl}
use Rattle.hex.proofs.OnLiterals.{hex_on_literals}
use Rattle.mctpctl_engines.specs.AnswerText.{called_run, answer_text}
use Rattle.mctpctl_input.specs.CaptureLine.{capture_of}
use Rattle.mctpctl_input.specs.declared.faults.EngineFault.TheVariants.{Line}
use Rattle.mctpctl_input.specs.declared.faults.LineKind.TheVariants.{BackInTime}
use Rattle.pldm_device.specs.declared.description.Description.{Description}
use Rattle.pldm_device.proofs.DescriptionLiterals.{description_on_literals}
use Rattle.pldm_wire.specs.CommandReading.{command_of}
use Rattle.pldm_wire.specs.Requests.{request_of}
use Rattle.pldm_wire.specs.declared.restart_policy.RestartPolicy.TheVariants.{All}
use Rattle.pldm_wire.specs.declared.size.Size.TheVariants.{Uint8}

-- device 9, without its record: sensor 1 at 40, numeric effecter 1 at 10 of 0 to 100, state effecter 2 of two fields at
-- 1 and 1
abbrev example : Description
example = record {
  eid = 9;
  keep = 1000;
  window = 32;
  busy = All;
  device = record {
    tid = 1;
    base_versions = 0 ∷ 240 ∷ 240 ∷ 241 ∷ [];
    platform_versions = 0 ∷ 242 ∷ 241 ∷ 241 ∷ [];
    update_time = replicate 13 0;
    oem_update_time = replicate 13 0;
    numeric_sensors = (1, record { present = 1; previous = 1; event = 1; reading = record { size = Uint8; value = pos 40 } }) ∷ [];
    state_sensors = [];
    numeric_effecters = (1, record { min = pos 0; max = pos 100; value = record { size = Uint8; value = pos 10 } }) ∷ [];
    state_effecters = (2, record { allowed = (1 ∷ 2 ∷ []) ∷ (1 ∷ 2 ∷ []) ∷ []; states = 1 ∷ 1 ∷ [] }) ∷ [];
    records = [];
  };
}

-- these lines give this text, and no fault
abbrev gives : List (List ℕ) → List ℕ → Type 0
gives lines text = called_run example false lines ≡ record { text = text; fault = None }

get_tid : gives (codes "0 010908c801800002" ∷ []) (codes "010809c0010000020001\n")
unfolding capture_of hex_on_literals request_of command_of
get_tid = refl

-- in the last millisecond of keeping a copy has the kept answer, and sets nothing
last_of_keeping : gives (codes "0 010908c90181023101000028" ∷ codes "500 010908ca0182023101000032" ∷ codes "999 010908c90181023101000028" ∷ codes "999 010908cb018302320100" ∷ []) (codes "010809c10101023100\n010809c20102023100\n010809c10101023100\n010809c3010302320000013232\n")
unfolding capture_of hex_on_literals request_of command_of
last_of_keeping = refl

-- after it the message is fresh
after_keeping : gives (codes "0 010908c90181023101000028" ∷ codes "500 010908ca0182023101000032" ∷ codes "1000 010908c90181023101000028" ∷ codes "1000 010908cb018302320100" ∷ []) (codes "010809c10101023100\n010809c20102023100\n010809c10101023100\n010809c3010302320000012828\n")
unfolding capture_of hex_on_literals request_of command_of
after_keeping = refl

-- the same message from another source is fresh
another_source : gives (codes "0 010908c90181023101000028" ∷ codes "1 01090aca0182023101000032" ∷ codes "2 01090ac90181023101000028" ∷ codes "3 010908ca018202320100" ∷ []) (codes "010809c10101023100\n010a09c20102023100\n010a09c10101023100\n010809c2010202320000012828\n")
unfolding capture_of hex_on_literals request_of command_of
another_source = refl

-- a copy does not lengthen the keeping
copy_does_not_renew : gives (codes "0 010908c90181023101000028" ∷ codes "600 010908c90181023101000028" ∷ codes "700 010908ca0182023101000032" ∷ codes "1100 010908c90181023101000028" ∷ codes "1101 010908cb018302320100" ∷ []) (codes "010809c10101023100\n010809c10101023100\n010809c20102023100\n010809c10101023100\n010809c3010302320000012828\n")
unfolding capture_of hex_on_literals request_of command_of
copy_does_not_renew = refl

-- a copy's answer has the tag of the copy
copy_on_another_tag : gives (codes "0 010908c801800002" ∷ codes "1 010908ca01800002" ∷ []) (codes "010809c0010000020001\n010809c2010000020001\n")
unfolding capture_of hex_on_literals request_of command_of
copy_on_another_tag = refl

-- a message of three packets, and a packet for another endpoint
several_packets : gives (codes "0 010908880180" ∷ codes "0 010908880182" ∷ codes "0 010b08c801800002" ∷ codes "0 010908580002" ∷ []) (codes "partial\npartial\ndrop UnknownDestination\n010809c0010200020001\n")
unfolding capture_of hex_on_literals request_of command_of
several_packets = refl

-- a comment gives nothing, and a moment before that of the last packet ends the run
back_in_time : called_run example false (codes "5 010908c801800002" ∷ codes "# 4" ∷ codes "4 010908c801800002" ∷ []) ≡ record { text = codes "010809c0010000020001\n"; fault = Some (Line 3 BackInTime) }
unfolding capture_of hex_on_literals request_of command_of
back_in_time = refl

-- a whole input, from its bytes to its text
whole_input : answer_text (codes "eid = 9\nkeep_ms = 1000\ntid = 1\nversion0 = '00f0f0f1'\nversion2 = '00f2f1f1'\nupdate_time = '00000000000000000000000000'\noem_update_time = '00000000000000000000000000'\n%%\n# a comment\n0 010908c801800002\n0 0109\n") ≡ record { text = codes "010809c0010000020001\ndrop Short\n"; fault = None }
unfolding capture_of hex_on_literals request_of command_of description_on_literals
whole_input = refl
