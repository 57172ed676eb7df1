-- What a few descriptions state, computed from the definitions.
use Rattle.std.proofs.Common.{◌≡◌, ℕ, pos, List, [], ◌∷◌, ◌++◌, Ok, Err, codes, replicate, refl}
use Rattle.pldm_wire.specs.Numbers.{sized}
use Rattle.pldm_wire.specs.HandingOn.{none_handed_on}
use Rattle.pldm_wire.specs.declared.restart_policy.RestartPolicy.TheVariants.{All, Sets}
use Rattle.pldm_wire.specs.declared.size.Size.TheVariants.{Uint8}
use Rattle.simulated_device.specs.StateEffecters.{fields_of_states}
use Rattle.pldm_device.specs.declared.description_fault.FileFault.TheVariants.{Toml, MissingKey, WrongKind, OutOfRange, BadHex, BadRecord, Duplicate}
use Rattle.pldm_device.specs.Descriptions.{stated}
use Rattle.pldm_device.proofs.DescriptionLiterals.{description_on_literals}

no_version : stated (codes "eid = 9\nkeep_ms = 1000\ntid = 1\n") ≡ Err MissingKey
unfolding description_on_literals
no_version = refl

half_a_byte : stated (codes "eid = 9\nkeep_ms = 1000\ntid = 1\nversion0 = '00f'\n") ≡ Err BadHex
unfolding description_on_literals
half_a_byte = refl

three_bytes_of_a_version : stated (codes "eid = 9\nkeep_ms = 1000\ntid = 1\nversion0 = '00f0f0'\n") ≡ Err OutOfRange
unfolding description_on_literals
three_bytes_of_a_version = refl

no_text : stated [] ≡ Err MissingKey
unfolding description_on_literals
no_text = refl

no_value : stated (codes "eid =") ≡ Err Toml
unfolding description_on_literals
no_value = refl

not_utf8 : stated (255 ∷ []) ≡ Err Toml
unfolding description_on_literals
not_utf8 = refl

not_utf8_in_a_comment : stated (codes "eid = 9\nkeep_ms = 1000\ntid = 1\n# " ++ 255 ∷ []) ≡ Err Toml
unfolding description_on_literals
not_utf8_in_a_comment = refl

text_for_a_number : stated (codes "eid = '9'\nkeep_ms = 1000\ntid = 1\n") ≡ Err WrongKind
unfolding description_on_literals
text_for_a_number = refl

the_first_key_is_reported_first : stated (codes "eid = 300\n") ≡ Err OutOfRange
unfolding description_on_literals
the_first_key_is_reported_first = refl

no_keeping_time : stated (codes "eid = 8\ntid = 255\n") ≡ Err MissingKey
unfolding description_on_literals
no_keeping_time = refl

a_terminus_id_too_many : stated (codes "eid = 8\nkeep_ms = 1\ntid = 255\n") ≡ Err OutOfRange
unfolding description_on_literals
a_terminus_id_too_many = refl

below_zero : stated (codes "eid = 8\nkeep_ms = -1\ntid = 1\n") ≡ Err OutOfRange
unfolding description_on_literals
below_zero = refl

-- each range of a description: the greatest number is taken, so that the next key is missing, and the next number is
-- refused

endpoint_ids : (stated (codes "eid = 7\n") ≡ Err OutOfRange) × (stated (codes "eid = 8\n") ≡ Err MissingKey)
    × (stated (codes "eid = 254\n") ≡ Err MissingKey) × (stated (codes "eid = 255\n") ≡ Err OutOfRange)
unfolding description_on_literals
endpoint_ids = (refl, refl, refl, refl)

keeping_times : (stated (codes "eid = 9\nkeep_ms = 0\n") ≡ Err OutOfRange) × (stated (codes "eid = 9\nkeep_ms = 1\n") ≡ Err MissingKey)
    × (stated (codes "eid = 9\nkeep_ms = 60000\n") ≡ Err MissingKey) × (stated (codes "eid = 9\nkeep_ms = 60001\n") ≡ Err OutOfRange)
unfolding description_on_literals
keeping_times = (refl, refl, refl, refl)

windows : (stated (codes "eid = 9\nkeep_ms = 1\nwindow = 0\n") ≡ Err OutOfRange) × (stated (codes "eid = 9\nkeep_ms = 1\nwindow = 1\n") ≡ Err MissingKey)
    × (stated (codes "eid = 9\nkeep_ms = 1\nwindow = 32\n") ≡ Err MissingKey) × (stated (codes "eid = 9\nkeep_ms = 1\nwindow = 33\n") ≡ Err OutOfRange)
unfolding description_on_literals
windows = (refl, refl, refl, refl)

text_for_a_window : stated (codes "eid = 9\nkeep_ms = 1\nwindow = '1'\n") ≡ Err WrongKind
unfolding description_on_literals
text_for_a_window = refl

busy_times : (stated (codes "eid = 9\nkeep_ms = 1\nbusy = 'all'\n") ≡ Err MissingKey) × (stated (codes "eid = 9\nkeep_ms = 1\nbusy = 'sets'\n") ≡ Err MissingKey)
    × (stated (codes "eid = 9\nkeep_ms = 1\nbusy = 'none'\n") ≡ Err OutOfRange) × (stated (codes "eid = 9\nkeep_ms = 1\nbusy = 3\n") ≡ Err WrongKind)
unfolding description_on_literals
busy_times = (refl, refl, refl, refl)

-- the keeping time's fault is reported first, then the window's, then the busy time's, then the terminus ID's
order_of_settings : (stated (codes "eid = 9\nkeep_ms = '1'\nwindow = 33\n") ≡ Err WrongKind) × (stated (codes "eid = 9\nkeep_ms = 1\nbusy = 3\nwindow = 33\n") ≡ Err OutOfRange)
    × (stated (codes "eid = 9\nkeep_ms = 1\ntid = '1'\nbusy = 'none'\n") ≡ Err OutOfRange)
unfolding description_on_literals
order_of_settings = (refl, refl, refl)

terminus_ids : (stated (codes "eid = 9\nkeep_ms = 1\ntid = 0\n") ≡ Err MissingKey) × (stated (codes "eid = 9\nkeep_ms = 1\ntid = 254\n") ≡ Err MissingKey)
unfolding description_on_literals
terminus_ids = (refl, refl)

-- the keys before the lists
abbrev front : List ℕ
front =
    codes "eid = 9\nkeep_ms = 1000\ntid = 1\nversion0 = '00f0f0f1'\nversion2 = '00f2f1f1'\nupdate_time = '00000000000000000000000000'\noem_update_time = '00000000000000000000000000'\n"

sensor_of_a_byte_too_many : stated (front ++ codes "[[numeric_sensor]]\nid = 1\nsize = 'uint8'\nstates = [1, 1, 1]\nvalue = 256\n") ≡ Err OutOfRange
unfolding description_on_literals
sensor_of_a_byte_too_many = refl

state_of_a_sensor_too_many : stated (front ++ codes "[[numeric_sensor]]\nid = 65535\nsize = 'uint8'\nstates = [10, 10, 11]\nvalue = 0\n") ≡ Err OutOfRange
unfolding description_on_literals
state_of_a_sensor_too_many = refl

field_of_three_states : stated (front ++ codes "[[state_sensor]]\nid = 1\nfields = [[0, 1, 2]]\n") ≡ Err OutOfRange
unfolding description_on_literals
field_of_three_states = refl

two_sensors_of_one_id : stated (front ++ codes "[[numeric_sensor]]\nid = 1\nsize = 'uint8'\nstates = [1, 1, 10]\nvalue = 255\n[[state_sensor]]\nid = 1\nfields = [[0, 1, 2, 255]]\n") ≡ Err Duplicate
unfolding description_on_literals
two_sensors_of_one_id = refl

greatest_below_the_least : stated (front ++ codes "[[numeric_effecter]]\nid = 65535\nsize = 'sint8'\nmin = -128\nmax = -129\nvalue = 0\n") ≡ Err OutOfRange
unfolding description_on_literals
greatest_below_the_least = refl

value_outside_its_list : stated (front ++ codes "[[state_effecter]]\nid = 0\nallowed = [[1, 255]]\nvalues = [2]\n") ≡ Err OutOfRange
unfolding description_on_literals
value_outside_its_list = refl

two_effecters_of_one_id : stated (front ++ codes "[[numeric_effecter]]\nid = 2\nsize = 'sint8'\nmin = -128\nmax = 127\nvalue = 127\n[[state_effecter]]\nid = 2\nallowed = [[1]]\nvalues = [1]\n") ≡ Err Duplicate
unfolding description_on_literals
two_effecters_of_one_id = refl

record_of_another_length : stated (front ++ codes "[[pdr]]\nhex = '0100000001010000020000'\n") ≡ Err BadRecord
unfolding description_on_literals
record_of_another_length = refl

two_records_of_one_handle : stated (front ++ codes "[[pdr]]\nhex = '01000000010100000000'\n[[pdr]]\nhex = '01000000010200000000'\n") ≡ Err Duplicate
unfolding description_on_literals
two_records_of_one_handle = refl

-- a whole description, with one of each list, to its whole value
a_whole_description : stated (front ++ codes "[[numeric_sensor]]\nid = 1\nsize = 'uint8'\nstates = [1, 2, 3]\nvalue = 40\n[[state_sensor]]\nid = 3\nfields = [[0, 1, 2, 3]]\n[[numeric_effecter]]\nid = 1\nsize = 'uint8'\nmin = 0\nmax = 100\nvalue = 10\n[[state_effecter]]\nid = 2\nallowed = [[1, 2], [1, 2]]\nvalues = [1, 2]\n[[pdr]]\nhex = '01000000010100000100Ff'\n") ≡ Ok (record {
  eid = 9;
  keep = 1000;
  window = 32;
  busy = All;
  device = record {
    tid = 1;
    base_versions = 0x00 ∷ 0xf0 ∷ 0xf0 ∷ 0xf1 ∷ [];
    platform_versions = 0x00 ∷ 0xf2 ∷ 0xf1 ∷ 0xf1 ∷ [];
    update_time = replicate 13 0;
    oem_update_time = replicate 13 0;
    numeric_sensors = (1, record { present = 1; previous = 2; event = 3; reading = sized Uint8 (pos 40) }) ∷ [];
    state_sensors = (3, (record { operational = 0; present = 1; previous = 2; event = 3 } ∷ [])) ∷ [];
    numeric_effecters = (1, record { min = pos 0; max = pos 100; value = sized Uint8 (pos 10) }) ∷ [];
    state_effecters = (2, fields_of_states ((1 ∷ 2 ∷ []) ∷ (1 ∷ 2 ∷ []) ∷ []) (1 ∷ 2 ∷ [])) ∷ [];
    records = (1 ∷ 0 ∷ 0 ∷ 0 ∷ 1 ∷ 1 ∷ 0 ∷ 0 ∷ 1 ∷ 0 ∷ 255 ∷ []) ∷ [];
  };
})
unfolding description_on_literals
a_whole_description = refl

-- a device with nothing but its versions and times, and an endpoint with settings of its own
settings_of_its_own : stated (codes "window = 1\nbusy = 'sets'\n" ++ front) ≡ Ok (record {
  eid = 9;
  keep = 1000;
  window = 1;
  busy = Sets none_handed_on;
  device = record {
    tid = 1;
    base_versions = 0x00 ∷ 0xf0 ∷ 0xf0 ∷ 0xf1 ∷ [];
    platform_versions = 0x00 ∷ 0xf2 ∷ 0xf1 ∷ 0xf1 ∷ [];
    update_time = replicate 13 0;
    oem_update_time = replicate 13 0;
    numeric_sensors = [];
    state_sensors = [];
    numeric_effecters = [];
    state_effecters = [];
    records = [];
  };
})
unfolding description_on_literals
settings_of_its_own = refl
