-- The example device at endpoint 9, as examples/device.toml describes it, with requesters at endpoints 8 and 10; and
-- steps in short. The worked schedules are run over it.
use Rattle.std.proofs.Common.{ℕ, ℤ, pos, [], ◌∷◌, replicate}
use Rattle.pldm_wire.specs.Numbers.{sized}
use Rattle.pldm_wire.specs.declared.command.Command.TheVariants.{SetNumericEffecterValue}
use Rattle.pldm_wire.specs.declared.size.Size.TheVariants.{Uint8}
use Rattle.simulated_device.specs.DeviceAnswers.{answer, after}
use Rattle.simulated_device.specs.Devices.{Device}
use Rattle.simulated_device.specs.SensorAnswers.{sensed}
use Rattle.simulated_device.specs.StateEffecters.{fields_of_states}
use Rattle.pldm_requester.specs.Pacing.{at_default}
use Rattle.pldm_responder.specs.Performing.{rules_of}
use Rattle.mctp_schedule.specs.Worlds.{BothEnds}
use Rattle.mctp_schedule.specs.Actions.{Action, Step, open_for}

-- the device, with this reading of sensor 1 and this value of numeric effecter 1
abbrev pub with_values : ℤ → ℤ → Device
with_values reading value = record {
  tid = 1;
  base_versions = 0x00 ∷ 0xf0 ∷ 0xf0 ∷ 0xf1 ∷ [];
  platform_versions = 0x00 ∷ 0xf2 ∷ 0xf1 ∷ 0xf1 ∷ [];
  update_time = replicate 13 0;
  oem_update_time = replicate 13 0;
  numeric_sensors = (1, record { present = 1; previous = 1; event = 1; reading = sized Uint8 reading }) ∷ [];
  state_sensors = [];
  numeric_effecters = (1, record { min = pos 0; max = pos 100; value = sized Uint8 value }) ∷ [];
  state_effecters = (2, fields_of_states ((1 ∷ 2 ∷ []) ∷ (1 ∷ 2 ∷ []) ∷ []) (1 ∷ 1 ∷ [])) ∷ [];
  records = (0x01 ∷ 0 ∷ 0 ∷ 0 ∷ 0x01 ∷ 0x01 ∷ 0 ∷ 0 ∷ 0x22 ∷ 0x01 ∷ replicate 290 0) ∷ [];
}

-- how often the requesters at 8 and 10 send a request at most
abbrev pub with_tries : ℕ → ℕ → BothEnds Device
with_tries eight ten = record {
  device = rules_of answer after sensed;
  start = with_values (pos 40) (pos 10);
  eid = 9;
  keep = 1000;
  window = 32;
  requesters = record { eid = 8; timeout = 200; tries = eight } ∷ record { eid = 10; timeout = 200; tries = ten } ∷ [];
  pace = at_default 1000;
}

abbrev pub at : ℕ → Action → Step
at moment action = record { moment = moment; action = action }

abbrev pub set_to : ℕ → ℤ → Action
set_to e value = open_for e (SetNumericEffecterValue 1 (sized Uint8 value))
