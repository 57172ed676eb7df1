-- What a schedule's text opens are requests for commands, which are of PLDM types that there are.
use Rattle.std.proofs.Common.{List, [], ◌∷◌, arith}
use Rattle.pldm_wire.specs.Commands.{kind_of}
use Rattle.pldm_wire.specs.Kinds.{IsKind}
use Rattle.pldm_wire.specs.declared.command.Command.{Command}
use Rattle.pldm_wire.specs.declared.command.Command.TheVariants.{SetTid, GetTid, GetPldmVersion, GetPldmTypes, GetPldmCommands, GetSensorReading, GetStateSensorReadings, SetNumericEffecterValue, GetNumericEffecterValue, SetStateEffecterStates, GetStateEffecterStates, GetPdrRepositoryInfo, GetPdr}
use Rattle.mctp_schedule.specs.Actions.{AreOfKinds, IsOfKind, as_action, as_steps}
use Rattle.schedule_text.specs.declared.step.Action.{Action}
use Rattle.schedule_text.specs.declared.step.Action.TheVariants as text
use Rattle.schedule_text.specs.declared.step.Step.{Step}

pub is_kind : (command : Command) → IsKind (kind_of command)
is_kind (SetTid tid) = omega arith
is_kind GetTid = omega arith
is_kind (GetPldmVersion handle flag pldm_type) = omega arith
is_kind GetPldmTypes = omega arith
is_kind (GetPldmCommands pldm_type version) = omega arith
is_kind (GetSensorReading sensor rearm) = omega arith
is_kind (GetStateSensorReadings sensor rearm) = omega arith
is_kind (SetNumericEffecterValue effecter value) = omega arith
is_kind (GetNumericEffecterValue effecter) = omega arith
is_kind (SetStateEffecterStates effecter fields) = omega arith
is_kind (GetStateEffecterStates effecter) = omega arith
is_kind GetPdrRepositoryInfo = omega arith
is_kind (GetPdr record_handle transfer_handle flag count change) = omega arith

is_of_kind : (action : Action) → IsOfKind (as_action action)
is_of_kind (text.Open eid command) = is_kind command
is_of_kind (text.Tick eid) = tt
is_of_kind (text.Request k) = tt
is_of_kind (text.Reply j k) = tt
is_of_kind (text.Sense id value) = tt
is_of_kind text.Restart = tt
is_of_kind (text.Busy k) = tt

pub spelled_asks : (steps : List Step) → AreOfKinds (as_steps steps)
spelled_asks [] = tt
spelled_asks (step ∷ steps) = (is_of_kind step.action, spelled_asks steps)
