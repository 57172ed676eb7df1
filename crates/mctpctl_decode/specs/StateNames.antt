-- The names of states and operations, as DSP0240 and DSP0248 spell them; other numbers have none.
use Rattle.std.specs.Prelude.{ℕ, ◌==◌, List, codes, Option, Some, None, if◌then◌else◌}

-- the state that a numeric sensor reports (DSP0248, "GetSensorReading command", presentState)
abbrev pub sensor_state_name : ℕ → Option (List ℕ)
sensor_state_name state =
    if state == 0 then Some (codes "unknown")
    else if state == 1 then Some (codes "normal")
    else if state == 2 then Some (codes "warning")
    else if state == 3 then Some (codes "critical")
    else if state == 4 then Some (codes "fatal")
    else if state == 5 then Some (codes "lowerWarning")
    else if state == 6 then Some (codes "lowerCritical")
    else if state == 7 then Some (codes "lowerFatal")
    else if state == 8 then Some (codes "upperWarning")
    else if state == 9 then Some (codes "upperCritical")
    else if state == 10 then Some (codes "upperFatal")
    else None

-- the operational state of a sensor (DSP0248, "GetSensorReading command", sensorOperationalState)
abbrev pub sensor_operation_name : ℕ → Option (List ℕ)
sensor_operation_name state =
    if state == 0 then Some (codes "enabled")
    else if state == 1 then Some (codes "disabled")
    else if state == 2 then Some (codes "unavailable")
    else if state == 3 then Some (codes "statusUnknown")
    else if state == 4 then Some (codes "failed")
    else if state == 5 then Some (codes "initializing")
    else if state == 6 then Some (codes "shuttingDown")
    else if state == 7 then Some (codes "inTest")
    else None

-- which events of a sensor are enabled (DSP0248, "GetSensorReading command", sensorEventMessageEnable)
abbrev pub events_name : ℕ → Option (List ℕ)
events_name enable =
    if enable == 0 then Some (codes "noEventGeneration")
    else if enable == 1 then Some (codes "eventsDisabled")
    else if enable == 2 then Some (codes "eventsEnabled")
    else if enable == 3 then Some (codes "opEventsOnlyEnabled")
    else if enable == 4 then Some (codes "stateEventsOnlyEnabled")
    else None

-- the operational state of an effecter (DSP0248, "GetNumericEffecterValue command", effecterOperationalState)
abbrev pub effecter_state_name : ℕ → Option (List ℕ)
effecter_state_name state =
    if state == 0 then Some (codes "enabled-updatePending")
    else if state == 1 then Some (codes "enabled-noUpdatePending")
    else if state == 2 then Some (codes "disabled")
    else if state == 3 then Some (codes "unavailable")
    else if state == 4 then Some (codes "statusUnknown")
    else if state == 5 then Some (codes "failed")
    else if state == 6 then Some (codes "initializing")
    else if state == 7 then Some (codes "shuttingDown")
    else if state == 8 then Some (codes "inTest")
    else None

-- the state of a repository (DSP0248, "GetPDRRepositoryInfo command", repositoryState)
abbrev pub repository_state_name : ℕ → Option (List ℕ)
repository_state_name state =
    if state == 0 then Some (codes "available")
    else if state == 1 then Some (codes "updateInProgress")
    else if state == 2 then Some (codes "failed")
    else None

-- which part is asked for (DSP0240, "GetPLDMVersion command"; DSP0248, "GetPDR command", transferOperationFlag)
abbrev pub operation_name : ℕ → Option (List ℕ)
operation_name flag =
    if flag == 0 then Some (codes "GetNextPart")
    else if flag == 1 then Some (codes "GetFirstPart")
    else None
