-- Which of the sensors and effecters that records describe are of the asked terminus (DSP0248, "Terminus locator PDR").
use Rattle.std.specs.Prelude.{ℕ, ◌==◌, Bool, true, false, ◌&&◌, List, [], ◌∷◌, Option, Some, None, Result, Ok, Err}
use Rattle.std.specs.Prelude.{if◌then◌else◌}
use Rattle.pldm_pdr.specs.Records.{PlatformRecord, record_of}
use Rattle.pldm_pdr.specs.declared.data.RecordData.{RecordData}
use Rattle.pldm_pdr.specs.declared.data.RecordData.TheVariants.{TerminusLocator}
use Rattle.pldm_pdr.specs.declared.fault.RecordFault.{RecordFault}
use Rattle.pldm_discovery.specs.declared.discovered.Discovered.{Discovered}

-- whether a terminus ID is the one that the device answered
abbrev pub is_tid : Option ℕ → ℕ → Bool
is_tid (Some own) tid = own == tid
is_tid None tid = false

-- the terminus handle that a valid locator gives to that terminus ID
abbrev pub handle_in : Option ℕ → RecordData → Option ℕ
handle_in own (TerminusLocator locator) =
    if locator.is_valid && is_tid own locator.tid then Some locator.terminus_handle else None
handle_in own _ = None

abbrev pub handle_read : Option ℕ → Result PlatformRecord RecordFault → Option ℕ
handle_read own (Ok r) = handle_in own r.contents
handle_read own (Err fault) = None

-- the same of a record's bytes
unfoldable pub handle_by : Option ℕ → List ℕ → Option ℕ
handle_by own pdr = handle_read own (record_of pdr)

abbrev pub or_else : Option ℕ → Option ℕ → Option ℕ
or_else (Some handle) other = Some handle
or_else None other = other

-- the handle of the asked terminus: what the first such locator gives
abbrev pub asked_handle : Option ℕ → List (List ℕ) → Option ℕ
asked_handle own [] = None
asked_handle own (pdr ∷ records) = or_else (handle_by own pdr) (asked_handle own records)

-- whether something that was found is of the asked terminus: where no locator names that, all is
abbrev pub is_asked : Option ℕ → Discovered → Bool
is_asked None found = true
is_asked (Some handle) found = found.terminus == handle
