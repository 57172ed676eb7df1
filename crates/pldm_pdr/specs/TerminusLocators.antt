-- The terminus locator record, for an MCTP endpoint ID (DSP0248, "Terminus locator PDR").
use Rattle.std.specs.Prelude.{ℕ, List, ◌++◌, Ok}
use Rattle.byteorder.specs.Endian.{little_bytes}
use Rattle.pldm_wire.specs.Numbers.{IsU8, IsU16}
use Rattle.pldm_pdr.specs.declared.limits.TheConstants.{MCTP_EID, EID_BYTES}
use Rattle.pldm_pdr.specs.declared.fault.RecordFault.TheVariants.{Locator}
use Rattle.pldm_pdr.specs.declared.locator.TerminusLocator.{TerminusLocator}
use Rattle.pldm_pdr.specs.Fields.{◌>>=◌, Field, byte, byte_at, constant_at, flag, flag_at, number_at}

-- handle, validity, terminus ID, container, then the kind of the address, its size and the address
abbrev pub terminus_locator_bytes : TerminusLocator → List ℕ
terminus_locator_bytes locator =
    little_bytes 2 locator.terminus_handle ++ flag locator.is_valid ++ byte locator.tid
    ++ little_bytes 2 locator.container_id ++ byte MCTP_EID ++ byte EID_BYTES ++ byte locator.eid

abbrev pub IsTerminusLocator : TerminusLocator → Type 0
IsTerminusLocator locator =
    IsU16 locator.terminus_handle × IsU8 locator.tid × IsU16 locator.container_id × IsU8 locator.eid

unfoldable pub terminus_locator_at : List ℕ → Field TerminusLocator
terminus_locator_at bytes = do
  handle ← number_at 2 bytes
  is_valid ← flag_at handle.1
  tid ← byte_at is_valid.1
  container ← number_at 2 tid.1
  kind ← constant_at Locator MCTP_EID container.1
  count ← constant_at Locator EID_BYTES kind
  eid ← byte_at count
  Ok (
    record {
      terminus_handle = handle.0;
      is_valid = is_valid.0;
      tid = tid.0;
      container_id = container.0;
      eid = eid.0;
    },
    eid.1,
  )
