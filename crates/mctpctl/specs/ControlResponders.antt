-- What control messages find at a served device where its description does not say it, and its endpoint ID at first.
use Rattle.std.specs.Prelude.{ℕ, Bool, List, [], ◌∷◌, Option, None, Some, unwrap_or, if◌then◌else◌}
use Rattle.mctp_control.specs.declared.control_responder.ControlResponder.{ControlResponder}
use Rattle.pldm_device.specs.declared.control_table.ControlTable.{ControlTable}

-- of version 8 (RFC 9562); the last byte is the endpoint ID
abbrev pub default_uuid : ℕ → List ℕ
default_uuid eid =
    0x4e ∷ 0x65 ∷ 0x65 ∷ 0x64 ∷ 0x6c ∷ 0x65 ∷ 0x8f ∷ 0x61 ∷ 0x80 ∷ 0x74 ∷ 0 ∷ 0 ∷ 0 ∷ 0 ∷ 0 ∷ eid ∷ []

-- 1.3.1, of the base specification and of control messages (DSP0236, "Version field encoding")
abbrev pub default_base_version : List ℕ
default_base_version = 0xf1 ∷ 0xf3 ∷ 0xf1 ∷ 0x00 ∷ []

-- 1.0.0 of PLDM over MCTP (DSP0241)
abbrev pub default_pldm_version : List ℕ
default_pldm_version = 0xf1 ∷ 0xf0 ∷ 0xf0 ∷ 0x00 ∷ []

-- the endpoint ID at first: none where a bus owner is to assign one
abbrev pub eid_at_first : ℕ → Bool → Option ℕ
eid_at_first eid assigned = if assigned then None else Some eid

-- the control responder that a description's table makes, with defaults for what the table does not say
abbrev pub responder_of : (eid keep : ℕ) → ControlTable → ControlResponder
responder_of eid keep table = record {
  eid = eid_at_first eid table.assigned;
  static_eid = Some eid;
  takes_eid = table.assigned;
  keep = keep;
  kept = [];
  uuid = unwrap_or table.uuid (default_uuid eid);
  base_version = unwrap_or table.base_version default_base_version;
  control_version = unwrap_or table.control_version default_base_version;
  pldm_version = unwrap_or table.pldm_version default_pldm_version;
}
