-- The settings with which C makes an endpoint.
use Rattle.std.specs.Prelude.{◌≡◌, ℕ, ◌≤◌, ◌==◌, true, false, MatchBool, [], Option, Some, None, ◌⊎◌, if◌then◌else◌, Bool}
use Rattle.mctp_control.specs.declared.control_responder.ControlResponder.{ControlResponder}
use Rattle.mctp_packet.specs.Ids.{IsEid, IsKeep}
use Rattle.mctp_packet.specs.declared.TheConstants.{NULL_EID}
use Rattle.pldm_wire.specs.HandingOn.{none_handed_on}
use Rattle.pldm_wire.specs.declared.assigned.TheConstants.{INSTANCE_IDS}
use Rattle.pldm_wire.specs.declared.restart_policy.RestartPolicy.{RestartPolicy}
use Rattle.pldm_wire.specs.declared.restart_policy.RestartPolicy.TheVariants.{All, Sets}
use Rattle.pldm_wire.specs.declared.pass_through.PassThrough.{PassThrough}
use Rattle.pldm_requester.specs.declared.pace.Pace.{Pace}
use Rattle.pldm_responder.specs.declared.responder_settings.ResponderSettings.{ResponderSettings}
use Rattle.needleoat_c.specs.declared.kinds.TheConstants.{BUSY_ALL, BUSY_SETS}
use Rattle.needleoat_c.specs.declared.settings.EndpointSettings.{EndpointSettings}
use Rattle.needleoat_c.specs.declared.settings.RequesterSettings.{RequesterSettings}

-- the two kinds of busy time
abbrev pub IsBusyKind : ℕ → Type 0
IsBusyKind busy = (busy ≡ BUSY_ALL) ⊎ (busy ≡ BUSY_SETS)

-- a keeping time, a window of no more than all instance IDs, and a kind of busy time
abbrev pub IsKeeping : EndpointSettings → Type 0
IsKeeping s = IsKeep s.keep_ms × (s.window ≤ INSTANCE_IDS) × IsBusyKind s.busy

-- an endpoint ID; where a bus owner assigns it, by control messages, the static one, or none
abbrev pub IsOwnEid : EndpointSettings → Type 0
IsOwnEid s =
    MatchBool s.assigned ((s.answers_control ≡ true) × ((s.own ≡ NULL_EID) ⊎ IsEid s.own)) (IsEid s.own)

-- endpoint IDs, and how answers are kept
abbrev pub IsSetup : EndpointSettings → Type 0
IsSetup s = IsOwnEid s × IsKeeping s

-- the endpoint ID that it has at first
abbrev pub first_eid : EndpointSettings → Option ℕ
first_eid s = if s.assigned then None else Some s.own

-- the static one, if there is one
abbrev pub static_eid : EndpointSettings → Option ℕ
static_eid s = if s.own == NULL_EID then None else Some s.own

-- what answers its control messages: a later copy of an assignment is known for the keeping time
abbrev pub responder_in : EndpointSettings → ControlResponder
responder_in s = record {
  eid = first_eid s;
  static_eid = static_eid s;
  takes_eid = s.assigned;
  keep = s.keep_ms;
  kept = [];
  uuid = s.uuid;
  base_version = s.base_version;
  control_version = s.control_version;
  pldm_version = s.pldm_version;
}

-- the same, where they are answered
abbrev pub control_in : EndpointSettings → Option ControlResponder
control_in s = if s.answers_control then Some (responder_in s) else None

-- a window of 0 stands for all instance IDs
abbrev pub window_in : ℕ → ℕ
window_in window = if window == 0 then INSTANCE_IDS else window

-- a lifetime of 0 stands for the keeping time
abbrev pub lifetime_in : (lifetime keep : ℕ) → ℕ
lifetime_in lifetime keep = if lifetime == 0 then keep else lifetime

-- a pace of these settings
abbrev pub pace_of : (lifetime keep window : ℕ) → Bool → Pace
pace_of lifetime keep window brief =
    record { lifetime = lifetime_in lifetime keep; window = window_in window; spread = false; brief = brief }

-- the pace of a requester
abbrev pub pace_in : RequesterSettings → Pace
pace_in s = pace_of s.lifetime_ms s.keep_ms s.window s.brief

abbrev pub busy_in : ℕ → RestartPolicy
busy_in busy = if busy == BUSY_SETS then Sets none_handed_on else All

-- which requests are handed on as bytes
abbrev pub handed_in : EndpointSettings → PassThrough
handed_in s = record { pldm_types = s.pldm_types; unknown_commands = s.unknown_commands }

abbrev pub keeping_in : EndpointSettings → ResponderSettings
keeping_in s = record { keep = s.keep_ms; window = window_in s.window; busy = busy_in s.busy }
