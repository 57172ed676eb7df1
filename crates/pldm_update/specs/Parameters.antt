-- The firmware that a device has: its set of components, and each of them, as it is active and as it is pending (DSP0267,
-- "GetFirmwareParameters command").
use Rattle.std.specs.Prelude.{◌≡◌, ℕ, ◌+◌, ◌≤◌, List, [], ◌∷◌, ◌++◌, length}
use Rattle.std.specs.List.{flat_map}
use Rattle.pldm_update.specs.DataParts.{Part, Byte, Number, Bytes, Sized, IsPart, PartsIn, parts_bytes}
use Rattle.pldm_update.specs.Packages.{Each}
use Rattle.pldm_update.specs.VersionTexts.{VersionText}
use Rattle.pldm_update.specs.declared.component.Component.{Component}
use Rattle.pldm_update.specs.declared.limits.TheConstants.{MAX_TEXT_BYTES, MAX_UPDATE_DATA, RELEASE_BYTES}

-- a version of a component: the number by which versions are compared, the string, and the date of the release
pub record ComponentVersion : Type 0 where
  pub comparison_stamp : ℕ
  pub version : VersionText
  pub release : List ℕ

-- a component, its two versions, how it can be activated, and what it can do during an update
pub record ComponentParameters : Type 0 where
  pub component : Component
  pub active : ComponentVersion
  pub pending : ComponentVersion
  pub activation_methods : ℕ
  pub capabilities : ℕ

-- what the device can do during an update, the versions of the set, and the components
pub record FirmwareParameters : Type 0 where
  pub capabilities : ℕ
  pub active : VersionText
  pub pending : VersionText
  pub components : List ComponentParameters

-- the string itself stands at the end of the component
abbrev pub version_parts : ComponentVersion → List Part
version_parts v =
    Number 4 v.comparison_stamp ∷ Byte v.version.string_type ∷ Byte (length v.version.text)
    ∷ Sized RELEASE_BYTES v.release ∷ []

abbrev pub component_parts : ComponentParameters → List Part
component_parts c =
    (Number 2 c.component.classification ∷ Number 2 c.component.identifier ∷ Byte c.component.index ∷ [])
    ++ (version_parts c.active ++ (version_parts c.pending
    ++ (Number 2 c.activation_methods ∷ Number 4 c.capabilities
    ∷ Bytes c.active.version.text ∷ Bytes c.pending.version.text ∷ [])))

-- the capabilities, how many components there are, the types and lengths of the set's versions, the two strings, and the
-- components
abbrev pub parameters_parts : FirmwareParameters → List Part
parameters_parts p =
    Number 4 p.capabilities ∷ Number 2 (length p.components)
    ∷ Byte p.active.string_type ∷ Byte (length p.active.text)
    ∷ Byte p.pending.string_type ∷ Byte (length p.pending.text)
    ∷ Bytes p.active.text ∷ Bytes p.pending.text ∷ flat_map component_parts p.components

abbrev pub parameters_bytes : FirmwareParameters → List ℕ
parameters_bytes p = parts_bytes (parameters_parts p)

-- each field is in its range, and all fit one answer
abbrev pub AreParameters : FirmwareParameters → Type 0
AreParameters p = Each IsPart (parameters_parts p) × (length (parameters_bytes p) ≤ MAX_UPDATE_DATA)

-- they stand in exactly these bytes, which fit one answer
abbrev pub ParametersIn : FirmwareParameters → List ℕ → Type 0
ParametersIn p bytes = PartsIn (parameters_parts p) bytes × (length bytes ≤ MAX_UPDATE_DATA)

-- data that is kept is what they are written as
abbrev pub AreKept : FirmwareParameters → List ℕ → Type 0
AreKept p bytes = (bytes ≡ parameters_bytes p) × AreParameters p

-- with one more component
abbrev pub with_component : FirmwareParameters → ComponentParameters → FirmwareParameters
with_component p c = record p { components = p.components ++ c ∷ [] }

abbrev pub component_version : ℕ → VersionText → List ℕ → ComponentVersion
component_version comparison_stamp version release =
    record { comparison_stamp = comparison_stamp; version = version; release = release }

abbrev pub component_parameters : Component → ComponentVersion → ComponentVersion → ℕ → ℕ → ComponentParameters
component_parameters component active pending activation_methods capabilities = record {
  component = component;
  active = active;
  pending = pending;
  activation_methods = activation_methods;
  capabilities = capabilities;
}

-- a set of components with none in it yet
abbrev pub no_components : ℕ → VersionText → VersionText → FirmwareParameters
no_components capabilities active pending =
    record { capabilities = capabilities; active = active; pending = pending; components = [] }

-- a component's dates and strings have the lengths that they may have, and it fits an answer with so many bytes before it
abbrev pub FitsAfter : ℕ → ComponentParameters → Type 0
FitsAfter before c =
    (length c.active.release ≡ RELEASE_BYTES) × (length c.pending.release ≡ RELEASE_BYTES)
    × (length c.active.version.text ≤ MAX_TEXT_BYTES) × (length c.pending.version.text ≤ MAX_TEXT_BYTES)
    × (before + 39 + length c.active.version.text + length c.pending.version.text ≤ MAX_UPDATE_DATA)
