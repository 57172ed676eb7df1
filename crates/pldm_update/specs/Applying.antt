-- Which device record of a package is for a device: each of its descriptors is among those that identify the device
-- (DSP0267, "Firmware device identification records").
use Rattle.std.specs.Prelude.{◌≡◌, ◌==◌, Bool, ◌&&◌, bytes_eq, List, [], ◌∷◌, ◌⊎◌}
use Rattle.std.specs.List.{list_all, list_any}
use Rattle.pldm_update.specs.Packages.{Descriptor, Device, Each}

-- the same type, and the same bytes
abbrev pub is_same : Descriptor → Descriptor → Bool
is_same one other = (one.kind == other.kind) && bytes_eq one.content other.content

abbrev pub is_among : List Descriptor → Descriptor → Bool
is_among identifiers d = list_any (is_same d) identifiers

abbrev pub applies_to : List Descriptor → Device → Bool
applies_to identifiers device = list_all (is_among identifiers) device.descriptors

-- the same without tests: each of the record's descriptors is one of the device's
abbrev pub IsAmong : List Descriptor → Descriptor → Type 0
IsAmong [] d = ⊥
IsAmong (own ∷ others) d = (d ≡ own) ⊎ IsAmong others d

abbrev pub Applies : List Descriptor → Device → Type 0
Applies identifiers device = Each (IsAmong identifiers) device.descriptors
