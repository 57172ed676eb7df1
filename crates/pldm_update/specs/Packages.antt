-- A firmware update package (DSP0267, "Firmware update package header", format revision 1): what its header says, and
-- the bytes that this is written as.
use Rattle.std.specs.Prelude.{◌≡◌, ℕ, ◌+◌, ◌*◌, ◌^◌, ◌<◌, ◌≤◌, List, [], ◌∷◌, ◌++◌, length, take, drop}
use Rattle.std.specs.List.{flat_map}
use Rattle.byteorder.specs.Endian.{little_bytes}
use Rattle.pldm_wire.specs.Crc32.{crc32}
use Rattle.pldm_update.specs.VersionTexts.{VersionText, IsVersionText}
use Rattle.pldm_update.specs.PackageFields.{byte}

-- a descriptor of a device: its type and its bytes
pub record Descriptor : Type 0 where
  pub kind : ℕ
  pub content : List ℕ

-- a record of the devices that the package is for
pub record Device : Type 0 where
  pub option_flags : ℕ
  -- the version of the set of the images
  pub version : VersionText
  -- which images are for the device: a bit for each
  pub applicable : List ℕ
  -- the first one is the initial descriptor
  pub descriptors : List Descriptor
  pub package_data : List ℕ

-- an image of a component, and where it stands in the file
pub record Image : Type 0 where
  pub classification : ℕ
  pub identifier : ℕ
  pub comparison_stamp : ℕ
  pub options : ℕ
  pub activation_methods : ℕ
  pub offset : ℕ
  pub size : ℕ
  pub version : VersionText

-- the header of a package, and the file that it stands in
pub record Package : Type 0 where
  pub release : List ℕ
  -- how many bytes the bits of a device's images have
  pub applicable_bytes : ℕ
  pub version : VersionText
  pub devices : List Device
  pub images : List Image
  pub file : List ℕ

-- F018878C-CB7D-4943-9800-A02F059ACA02
abbrev pub package_identifier : List ℕ
package_identifier =
    0xF0 ∷ 0x18 ∷ 0x87 ∷ 0x8C ∷ 0xCB ∷ 0x7D ∷ 0x49 ∷ 0x43 ∷ 0x98 ∷ 0x00 ∷ 0xA0 ∷ 0x2F ∷ 0x05 ∷ 0x9A ∷ 0xCA ∷ 0x02 ∷ []

-- a version string: its type, its length, and as many bytes
abbrev pub text_bytes : VersionText → List ℕ
text_bytes version = byte version.string_type ++ byte (length version.text) ++ version.text

abbrev pub descriptor_bytes : Descriptor → List ℕ
descriptor_bytes d = little_bytes 2 d.kind ++ little_bytes 2 (length d.content) ++ d.content

-- a device's record after its length
abbrev pub device_fields_bytes : Device → List ℕ
device_fields_bytes d =
    byte (length d.descriptors) ++ little_bytes 4 d.option_flags ++ byte d.version.string_type
    ++ byte (length d.version.text) ++ little_bytes 2 (length d.package_data) ++ d.applicable ++ d.version.text
    ++ flat_map descriptor_bytes d.descriptors ++ d.package_data

-- the length counts its own two bytes
abbrev pub device_bytes : Device → List ℕ
device_bytes d = little_bytes 2 (2 + length (device_fields_bytes d)) ++ device_fields_bytes d

abbrev pub image_bytes : Image → List ℕ
image_bytes i =
    little_bytes 2 i.classification ++ little_bytes 2 i.identifier ++ little_bytes 4 i.comparison_stamp
    ++ little_bytes 2 i.options ++ little_bytes 2 i.activation_methods ++ little_bytes 4 i.offset
    ++ little_bytes 4 i.size ++ text_bytes i.version

-- the fields between the header's size and its checksum
abbrev pub package_fields_bytes : Package → List ℕ
package_fields_bytes p =
    p.release ++ little_bytes 2 (p.applicable_bytes * 8) ++ text_bytes p.version
    ++ byte (length p.devices) ++ flat_map device_bytes p.devices
    ++ little_bytes 2 (length p.images) ++ flat_map image_bytes p.images

-- all of the header: the identifier, the revision, the size and the checksum have 16, 1, 2 and 4 bytes
abbrev pub header_size : Package → ℕ
header_size p = 23 + length (package_fields_bytes p)

-- what the checksum is of
abbrev pub checked_bytes : Package → List ℕ
checked_bytes p =
    package_identifier ++ byte 1 ++ little_bytes 2 (header_size p) ++ package_fields_bytes p

abbrev pub header_bytes : Package → List ℕ
header_bytes p = checked_bytes p ++ little_bytes 4 (crc32 (checked_bytes p))

-- each of a list
abbrev pub Each : {A : Type 0} → (A → Type 0) → List A → Type 0
Each P [] = Unit {0}
Each P (x ∷ xs) = P x × Each P xs

-- the ranges of fields

abbrev pub IsDescriptor : Descriptor → Type 0
IsDescriptor d = (d.kind < 256 ^ 2) × (length d.content < 256 ^ 2)

-- a device's record with so many bytes of bits has the initial descriptor, and its length fits two bytes
abbrev pub IsDevice : ℕ → Device → Type 0
IsDevice applicable_bytes d =
    (d.option_flags < 256 ^ 4) × IsVersionText d.version × (length d.package_data < 256 ^ 2)
    × (length d.applicable ≡ applicable_bytes) × (0 < length d.descriptors) × (length d.descriptors < 256)
    × Each IsDescriptor d.descriptors × (2 + length (device_fields_bytes d) < 256 ^ 2)

abbrev pub IsImage : Image → Type 0
IsImage i =
    (i.classification < 256 ^ 2) × (i.identifier < 256 ^ 2) × (i.comparison_stamp < 256 ^ 4) × (i.options < 256 ^ 2)
    × (i.activation_methods < 256 ^ 2) × (i.offset < 256 ^ 4) × (i.size < 256 ^ 4) × IsVersionText i.version

abbrev pub IsPackage : Package → Type 0
IsPackage p =
    (length p.release ≡ 13) × (p.applicable_bytes * 8 < 256 ^ 2) × IsVersionText p.version
    × (length p.devices < 256) × Each (IsDevice p.applicable_bytes) p.devices
    × (length p.images < 256 ^ 2) × Each IsImage p.images × (header_size p < 256 ^ 2)

-- an image stands in a file of so many bytes, behind a header of so many
abbrev pub IsPlaced : ℕ → ℕ → Image → Type 0
IsPlaced header file i = (header ≤ i.offset) × (i.offset + i.size ≤ file)

-- the bytes of an image in a file
abbrev pub image_in : Image → List ℕ → List ℕ
image_in i file = take i.size (drop i.offset file)

-- the file begins with the package's header, and each image stands behind it
pub record HasPackage (file : List ℕ) (p : Package) : Type 0 where
  pub is : p.file ≡ file
  pub range : IsPackage p
  pub after : List ℕ
  pub begins : file ≡ header_bytes p ++ after
  pub placed : Each (IsPlaced (header_size p) (length file)) p.images
