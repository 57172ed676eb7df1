-- A package read from a file: its fields in their order, or the first fault.
use Rattle.std.specs.Prelude.{ℕ, ◌+◌, ◌-◌, ◌/◌, ◌%◌, ◌==◌, nat_le, Bool, true, ◌&&◌, not, bytes_eq, List, [], ◌∷◌}
use Rattle.std.specs.Prelude.{length, take, Result, Ok}
use Rattle.pldm_wire.specs.Crc32.{crc32}
use Rattle.pldm_update.specs.VersionTexts.{VersionText, version_text}
use Rattle.pldm_update.specs.PackageFields.{◌>>=◌, Field, byte_at, list_at, many_at, number_at, refused}
use Rattle.pldm_update.specs.Packages.{Descriptor, Device, Image, Package, package_identifier}
use Rattle.pldm_update.specs.declared.package_fault.PackageFault.{PackageFault}
use Rattle.pldm_update.specs.declared.package_fault.PackageFault.TheVariants.{Identifier, Revision, Length, Value}
use Rattle.pldm_update.specs.declared.package_fault.PackageFault.TheVariants.{Checksum, Image as WrongImage}

unfoldable pub text_at : List ℕ → Field VersionText
text_at bytes = do
  string_type ← byte_at bytes
  count ← byte_at string_type.1
  text ← list_at count.0 count.1
  Ok (version_text string_type.0 text.0, text.1)

unfoldable pub descriptor_at : List ℕ → Field Descriptor
descriptor_at bytes = do
  kind ← number_at 2 bytes
  count ← number_at 2 kind.1
  content ← list_at count.0 count.1
  Ok (record { kind = kind.0; content = content.0 }, content.1)

-- a device's record, with so many bytes of bits
unfoldable pub device_at : ℕ → List ℕ → Field Device
device_at applicable_bytes bytes = do
  size ← number_at 2 bytes
  count ← byte_at size.1
  option_flags ← number_at 4 count.1
  string_type ← byte_at option_flags.1
  text_count ← byte_at string_type.1
  data_count ← number_at 2 text_count.1
  refused (count.0 == 0) Value (do
    applicable ← list_at applicable_bytes data_count.1
    text ← list_at text_count.0 applicable.1
    descriptors ← many_at descriptor_at count.0 text.1
    package_data ← list_at data_count.0 descriptors.1
    refused (not (length package_data.1 + size.0 == length bytes)) Length (Ok (
      record {
        option_flags = option_flags.0;
        version = version_text string_type.0 text.0;
        applicable = applicable.0;
        descriptors = descriptors.0;
        package_data = package_data.0;
      },
      package_data.1,
    )))

unfoldable pub image_at : List ℕ → Field Image
image_at bytes = do
  classification ← number_at 2 bytes
  identifier ← number_at 2 classification.1
  comparison_stamp ← number_at 4 identifier.1
  options ← number_at 2 comparison_stamp.1
  activation_methods ← number_at 2 options.1
  offset ← number_at 4 activation_methods.1
  size ← number_at 4 offset.1
  version ← text_at size.1
  Ok (
    record {
      classification = classification.0;
      identifier = identifier.0;
      comparison_stamp = comparison_stamp.0;
      options = options.0;
      activation_methods = activation_methods.0;
      offset = offset.0;
      size = size.0;
      version = version.0;
    },
    version.1,
  )

-- the identifier and the revision, and then the header's size
unfoldable pub size_at : List ℕ → Field ℕ
size_at bytes = do
  identifier ← list_at 16 bytes
  refused (not (bytes_eq identifier.0 package_identifier)) Identifier (do
    revision ← byte_at identifier.1
    refused (not (revision.0 == 1)) Revision (number_at 2 revision.1))

-- the fields between the header's size and its checksum, in this file
unfoldable pub package_fields_at : List ℕ → List ℕ → Field Package
package_fields_at file bytes = do
  release ← list_at 13 bytes
  bits ← number_at 2 release.1
  refused (not (bits.0 % 8 == 0)) Value (do
    version ← text_at bits.1
    device_count ← byte_at version.1
    devices ← many_at (device_at (bits.0 / 8)) device_count.0 device_count.1
    image_count ← number_at 2 devices.1
    images ← many_at image_at image_count.0 image_count.1
    Ok (
      record {
        release = release.0;
        applicable_bytes = bits.0 / 8;
        version = version.0;
        devices = devices.0;
        images = images.0;
        file = file;
      },
      images.1,
    ))

-- whether an image stands in a file of so many bytes, behind a header of so many; and whether each does
abbrev pub is_placed : ℕ → ℕ → Image → Bool
is_placed header file i = nat_le header i.offset && nat_le (i.offset + i.size) file

abbrev pub all_placed : ℕ → ℕ → List Image → Bool
all_placed header file [] = true
all_placed header file (i ∷ images) = is_placed header file i && all_placed header file images

-- The package in the file, or the first fault: of the fields in their order, then of the header's size, its checksum, and
-- the places of the images.
abbrev pub package_of : List ℕ → Result Package PackageFault
package_of file = do
  size ← size_at file
  fields ← package_fields_at file size.1
  checksum ← number_at 4 fields.1
  refused (not (length checksum.1 + size.0 == length file)) Length
      (refused (not (checksum.0 == crc32 (take (size.0 - 4) file))) Checksum
      (refused (not (all_placed size.0 (length file) fields.0.images)) WrongImage (Ok fields.0)))
