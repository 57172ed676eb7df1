-- What a file offers to a device: the images of a package that its first record for the device names, or the one image
-- (DSP0267, "Firmware device identification records", "Component image information").
use Rattle.std.specs.Prelude.{◌≡◌, ◌⊎◌, ℕ, ◌+◌, ◌/◌, ◌%◌, ◌^◌, ◌==◌, nat_lt, nat_le, min, Bool, ◌&&◌, List, [], ◌∷◌, ◌++◌, length, map, slice_index, Option, Some, None, Result, Ok, Err, if◌then◌else◌}
use Rattle.std.specs.List.{find, list_any}
use Rattle.pldm_update.specs.Applying.{applies_to}
use Rattle.pldm_update.specs.Packages.{Descriptor, Device, Image, Package, image_in}
use Rattle.pldm_update.specs.Parameters.{ComponentParameters, FirmwareParameters}
use Rattle.pldm_update.specs.VersionTexts.{VersionText, version_text}
use Rattle.pldm_update.specs.declared.component.Component.{Component}
use Rattle.pldm_update.specs.declared.limits.TheConstants.{MAX_TEXT_BYTES}
use Rattle.mctp_packet.specs.declared.memory.Memory.{Memory as MemoryRefused}
use Rattle.mctpctl_update.specs.Brought.{Contents, APackage, AnImage}
use Rattle.update_line.specs.declared.offer.Offer.{Offer}
use Rattle.mctpctl_update.specs.declared.offers.ImageOptions.{ImageOptions}
use Rattle.mctpctl_update.specs.declared.offers.OfferFault.{OfferFault}
use Rattle.mctpctl_update.specs.declared.offers.OfferFault.TheVariants.{NoRecord, NoImage, NoComponent, Components, Version, Memory}
use Rattle.mctpctl_update.specs.declared.offers.TheConstants.{MAX_IMAGES}

-- an image that is offered
pub record Offered : Type 0 where
  pub component : Component
  pub comparison_stamp : ℕ
  pub option_flags : ℕ
  pub version : VersionText
  pub image : List ℕ

abbrev pub offered : Offer → Offered
offered offer = record {
  component = offer.component;
  comparison_stamp = offer.comparison_stamp;
  option_flags = offer.option_flags;
  version = offer.version;
  image = offer.image.now;
}

-- the value goes on; a fault ends it
abbrev pub then_with : {A B : Type 0} → Result A OfferFault → (A → Result B OfferFault) → Result B OfferFault
then_with (Ok x) f = f x
then_with (Err fault) f = Err fault

infixl 10 ◌>>=◌
abbrev pub ◌>>=◌ : {A B : Type 0} → Result A OfferFault → (A → Result B OfferFault) → Result B OfferFault
r >>= f = then_with r f

abbrev pub or_fault : {A : Type 0} → Option A → OfferFault → Result A OfferFault
or_fault None fault = Err fault
or_fault (Some x) fault = Ok x

-- the version, where its length fits a byte
abbrev pub short_version : VersionText → Option VersionText
short_version version = if nat_le (length version.text) MAX_TEXT_BYTES then Some version else None

-- an image

abbrev pub is_same : Component → Component → Bool
is_same component own =
    (own.classification == component.classification) && (own.identifier == component.identifier)
    && (own.index == component.index)

abbrev pub has_component : FirmwareParameters → Component → Bool
has_component parameters component = list_any (λ own. is_same component own.component) parameters.components

abbrev pub only_of : List ComponentParameters → Result Component OfferFault
only_of [] = Err NoComponent
only_of (own ∷ []) = Ok own.component
only_of (own ∷ other ∷ others) = Err Components

-- the component that was named, where the device has it; its only one, where none was
abbrev pub component_for : Option Component → FirmwareParameters → Result Component OfferFault
component_for None parameters = only_of parameters.components
component_for (Some component) parameters =
    if has_component parameters component then Ok component else Err NoComponent

-- the type 1 is ASCII
abbrev pub image_offer : List ℕ → ImageOptions → FirmwareParameters → Result Offered OfferFault
image_offer image options parameters = do
  component ← component_for options.component parameters
  version ← or_fault (short_version (version_text 1 options.version.now)) Version
  Ok (record {
    component = component;
    comparison_stamp = 0;
    option_flags = 0;
    version = version;
    image = image;
  })

-- a package

-- the image of this number is for the devices of a record: bit n % 8 of byte n / 8 for image n
abbrev pub is_applicable : Device → ℕ → Bool
is_applicable d number =
    nat_lt number MAX_IMAGES && (slice_index d.applicable (number / 8) / 2 ^ (number % 8) % 2 == 1)

abbrev pub is_of : Image → ComponentParameters → Bool
is_of image own =
    (own.component.classification == image.classification) && (own.component.identifier == image.identifier)

abbrev pub own_component : Option ComponentParameters → Option Component
own_component None = None
own_component (Some own) = Some own.component

-- the bytes of an image, where the file has them
abbrev pub bytes_of : Package → Image → Option (List ℕ)
bytes_of p image =
    if nat_le (image.offset + image.size) (length p.file) then Some (image_in image p.file) else None

-- it is for the device's first component of its classification and identifier. Of its options the device gets the one
-- to take it whatever it has, bit 0
abbrev pub package_offer : Package → FirmwareParameters → Image → Result Offered OfferFault
package_offer p parameters image = do
  component ← or_fault (own_component (find (is_of image) parameters.components)) NoComponent
  version ← or_fault (short_version image.version) Version
  bytes ← or_fault (bytes_of p image) NoImage
  Ok (record {
    component = component;
    comparison_stamp = image.comparison_stamp;
    option_flags = image.options % 2;
    version = version;
    image = bytes;
  })

abbrev pub with_front : List Offered → Result (List Offered) OfferFault → Result (List Offered) OfferFault
with_front front (Ok others) = Ok (front ++ others)
with_front front (Err fault) = Err fault

abbrev pub before : Result Offered OfferFault → Result (List Offered) OfferFault → Result (List Offered) OfferFault
before (Ok offer) others = with_front (offer ∷ []) others
before (Err fault) others = Err fault

-- a package has no more than 65,535 images
abbrev pub number_after : ℕ → ℕ
number_after number = min (number + 1) MAX_IMAGES

module _ (p : Package) (parameters : FirmwareParameters) (d : Device) where
  -- the offers of these images, the first of which has this number; or the first fault
  abbrev pub offers_of : ℕ → List Image → Result (List Offered) OfferFault
  offers_of number [] = Ok []
  offers_of number (image ∷ images) =
      if is_applicable d number
      then before (package_offer p parameters image) (offers_of (number_after number) images)
      else offers_of (number_after number) images

abbrev pub some_offered : Result (List Offered) OfferFault → Result (List Offered) OfferFault
some_offered (Ok []) = Err NoImage
some_offered r = r

abbrev pub package_offers : Package → FirmwareParameters → Option Device → Result (List Offered) OfferFault
package_offers p parameters None = Err NoRecord
package_offers p parameters (Some d) = some_offered (offers_of p parameters d 0 p.images)

abbrev pub alone : Result Offered OfferFault → Result (List Offered) OfferFault
alone (Ok offer) = Ok (offer ∷ [])
alone (Err fault) = Err fault

-- what a file offers to a device that says this of itself
abbrev pub offers_for : Contents → ImageOptions → List Descriptor → FirmwareParameters → Result (List Offered) OfferFault
offers_for (AnImage image) options identifiers parameters = alone (image_offer image options parameters)
offers_for (APackage p) options identifiers parameters =
    package_offers p parameters (find (applies_to identifiers) p.devices)

-- the version of all that it offers
abbrev pub record_version : Option Device → Option VersionText
record_version None = None
record_version (Some d) = short_version d.version

abbrev pub version_for : Contents → ImageOptions → List Descriptor → Option VersionText
version_for (AnImage image) options identifiers = short_version (version_text 1 options.version.now)
version_for (APackage p) options identifiers = record_version (find (applies_to identifiers) p.devices)

abbrev pub IsMemory : OfferFault → Type 0
IsMemory fault = (refused : MemoryRefused) × (fault ≡ Memory refused)

-- just these are offered, or memory was lacking
abbrev pub AreOffered : Result (List Offer) OfferFault → Result (List Offered) OfferFault → Type 0
AreOffered (Ok offers) wanted = wanted ≡ Ok (map offered offers)
AreOffered (Err fault) wanted = IsMemory fault ⊎ (wanted ≡ Err fault)

abbrev pub items_of : {A B : Type 0} → (A → List B) → Result A OfferFault → Result (List B) OfferFault
items_of items (Ok offers) = Ok (items offers)
items_of items (Err fault) = Err fault
