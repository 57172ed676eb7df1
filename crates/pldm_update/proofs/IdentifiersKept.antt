-- Data that is kept for descriptors: it is what they are written as, and it is read as them.
use Rattle.std.proofs.Common.{◌≡◌, ℕ, ◌+◌, ◌-◌, ◌^◌, ◌<◌, ◌≤◌, List, [], ◌∷◌, ◌++◌, length, slice_index, take, drop, Ok, refl, sym, ap, subst, ◌∙◌, arith}
use Rattle.std.proofs.lemmas.Grind.{flat_map-append}
use Rattle.std.proofs.lemmas.List.{length-append, length-drop, take_all}
use Rattle.pldm_update.specs.DataParts.{Part, part_bytes, parts_bytes, IsPart}
use Rattle.pldm_update.specs.Identifiers.{descriptor, descriptor_parts, descriptors_parts, identifiers_bytes, IsIdentifiers, IdentifiersIn, IsKept, parts_with}
use Rattle.pldm_update.specs.IdentifiersReading.{identifiers_at, descriptors_read}
use Rattle.pldm_update.specs.Packages.{Descriptor, Each}
use Rattle.pldm_update.specs.declared.limits.TheConstants.{MAX_UPDATE_DATA}
use Rattle.pldm_update.proofs.PackageSteps.{IsBytes}
use Rattle.pldm_update.proofs.IdentifiersRead.{found_in, identifiers_only, identifiers_written, identifiers_are}

abbrev pub held : List ℕ → List Descriptor
held bytes = descriptors_read (identifiers_at bytes)

held_is : (bytes : List ℕ) (ds : List Descriptor) → identifiers_at bytes ≡ Ok ds → held bytes ≡ ds
unfolding descriptors_read
held_is bytes ds e = rw e refl

-- what descriptors are written as is kept for them
pub kept_written : (bytes : List ℕ) (ds : List Descriptor) → bytes ≡ identifiers_bytes ds → IsIdentifiers ds → (held bytes ≡ ds) × IsKept (held bytes) bytes
kept_written bytes ds e ok =
    let there : IdentifiersIn ds bytes = subst (λ (l : List ℕ). IdentifiersIn ds l) (sym e) (identifiers_written ds ok) in
    let is = held_is bytes ds (identifiers_only bytes ds there) in
    (is, subst (λ (l : List Descriptor). IsKept l bytes) (sym is) (e, ok))

-- bytes that are read are kept for what they are read as
pub kept_found : (bytes : List ℕ) (ds : List Descriptor) → IsBytes bytes → identifiers_at bytes ≡ Ok ds → (held bytes ≡ ds) × IsKept (held bytes) bytes
kept_found bytes ds small e =
    let are = identifiers_are bytes ds small (found_in bytes ds e) in
    kept_written bytes ds are.0 are.1

-- what is kept is read
pub kept_is_read : (bytes : List ℕ) (ds : List Descriptor) → IsKept ds bytes → identifiers_at bytes ≡ Ok ds
kept_is_read bytes ds h = identifiers_only bytes ds (subst (λ (l : List ℕ). IdentifiersIn ds l) (sym h.0) (identifiers_written ds h.1))

-- one more after others

each_with : (ps : List Part) (qs : List Part) → Each IsPart ps → Each IsPart qs → Each IsPart (ps ++ qs)
each_with [] qs p q = q
each_with (part ∷ ps) qs p q = (p.0, each_with ps qs p.1 q)

all_with : (ds : List Descriptor) (d : Descriptor) → descriptors_parts (ds ++ d ∷ []) ≡ descriptors_parts ds ++ descriptor_parts d
all_with ds d = flat_map-append descriptor_parts ds (d ∷ [])

bytes_with : (ds : List Descriptor) (d : Descriptor) → parts_bytes (descriptors_parts (ds ++ d ∷ [])) ≡ parts_bytes (descriptors_parts ds) ++ parts_bytes (descriptor_parts d)
bytes_with ds d = ap parts_bytes (all_with ds d) ∙ flat_map-append part_bytes (descriptors_parts ds) (descriptor_parts d)

size_with : (ds : List Descriptor) (d : Descriptor) → length (parts_bytes (descriptors_parts (ds ++ d ∷ []))) ≡ length (parts_bytes (descriptors_parts ds)) + 4 + length d.content
size_with ds d =
    omega (arith, ap length (bytes_with ds d), length-append (parts_bytes (descriptors_parts ds)) (parts_bytes (descriptor_parts d)), length-append d.content [])

pub more_is : (ds : List Descriptor) (kind : ℕ) (content : List ℕ) → Each IsPart (descriptors_parts ds) → kind < 256 ^ 2 → length ds < 255
    → length (identifiers_bytes ds) + 4 + length content ≤ MAX_UPDATE_DATA → IsIdentifiers (ds ++ descriptor kind content ∷ [])
more_is ds kind content h range few fits =
    let d = descriptor kind content in
    let size = size_with ds d in
    let count = length-append ds (d ∷ []) in
    let own : Each IsPart (descriptor_parts d) = (range, (omega (arith, fits), (tt, tt))) in (
      omega (arith, count),
      (
        omega (arith, size, fits),
        (
          omega (arith, count, few),
          subst (λ (l : List Part). Each IsPart l) (sym (all_with ds d)) (each_with (descriptors_parts ds) (descriptor_parts d) h own),
        ),
      ),
      omega (arith, size, fits),
    )

pub more_written : (ds : List Descriptor) (kind : ℕ) (content : List ℕ) (count : ℕ) (first : List ℕ) → first ≡ parts_bytes (descriptors_parts ds) → count ≡ length ds + 1
    → parts_bytes (parts_with count first kind content) ≡ identifiers_bytes (ds ++ descriptor kind content ∷ [])
more_written ds kind content count first is counted =
    let d = descriptor kind content in
    let whole : length first + 4 + length content ≡ length (parts_bytes (descriptors_parts (ds ++ d ∷ []))) = omega (arith, ap length is, size_with ds d) in
    let next : count ≡ length (ds ++ d ∷ []) = omega (arith, counted, length-append ds (d ∷ [])) in
    rw (whole, next, is, bytes_with ds d) refl

pub count_byte : (ds : List Descriptor) (kept : List ℕ) → kept ≡ identifiers_bytes ds → slice_index kept 4 ≡ length ds
count_byte ds kept is = rw is refl

pub after_count : (ds : List Descriptor) (kept : List ℕ) → kept ≡ identifiers_bytes ds → take (length kept - 5) (drop 5 kept) ≡ parts_bytes (descriptors_parts ds)
after_count ds kept is = take_all (length kept - 5) (drop 5 kept) (omega (arith, length-drop 5 kept)) ∙ ap (drop 5) is
