-- Data that is kept for firmware parameters: it is what they are written as, and it is read as them.
use Rattle.std.proofs.Common.{◌≡◌, ℕ, ◌+◌, ◌^◌, ◌<◌, List, [], ◌∷◌, ◌++◌, length, take, drop, Ok, refl, sym, ap, subst, ◌∙◌, arith}
use Rattle.std.proofs.lemmas.Grind.{flat_map-append}
use Rattle.std.proofs.lemmas.List.{append-nil, length-append}
use Rattle.std.specs.List.{flat_map}
use Rattle.byteorder.specs.Endian.{little_bytes, little_number}
use Rattle.pldm_update.specs.DataParts.{Part, Byte, Number, Bytes, part_bytes, parts_bytes, IsPart}
use Rattle.pldm_update.specs.Packages.{Each}
use Rattle.pldm_update.specs.Parameters.{ComponentVersion, ComponentParameters, FirmwareParameters, version_parts, component_parts, parameters_bytes, AreParameters, ParametersIn, AreKept, FitsAfter, with_component}
use Rattle.pldm_update.specs.ParametersReading.{parameters_at, parameters_read}
use Rattle.pldm_update.proofs.PackageSteps.{IsBytes}
use Rattle.pldm_update.proofs.ParametersRead.{found_in, parameters_only, parameters_written, parameters_are}

abbrev pub held : List ℕ → FirmwareParameters
held bytes = parameters_read (parameters_at bytes)

held_is : (bytes : List ℕ) (p : FirmwareParameters) → parameters_at bytes ≡ Ok p → held bytes ≡ p
unfolding parameters_read
held_is bytes p e = rw e refl

-- what parameters are written as is kept for them
pub kept_written : (bytes : List ℕ) (p : FirmwareParameters) → bytes ≡ parameters_bytes p → AreParameters p → (held bytes ≡ p) × AreKept (held bytes) bytes
kept_written bytes p e ok =
    let there : ParametersIn p bytes = subst (λ (l : List ℕ). ParametersIn p l) (sym e) (parameters_written p ok) in
    let is = held_is bytes p (parameters_only bytes p there) in
    (is, subst (λ (q : FirmwareParameters). AreKept q bytes) (sym is) (e, ok))

-- bytes that are read are kept for what they are read as
pub kept_found : (bytes : List ℕ) (p : FirmwareParameters) → IsBytes bytes → parameters_at bytes ≡ Ok p → (held bytes ≡ p) × AreKept (held bytes) bytes
kept_found bytes p small e =
    let are = parameters_are bytes p small (found_in bytes p e) in
    kept_written bytes p are.0 are.1

-- what is kept is read
pub kept_is_read : (bytes : List ℕ) (p : FirmwareParameters) → AreKept p bytes → parameters_at bytes ≡ Ok p
kept_is_read bytes p h = parameters_only bytes p (subst (λ (l : List ℕ). ParametersIn p l) (sym h.0) (parameters_written p h.1))

-- parts in their ranges, before and after

each_with : (ps qs : List Part) → Each IsPart ps → Each IsPart qs → Each IsPart (ps ++ qs)
each_with [] qs p q = q
each_with (part ∷ ps) qs p q = (p.0, each_with ps qs p.1 q)

each_before : (ps qs : List Part) → Each IsPart (ps ++ qs) → Each IsPart ps
each_before [] qs h = tt
each_before (part ∷ ps) qs h = (h.0, each_before ps qs h.1)

each_after : (ps qs : List Part) → Each IsPart (ps ++ qs) → Each IsPart qs
each_after [] qs h = h
each_after (part ∷ ps) qs h = each_after ps qs h.1

-- a component

last_parts : ComponentParameters → List Part
last_parts c = Number 2 c.activation_methods ∷ Number 4 c.capabilities ∷ Bytes c.active.version.text ∷ Bytes c.pending.version.text ∷ []

versions_bytes : (c : ComponentParameters) → parts_bytes (version_parts c.active ++ (version_parts c.pending ++ last_parts c))
    ≡ parts_bytes (version_parts c.active) ++ (parts_bytes (version_parts c.pending) ++ parts_bytes (last_parts c))
versions_bytes c =
    flat_map-append part_bytes (version_parts c.active) (version_parts c.pending ++ last_parts c)
    ∙ ap (λ (l : List ℕ). parts_bytes (version_parts c.active) ++ l) (flat_map-append part_bytes (version_parts c.pending) (last_parts c))

version_length : (v : ComponentVersion) → Each IsPart (version_parts v) → length (parts_bytes (version_parts v)) ≡ 14
version_length v h = omega (arith, h.1.1.1.0, length-append v.release [])

versions_of : (c : ComponentParameters) → Each IsPart (component_parts c) → Each IsPart (version_parts c.active) × Each IsPart (version_parts c.pending)
unfolding last_parts
versions_of c h =
    let after = each_after (version_parts c.active) (version_parts c.pending ++ last_parts c) h.1.1.1 in
    (each_before (version_parts c.active) (version_parts c.pending ++ last_parts c) h.1.1.1, each_before (version_parts c.pending) (last_parts c) after)

component_length : (c : ComponentParameters) → Each IsPart (component_parts c) → length (parts_bytes (component_parts c)) ≡ 39 + length c.active.version.text + length c.pending.version.text
unfolding last_parts
component_length c h =
    let both = versions_of c h in
    let active = parts_bytes (version_parts c.active) in
    let pending = parts_bytes (version_parts c.pending) in
    let last = parts_bytes (last_parts c) in
    omega (
      arith,
      ap length (versions_bytes c),
      length-append active (pending ++ last),
      length-append pending last,
      version_length c.active both.0,
      version_length c.pending both.1,
      length-append c.active.version.text (c.pending.version.text ++ []),
      length-append c.pending.version.text [],
    )

-- one more component

rest_parts : FirmwareParameters → List Part
rest_parts p =
    Byte p.active.string_type ∷ Byte (length p.active.text) ∷ Byte p.pending.string_type ∷ Byte (length p.pending.text)
    ∷ Bytes p.active.text ∷ Bytes p.pending.text ∷ flat_map component_parts p.components

rest_with : (p : FirmwareParameters) (c : ComponentParameters) → rest_parts (with_component p c) ≡ rest_parts p ++ component_parts c
unfolding rest_parts
rest_with p c =
    ap (λ (l : List Part). Byte p.active.string_type ∷ Byte (length p.active.text) ∷ Byte p.pending.string_type ∷ Byte (length p.pending.text)
    ∷ Bytes p.active.text ∷ Bytes p.pending.text ∷ l) (flat_map-append component_parts p.components (c ∷ []) ∙ ap (λ (l : List Part). flat_map component_parts p.components ++ l) (append-nil (component_parts c)))

rest_bytes : (p : FirmwareParameters) (c : ComponentParameters) → parts_bytes (rest_parts (with_component p c)) ≡ parts_bytes (rest_parts p) ++ parts_bytes (component_parts c)
rest_bytes p c = ap parts_bytes (rest_with p c) ∙ flat_map-append part_bytes (rest_parts p) (component_parts c)

more_length : (p : FirmwareParameters) (c : ComponentParameters) → length (parameters_bytes (with_component p c)) ≡ length (parameters_bytes p) + length (parts_bytes (component_parts c))
unfolding rest_parts
more_length p c = omega (arith, ap length (rest_bytes p c), length-append (parts_bytes (rest_parts p)) (parts_bytes (component_parts c)))

pub more_are : (p : FirmwareParameters) (c : ComponentParameters) → AreParameters p → Each IsPart (component_parts c) → length p.components < 65535
    → FitsAfter (length (parameters_bytes p)) c → AreParameters (with_component p c)
unfolding rest_parts
more_are p c h own few fits = (
  (
    h.0.0,
    (
      omega (arith, few, length-append p.components (c ∷ [])),
      subst (λ (l : List Part). Each IsPart l) (sym (rest_with p c)) (each_with (rest_parts p) (component_parts c) h.0.1.1 own),
    ),
  ),
  omega (arith, more_length p c, component_length c own, fits.4),
)

last_is : (p : FirmwareParameters) (c : ComponentParameters) → AreParameters (with_component p c) → Each IsPart (component_parts c)
unfolding rest_parts
last_is p c h = each_after (rest_parts p) (component_parts c) (subst (λ (l : List Part). Each IsPart l) (rest_with p c) h.0.1.1)

pub more_fits : (p : FirmwareParameters) (c : ComponentParameters) → AreParameters (with_component p c) → (length p.components < 65535) × FitsAfter (length (parameters_bytes p)) c
more_fits p c h =
    let own = last_is p c h in
    let both = versions_of c own in (
      omega (arith, h.0.1.0, length-append p.components (c ∷ [])),
      (
        both.0.1.1.1.0,
        both.1.1.1.1.0,
        omega (arith, both.0.1.1.0),
        omega (arith, both.1.1.1.0),
        omega (arith, h.1, more_length p c, component_length c own),
      ),
    )

pub more_written : (p : FirmwareParameters) (c : ComponentParameters) (kept : List ℕ) (count : ℕ) → kept ≡ parameters_bytes p → count ≡ length p.components + 1
    → (take 4 kept ++ (little_bytes 2 count ++ [])) ++ (drop 2 (drop 4 kept) ++ parts_bytes (component_parts c)) ≡ parameters_bytes (with_component p c)
unfolding rest_parts
more_written p c kept count is counted =
    let next : count ≡ length (with_component p c).components = omega (arith, counted, length-append p.components (c ∷ [])) in
    rw (is, next) (ap (λ (l : List ℕ). little_bytes 4 p.capabilities ++ (little_bytes 2 (length (with_component p c).components) ++ l)) (sym (rest_bytes p c)))

count_at : (p : FirmwareParameters) (kept : List ℕ) → kept ≡ parameters_bytes p → length p.components < 256 ^ 2 → little_number 2 (drop 4 kept) ≡ length p.components
count_at p kept is few = rw is (omega (arith, few))

pub number_is : (p : FirmwareParameters) (kept rest : List ℕ) → kept ≡ parameters_bytes p → rest ≡ drop 4 kept → AreParameters p → little_number 2 rest ≡ length p.components
number_is p kept rest is front h = ap (little_number 2) front ∙ count_at p kept is h.0.1.0
