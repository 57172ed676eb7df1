-- Each record that is made describes the device.
use Rattle.std.proofs.Common.{◌≡◌, ℕ, zero, suc, ◌++◌, ◌∷◌, [], List, Bool, true, false, ◌||◌, IsTrue, if◌then◌else◌, nat_lt, length, map, slice_get, Option, Some, None, is_some, Result, Ok, Err, refl, sym, ap, subst, ◌∙◌, append_assoc}
use Rattle.std.proofs.Common.{append-nil}
use Rattle.std.specs.List.{All}
use Rattle.std.proofs.lemmas.List.Elements.{All-nil, All-push}
use Rattle.toml.specs.Data.{Members}
use Rattle.pldm_wire.specs.declared.state_fields.SensorStateField.{SensorStateField}
use Rattle.pldm_pdr.proofs.StatesAmong.{possible_where_among}
use Rattle.pldm_pdr.specs.Records.{bytes_of, data_fits, platform_record}
use Rattle.pldm_pdr.specs.declared.data.RecordData.{RecordData}
use Rattle.pldm_pdr.specs.declared.entity.Entity.{Entity}
use Rattle.pldm_pdr.specs.declared.possible_states.PossibleStates.{PossibleStates}
use Rattle.pldm_records.specs.ById.{has_id}
use Rattle.pldm_records.specs.Records.{is_record}
use Rattle.pldm_records.specs.declared.limits.TheConstants.{MAX_RECORDS}
use Rattle.simulated_device.specs.Devices.{Device}
use Rattle.pldm_device.specs.KeyValues.{◌>>=◌}
use Rattle.pldm_device.specs.MadeRecords.{made_after, next_handle, record_bytes, record_made, with_made, with_room}
use Rattle.pldm_device.specs.RecordEntries.{checked, with_record}
use Rattle.pldm_device.specs.RecordLaws.{HandlesDiffer, HaveStates, HasStates, IsRecordOf, Describes}
use Rattle.pldm_device.specs.RecordKeys.{entity_at, name_at}
use Rattle.pldm_device.specs.SensorRecords.{possible, sensor_named, states_of_field, thing_made}
use Rattle.pldm_device.specs.EffecterRecords.{effecter_named}
use Rattle.pldm_device.specs.declared.description_fault.FileFault.{FileFault}
use Rattle.pldm_device.specs.declared.description_fault.FileFault.TheVariants.{BadRecord, OutOfRange}
use Rattle.pldm_device.specs.declared.made_records.MadeRecords.{MadeRecords}
use Rattle.pldm_device.proofs.HandlesApart.{added_last, still_differ}

-- a step that came to an end gave a value, and so did what follows
pub record Came {A B : Type 0} (r : Result A FileFault) (f : A → Result B FileFault) (y : B) : Type 0 where
  pub value : A
  pub first : r ≡ Ok value
  pub next : f value ≡ Ok y

pub came : {A B : Type 0} (r : Result A FileFault) (f : A → Result B FileFault) (y : B) → (r >>= f) ≡ Ok y → Came r f y
came (Ok x) f y e = record { value = x; first = refl; next = e }
came (Err fault) f y e = cc

-- a value that passed a test
pub passed : {A : Type 0} (test : Bool) (x y : A) (fault : FileFault) → (if test then Ok x else Err fault) ≡ Ok y → x ≡ y
passed true x y fault e = cc
passed false x y fault e = cc

-- the records so far: those before, and more that describe the device
pub record IsMadeAfter (eid : ℕ) (device : Device) (before : List (List ℕ)) (made : MadeRecords) : Type 0 where
  pub more : List (List ℕ)
  pub joined : made.records ≡ before ++ more
  pub described : All (IsRecordOf eid device) more
  pub differ : HandlesDiffer before → HandlesDiffer made.records

pub none_made : (eid : ℕ) (device : Device) (before : List (List ℕ)) → IsMadeAfter eid device before (made_after before)
none_made eid device before = record { more = []; joined = sym (append-nil before); described = All-nil (IsRecordOf eid device); differ = λ h. h }

-- a step that is done
abbrev done : {A : Type 0} → A → Result A FileFault
done x = Ok x

pub same_done : {A : Type 0} (x y : A) → done x ≡ Ok y → x ≡ y
same_done x y e = cc

kept_records : (m after : MadeRecords) → done m ≡ Ok after → after.records ≡ m.records
kept_records m after e = ap (λ (x : MadeRecords). x.records) (sym (same_done m after e))

-- one more
pub one_made : (eid : ℕ) (device : Device) (before : List (List ℕ)) (contents : RecordData) (made after : MadeRecords) → IsMadeAfter eid device before made → Describes eid device contents → with_made contents made ≡ Ok after → IsMadeAfter eid device before after
unfolding with_made
one_made eid device before contents made after h tells e =
    let a = came (next_handle made.last_handle) (λ handle. record_made contents handle >>= λ pdr. with_room made.records >>= λ room. with_record room pdr >>= λ records. Ok (record { records = records; last_handle = handle })) after e in
    let handle = a.value in
    let b = came (record_made contents handle) (λ pdr. with_room made.records >>= λ room. with_record room pdr >>= λ records. Ok (record { records = records; last_handle = handle })) after a.next in
    let pdr = b.value in
    let c = came (with_room made.records) (λ room. with_record room pdr >>= λ records. Ok (record { records = records; last_handle = handle })) after b.next in
    let d = came (with_record c.value pdr) (λ records. Ok (record { records = records; last_handle = handle })) after c.next in
    let m = came (record_bytes contents handle) checked pdr b.first in
    let bytes : bytes_of (platform_record handle 0 contents) ≡ m.value = passed (data_fits contents) (bytes_of (platform_record handle 0 contents)) m.value OutOfRange m.first in
    let whole : m.value ≡ pdr = passed (is_record m.value) m.value pdr BadRecord m.next in
    let room : made.records ≡ c.value = passed (nat_lt (length made.records) MAX_RECORDS) made.records c.value OutOfRange c.first in
    let added : c.value ++ pdr ∷ [] ≡ d.value = added_last c.value pdr d.value d.first in
    let records : after.records ≡ d.value = kept_records (record { records = d.value; last_handle = handle }) after d.next in
    record {
      more = h.more ++ pdr ∷ [];
      joined = records ∙ sym added ∙ ap (λ (x : List (List ℕ)). x ++ pdr ∷ []) (sym room ∙ h.joined) ∙ append_assoc before h.more (pdr ∷ []);
      described = All-push (IsRecordOf eid device) h.more pdr h.described (record { handle = handle; contents = contents; spelled = sym whole ∙ sym bytes; described = tells });
      differ = λ distinct. subst (λ (x : List (List ℕ)). HandlesDiffer x) (sym records) (still_differ c.value pdr d.value d.first (subst (λ (x : List (List ℕ)). HandlesDiffer x) room (h.differ distinct)));
    }

-- the record of a name is one more, where there is a name

pub has_some : {X : Type 0} (found : Option X) (x : X) (other : Bool) → found ≡ Some x → IsTrue (is_some found || other)
has_some None x other e = cc
has_some (Some y) x other e = refl

pub or_has_some : {X : Type 0} (found : Option X) (x : X) (other : Bool) → found ≡ Some x → IsTrue (other || is_some found)
or_has_some found x true e = refl
or_has_some None x false e = cc
or_has_some (Some y) x false e = refl

pub sensor_named_made : (eid : ℕ) (device : Device) (before : List (List ℕ)) (id count : ℕ) (name : Option (List ℕ)) (made after : MadeRecords) → IsMadeAfter eid device before made → IsTrue (has_id id device.numeric_sensors || has_id id device.state_sensors) → sensor_named id count name made ≡ Ok after → IsMadeAfter eid device before after
sensor_named_made eid device before id count None made after h has e = let same : made ≡ after = cc in subst (λ (m : MadeRecords). IsMadeAfter eid device before m) same h
sensor_named_made eid device before id count (Some name) made after h has e = one_made eid device before _ made after h has e

pub effecter_named_made : (eid : ℕ) (device : Device) (before : List (List ℕ)) (id count : ℕ) (name : Option (List ℕ)) (made after : MadeRecords) → IsMadeAfter eid device before made → IsTrue (has_id id device.numeric_effecters || has_id id device.state_effecters) → effecter_named id count name made ≡ Ok after → IsMadeAfter eid device before after
effecter_named_made eid device before id count None made after h has e = let same : made ≡ after = cc in subst (λ (m : MadeRecords). IsMadeAfter eid device before m) same h
effecter_named_made eid device before id count (Some name) made after h has e = one_made eid device before _ made after h has e

-- sets that are made of lists have their states

length_map : (state_set : ℕ) (lists : List (List ℕ)) → length (map (possible state_set) lists) ≡ length lists
length_map state_set [] = refl
length_map state_set (first ∷ lists) = ap suc (length_map state_set lists)

states_at : (state_set : ℕ) (lists : List (List ℕ)) (place : ℕ) (list : List ℕ) (set : PossibleStates) → slice_get lists place ≡ Some list → slice_get (map (possible state_set) lists) place ≡ Some set → HasStates list set
states_at state_set [] place list set e g = cc
states_at state_set (first ∷ lists) zero list set e g =
    let same : first ≡ list = cc in
    let made : possible state_set first ≡ set = cc in
    subst (λ (x : List ℕ). HasStates x set) same (subst (λ (x : PossibleStates). HasStates first x) made (λ state. possible_where_among first state))
states_at state_set (first ∷ lists) (suc place) list set e g = states_at state_set lists place list set e g

pub sets_have_states : (state_set : ℕ) (lists : List (List ℕ)) → HaveStates lists (map (possible state_set) lists)
sets_have_states state_set lists = record { count = length_map state_set lists; states = states_at state_set lists }

pub twice_mapped : (state_set : ℕ) (fields : List SensorStateField) → map (possible state_set) (map states_of_field fields) ≡ map (λ field. possible state_set (states_of_field field)) fields
twice_mapped state_set [] = refl
twice_mapped state_set (field ∷ fields) = ap (λ (x : List PossibleStates). possible state_set (states_of_field field) ∷ x) (twice_mapped state_set fields)

-- the records of a thing are more, where its own describes the device, and so does that of its name
pub thing_step : (eid : ℕ) (device : Device) (before : List (List ℕ)) (default : Entity) (entry : Members) (own : Entity → Bool → Result RecordData FileFault) (named : Option (List ℕ) → MadeRecords → Result MadeRecords FileFault) (made after : MadeRecords) → ((entity : Entity) (has_name : Bool) (contents : RecordData) → own entity has_name ≡ Ok contents → Describes eid device contents) → ((name : Option (List ℕ)) (more last : MadeRecords) → IsMadeAfter eid device before more → named name more ≡ Ok last → IsMadeAfter eid device before last) → IsMadeAfter eid device before made → thing_made default entry own named made ≡ Ok after → IsMadeAfter eid device before after
thing_step eid device before default entry own named made after tells names h e =
    let a = came (name_at entry) (λ name. entity_at default entry >>= λ entity. own entity (is_some name) >>= λ contents. with_made contents made >>= λ more. named name more) after e in
    let b = came (entity_at default entry) (λ entity. own entity (is_some a.value) >>= λ contents. with_made contents made >>= λ more. named a.value more) after a.next in
    let c = came (own b.value (is_some a.value)) (λ contents. with_made contents made >>= λ more. named a.value more) after b.next in
    let d = came (with_made c.value made) (λ more. named a.value more) after c.next in
    names a.value d.value after (one_made eid device before c.value made d.value h (tells b.value (is_some a.value) c.value c.first) d.first) d.next
