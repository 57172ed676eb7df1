-- The records that a table has made describe the device.
use Rattle.std.proofs.Common.{◌≡◌, ℕ, ◌++◌, [], List, slice_index_or, Option, Some, None, Ok, refl, sym, subst, append-nil, codes}
use Rattle.std.specs.List.{All}
use Rattle.toml.specs.Data.{Data, Items, no_items, item, Members, get_member}
use Rattle.pldm_pdr.specs.declared.data.RecordData.{RecordData}
use Rattle.pldm_pdr.specs.declared.data.RecordData.TheVariants as records
use Rattle.pldm_pdr.specs.declared.entity.Entity.{Entity}
use Rattle.simulated_device.specs.Devices.{Device, recorded}
use Rattle.pldm_device.specs.Entries.{entries_at}
use Rattle.pldm_device.specs.KeyValues.{◌>>=◌, table_in}
use Rattle.pldm_device.specs.MadeRecords.{made_after, with_made}
use Rattle.pldm_device.specs.RecordKeys.{entity_at, name_at}
use Rattle.pldm_device.specs.RecordLaws.{HandlesDiffer, HasMade, IsRecordOf, MadeRecordsDescribe, Describes}
use Rattle.pldm_device.specs.RecordTables.{all_made, each_made, entity_named, entry_made, key_of, kind_made, no_entity, records_if_there, table_made, terminus_located, terminus_made, things_made, with_records}
use Rattle.pldm_device.specs.declared.made_records.MadeRecords.{MadeRecords}
use Rattle.pldm_device.specs.declared.record_table.Kind.{Kind}
use Rattle.pldm_device.specs.declared.record_table.Kind.TheVariants.{NumericSensors, StateSensors, NumericEffecters, StateEffecters}
use Rattle.std.proofs.lemmas.List.Elements.{All-nil}
use Rattle.pldm_device.proofs.RecordsMade.{IsMadeAfter, came, none_made, one_made, same_done}
use Rattle.pldm_device.proofs.ThingsRecorded.{numeric_sensor_step, state_sensor_step, numeric_effecter_step, state_effecter_step}

entry_step : (kind : Kind) (eid : ℕ) (device : Device) (before : List (List ℕ)) (default : Entity) (entry : Members) (made after : MadeRecords) → IsMadeAfter eid device before made → entry_made kind device default entry made ≡ Ok after → IsMadeAfter eid device before after
entry_step NumericSensors eid device before default entry made after h e = numeric_sensor_step eid device before default entry made after h e
entry_step StateSensors eid device before default entry made after h e = state_sensor_step eid device before default entry made after h e
entry_step NumericEffecters eid device before default entry made after h e = numeric_effecter_step eid device before default entry made after h e
entry_step StateEffecters eid device before default entry made after h e = state_effecter_step eid device before default entry made after h e

each_step : (kind : Kind) (eid : ℕ) (device : Device) (before : List (List ℕ)) (default : Entity) (made : MadeRecords) (items : Items) (after : MadeRecords) → IsMadeAfter eid device before made → each_made kind device default made items ≡ Ok after → IsMadeAfter eid device before after
each_step kind eid device before default made no_items after h e = subst (λ (m : MadeRecords). IsMadeAfter eid device before m) (same_done made after e) h
each_step kind eid device before default made (item entry rest) after h e =
    let a = came (table_in entry) (λ table. entry_made kind device default table made >>= λ more. each_made kind device default more rest) after e in
    let b = came (entry_made kind device default a.value made) (λ more. each_made kind device default more rest) after a.next in
    each_step kind eid device before default b.value rest after (entry_step kind eid device before default a.value made b.value h b.first) b.next

kind_step : (kind : Kind) (eid : ℕ) (device : Device) (before : List (List ℕ)) (default : Entity) (document : Members) (made after : MadeRecords) → IsMadeAfter eid device before made → kind_made kind device default document made ≡ Ok after → IsMadeAfter eid device before after
unfolding kind_made
kind_step kind eid device before default document made after h e =
    let a = came (entries_at (key_of kind) document) (each_made kind device default made) after e in
    each_step kind eid device before default made a.value after h a.next

things_step : (eid : ℕ) (device : Device) (before : List (List ℕ)) (default : Entity) (document : Members) (made after : MadeRecords) → IsMadeAfter eid device before made → things_made device default document made ≡ Ok after → IsMadeAfter eid device before after
unfolding things_made
things_step eid device before default document made after h e =
    let a = came (kind_made NumericSensors device default document made) (λ first. kind_made StateSensors device default document first >>= λ second. kind_made NumericEffecters device default document second >>= λ third. kind_made StateEffecters device default document third) after e in
    let b = came (kind_made StateSensors device default document a.value) (λ second. kind_made NumericEffecters device default document second >>= λ third. kind_made StateEffecters device default document third) after a.next in
    let c = came (kind_made NumericEffecters device default document b.value) (λ third. kind_made StateEffecters device default document third) after b.next in
    let first = kind_step NumericSensors eid device before default document made a.value h a.first in
    let second = kind_step StateSensors eid device before default document a.value b.value first b.first in
    let third = kind_step NumericEffecters eid device before default document b.value c.value second c.first in
    kind_step StateEffecters eid device before default document c.value after third c.next

entity_named_step : (eid : ℕ) (device : Device) (before : List (List ℕ)) (entity : Entity) (name : Option (List ℕ)) (made after : MadeRecords) → IsMadeAfter eid device before made → entity_named entity name made ≡ Ok after → IsMadeAfter eid device before after
entity_named_step eid device before entity None made after h e = subst (λ (m : MadeRecords). IsMadeAfter eid device before m) (same_done made after e) h
entity_named_step eid device before entity (Some name) made after h e = one_made eid device before _ made after h tt e

terminus_step : (eid : ℕ) (device : Device) (before : List (List ℕ)) (entity : Entity) (name : Option (List ℕ)) (after : MadeRecords) → terminus_made eid device.tid entity name before ≡ Ok after → IsMadeAfter eid device before after
unfolding terminus_made
terminus_step eid device before entity name after e =
    let a = came (with_made (terminus_located eid device.tid entity) (made_after before)) (entity_named entity name) after e in
    let first = one_made eid device before (terminus_located eid device.tid entity) (made_after before) a.value (none_made eid device before) (refl, refl) a.first in
    entity_named_step eid device before entity name a.value after first a.next

-- the records after those before, which describe the device
record HasMore (eid : ℕ) (device : Device) (before after : List (List ℕ)) : Type 0 where
  pub more : List (List ℕ)
  pub joined : after ≡ before ++ more
  pub described : All (IsRecordOf eid device) more
  pub differ : HandlesDiffer before → HandlesDiffer after

all_step : (eid : ℕ) (document : Members) (device : Device) (entity : Entity) (name : Option (List ℕ)) (before after : List (List ℕ)) → all_made eid document device entity name before ≡ Ok after → HasMore eid device before after
unfolding all_made
all_step eid document device entity name before after e =
    let a = came (terminus_made eid device.tid entity name before) (λ located. things_made device entity document located >>= λ made. Ok made.records) after e in
    let b = came (things_made device entity document a.value) (λ made. Ok made.records) after a.next in
    let made = things_step eid device before entity document a.value b.value (terminus_step eid device before entity name a.value a.first) b.first in
    subst (λ (x : List (List ℕ)). HasMore eid device before x) (same_done b.value.records after b.next) (record { more = made.more; joined = made.joined; described = made.described; differ = made.differ })

table_step : (eid : ℕ) (document : Members) (device : Device) (before : List (List ℕ)) (table : Members) (after : List (List ℕ)) → table_made eid document device before table ≡ Ok after → HasMore eid device before after
unfolding table_made
table_step eid document device before table after e =
    let a = came (name_at table) (λ name. entity_at no_entity table >>= λ entity. all_made eid document device entity name before) after e in
    let b = came (entity_at no_entity table) (λ entity. all_made eid document device entity a.value before) after a.next in
    all_step eid document device b.value a.value before after b.next

-- what is said of a device does not hang on its records

described_again : (eid : ℕ) (device : Device) (ones others : List (List ℕ)) (contents : RecordData) → Describes eid (recorded device ones) contents → Describes eid (recorded device others) contents
described_again eid device ones others (records.TerminusLocator pdr) t = t
described_again eid device ones others (records.NumericSensor pdr) t = record { sensor = t.sensor; answered = t.answered; size = t.size; range = t.range }
described_again eid device ones others (records.StateSensor pdr) t = record { fields = t.fields; answered = t.answered; possible = t.possible }
described_again eid device ones others (records.SensorNames pdr) t = t
described_again eid device ones others (records.NumericEffecter pdr) t = record { effecter = t.effecter; found = t.found; answered = t.answered; size = t.size; min = t.min; max = t.max }
described_again eid device ones others (records.StateEffecter pdr) t = record { effecter = t.effecter; found = t.found; answered = t.answered; possible = t.possible }
described_again eid device ones others (records.EffecterNames pdr) t = t
described_again eid device ones others (records.EntityNames pdr) t = tt

record_again : (eid : ℕ) (device : Device) (ones others : List (List ℕ)) (bytes : List ℕ) → IsRecordOf eid (recorded device ones) bytes → IsRecordOf eid (recorded device others) bytes
record_again eid device ones others bytes h = record { handle = h.handle; contents = h.contents; spelled = h.spelled; described = described_again eid device ones others h.contents h.described }

found_table : (eid : ℕ) (document : Members) (device made : Device) (found : Option Data) → records_if_there eid document device found ≡ Ok made → HasMade eid device.records made
found_table eid document device made None e =
    subst (λ (d : Device). HasMade eid device.records d) (same_done device made e) (record { more = []; joined = sym (append-nil device.records); described = All-nil (IsRecordOf eid device) })
found_table eid document device made (Some value) e =
    let a = came (table_in value) (λ table. table_made eid document (recorded device []) device.records table >>= λ records. Ok (recorded device records)) made e in
    let b = came (table_made eid document (recorded device []) device.records a.value) (λ records. Ok (recorded device records)) made a.next in
    let h = table_step eid document (recorded device []) device.records a.value b.value b.first in
    subst (λ (d : Device). HasMade eid device.records d) (same_done (recorded device b.value) made b.next)
    (record { more = h.more; joined = h.joined; described = λ k d within. record_again eid device [] b.value (slice_index_or h.more k d) (h.described k d within) })

pub records_describe : MadeRecordsDescribe
records_describe eid document device made e = found_table eid document device made (get_member (codes "records") document) e

-- handles that differ before still do
made_differ : (eid : ℕ) (document : Members) (device made : Device) (found : Option Data) → records_if_there eid document device found ≡ Ok made → HandlesDiffer device.records → HandlesDiffer made.records
made_differ eid document device made None e differ = subst (λ (d : Device). HandlesDiffer d.records) (same_done device made e) differ
made_differ eid document device made (Some value) e differ =
    let a = came (table_in value) (λ table. table_made eid document (recorded device []) device.records table >>= λ records. Ok (recorded device records)) made e in
    let b = came (table_made eid document (recorded device []) device.records a.value) (λ records. Ok (recorded device records)) made a.next in
    let h = table_step eid document (recorded device []) device.records a.value b.value b.first in
    subst (λ (d : Device). HandlesDiffer d.records) (same_done (recorded device b.value) made b.next) (h.differ differ)

pub records_differ : (eid : ℕ) (document : Members) (device made : Device) → with_records eid document device ≡ Ok made → HandlesDiffer device.records → HandlesDiffer made.records
records_differ eid document device made e differ = made_differ eid document device made (get_member (codes "records") document) e differ
