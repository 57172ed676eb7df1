-- Records: what is read is what the bytes spell, and what they spell is read.
use Rattle.std.proofs.Common.{◌≡◌, ℕ, ◌<◌, ◌≤◌, ◌^◌, ◌==◌, not, true, false, ltb, List, [], ◌++◌, length, Result, Ok, Err, refl, sym, ap, subst, ◌∙◌, arith, eqb-true, IfOk}
use Rattle.std.proofs.lemmas.Bool.{le-ltb, eq-eqb}
use Rattle.std.proofs.lemmas.List.{append-nil, nil_from_length}
use Rattle.byteorder.specs.Endian.{little_bytes}
use Rattle.pldm_pdr.specs.declared.limits.TheConstants.{HEADER_VERSION, RECORD_HEADER, MAX_RECORD_BYTES, TERMINUS_LOCATOR, NUMERIC_SENSOR, STATE_SENSOR, NUMERIC_EFFECTER, STATE_EFFECTER, SENSOR_NAMES, EFFECTER_NAMES, ENTITY_NAMES}
use Rattle.pldm_pdr.specs.declared.fault.RecordFault.{RecordFault}
use Rattle.pldm_pdr.specs.declared.data.RecordData.{RecordData}
use Rattle.pldm_pdr.specs.declared.data.RecordData.TheVariants.{TerminusLocator, NumericSensor, StateSensor, NumericEffecter, StateEffecter, SensorNames, EffecterNames, EntityNames}
use Rattle.pldm_pdr.specs.Fields.{byte}
use Rattle.pldm_pdr.specs.TerminusLocators.{terminus_locator_at}
use Rattle.pldm_pdr.specs.NumericSensors.{numeric_sensor_at}
use Rattle.pldm_pdr.specs.StateSensors.{state_sensor_at}
use Rattle.pldm_pdr.specs.NumericEffecters.{numeric_effecter_at}
use Rattle.pldm_pdr.specs.StateEffecters.{state_effecter_at}
use Rattle.pldm_pdr.specs.NameRecords.{sensor_names_at, effecter_names_at, entity_names_at}
use Rattle.pldm_pdr.specs.Records.{PlatformRecord, platform_record, type_of, data_bytes, data_fits, bytes_of, IsData, IsRecord, IsRead, as_data, names_data_at, data_at, whole, header_at, record_of}
use Rattle.pldm_pdr.proofs.Steps.{IsBytes, chosen, stepped, goes_on, went_by, goes_by, not_false, ok_is, Takes, with_next}
use Rattle.pldm_pdr.proofs.FieldsTaken.{byte_taken, number_taken}
use Rattle.pldm_pdr.proofs.FieldsAgain.{byte_again, number_again}
use Rattle.pldm_pdr.proofs.Regrouped.{regroup_5}
use Rattle.pldm_pdr.proofs.TerminusLocators.{terminus_locator_taken, terminus_locator_again}
use Rattle.pldm_pdr.proofs.NumericSensors.{numeric_sensor_taken, numeric_sensor_again}
use Rattle.pldm_pdr.proofs.StateSensors.{state_sensor_taken, state_sensor_again}
use Rattle.pldm_pdr.proofs.NumericEffecters.{numeric_effecter_taken, numeric_effecter_again}
use Rattle.pldm_pdr.proofs.StateEffecters.{state_effecter_taken, state_effecter_again}
use Rattle.pldm_pdr.proofs.NameRecords.{sensor_names_taken, sensor_names_again, effecter_names_taken, effecter_names_again, entity_names_taken, entity_names_again}
use Rattle.pldm_pdr.proofs.Lengths.{data_most}

-- what data of a type was taken from
pub record Found (type_number : ℕ) (bytes : List ℕ) (x : RecordData × List ℕ) : Type 0 where
  pub is_type : type_number ≡ type_of x.0
  pub takes : Takes bytes (data_bytes x.0) x.1
  pub is_data : IsData x.0

names_data_taken : (n : ℕ) (bytes : List ℕ) → IsBytes bytes → (x : RecordData × List ℕ) → names_data_at n bytes ≡ Ok x → Found n bytes x
names_data_taken n bytes small x e =
    chosen (n == SENSOR_NAMES) (as_data (λ s. SensorNames s) (sensor_names_at bytes)) _ (Ok x) e
    (λ t e1. stepped e1 (sensor_names_taken bytes small) (λ y said e2.
    subst (Found n bytes) (ok_is e2) (record { is_type = eqb-true n SENSOR_NAMES t; takes = said.0; is_data = said.1 })))
    (λ _ r1. chosen (n == EFFECTER_NAMES) (as_data (λ e. EffecterNames e) (effecter_names_at bytes)) _ (Ok x) r1
    (λ t e1. stepped e1 (effecter_names_taken bytes small) (λ y said e2.
    subst (Found n bytes) (ok_is e2) (record { is_type = eqb-true n EFFECTER_NAMES t; takes = said.0; is_data = said.1 })))
    (λ _ r2. chosen (n == ENTITY_NAMES) (as_data (λ e. EntityNames e) (entity_names_at bytes)) _ (Ok x) r2
    (λ t e1. stepped e1 (entity_names_taken bytes small) (λ y said e2.
    subst (Found n bytes) (ok_is e2) (record { is_type = eqb-true n ENTITY_NAMES t; takes = said.0; is_data = said.1 })))
    (λ _ r3. absurd cc)))

pub data_taken : (n : ℕ) (bytes : List ℕ) → IsBytes bytes → (x : RecordData × List ℕ) → data_at n bytes ≡ Ok x → Found n bytes x
data_taken n bytes small x e =
    chosen (n == TERMINUS_LOCATOR) (as_data (λ l. TerminusLocator l) (terminus_locator_at bytes)) _ (Ok x) e
    (λ t e1. stepped e1 (terminus_locator_taken bytes small) (λ y said e2.
    subst (Found n bytes) (ok_is e2) (record { is_type = eqb-true n TERMINUS_LOCATOR t; takes = said.0; is_data = said.1 })))
    (λ _ r1. chosen (n == NUMERIC_SENSOR) (as_data (λ s. NumericSensor s) (numeric_sensor_at bytes)) _ (Ok x) r1
    (λ t e1. stepped e1 (numeric_sensor_taken bytes small) (λ y said e2.
    subst (Found n bytes) (ok_is e2) (record { is_type = eqb-true n NUMERIC_SENSOR t; takes = said.0; is_data = said.1 })))
    (λ _ r2. chosen (n == STATE_SENSOR) (as_data (λ s. StateSensor s) (state_sensor_at bytes)) _ (Ok x) r2
    (λ t e1. stepped e1 (state_sensor_taken bytes small) (λ y said e2.
    subst (Found n bytes) (ok_is e2) (record { is_type = eqb-true n STATE_SENSOR t; takes = said.0; is_data = said.1 })))
    (λ _ r3. chosen (n == NUMERIC_EFFECTER) (as_data (λ e. NumericEffecter e) (numeric_effecter_at bytes)) _ (Ok x) r3
    (λ t e1. stepped e1 (numeric_effecter_taken bytes small) (λ y said e2.
    subst (Found n bytes) (ok_is e2) (record { is_type = eqb-true n NUMERIC_EFFECTER t; takes = said.0; is_data = said.1 })))
    (λ _ r4. chosen (n == STATE_EFFECTER) (as_data (λ e. StateEffecter e) (state_effecter_at bytes)) _ (Ok x) r4
    (λ t e1. stepped e1 (state_effecter_taken bytes small) (λ y said e2.
    subst (Found n bytes) (ok_is e2) (record { is_type = eqb-true n STATE_EFFECTER t; takes = said.0; is_data = said.1 })))
    (λ _ r5. names_data_taken n bytes small x r5)))))

pub data_again : (contents : RecordData) (rest : List ℕ) → IsData contents → data_at (type_of contents) (data_bytes contents ++ rest) ≡ Ok (contents, rest)
data_again (TerminusLocator locator) rest ok = goes_on _ (terminus_locator_again locator rest ok) refl
data_again (NumericSensor sensor) rest ok = goes_on _ (numeric_sensor_again sensor rest ok) refl
data_again (StateSensor sensor) rest ok = goes_on _ (state_sensor_again sensor rest ok) refl
data_again (NumericEffecter effecter) rest ok = goes_on _ (numeric_effecter_again effecter rest ok) refl
data_again (StateEffecter effecter) rest ok = goes_on _ (state_effecter_again effecter rest ok) refl
data_again (SensorNames names) rest ok = goes_on _ (sensor_names_again names rest ok) refl
data_again (EffecterNames names) rest ok = goes_on _ (effecter_names_again names rest ok) refl
data_again (EntityNames names) rest ok = goes_on _ (entity_names_again names rest ok) refl

-- data in its ranges fits
pub data_in_range : (contents : RecordData) → IsData contents → data_fits contents ≡ true
data_in_range (TerminusLocator locator) ok = refl
data_in_range (NumericSensor sensor) ok = ok.13
data_in_range (StateSensor sensor) ok = ok.4.1
data_in_range (NumericEffecter effecter) ok = ok.11
data_in_range (StateEffecter effecter) ok = ok.5.1
data_in_range (SensorNames names) ok = ok.3
data_in_range (EffecterNames names) ok = ok.3
data_in_range (EntityNames names) ok = ok.2

whole_taken : (n : ℕ) (bytes : List ℕ) → IsBytes bytes → (contents : RecordData) → whole (data_at n bytes) ≡ Ok contents
    → (n ≡ type_of contents) × (bytes ≡ data_bytes contents) × IsData contents
whole_taken n bytes small contents e =
    stepped e (data_taken n bytes small) (λ x found e1.
    went_by _ e1 (λ t e2.
    let nothing : x.1 ≡ [] = nil_from_length x.1 (eqb-true _ _ (not_false _ t)) in
    let all : bytes ≡ data_bytes x.0 = found.takes.parts ∙ ap (λ (r : List ℕ). data_bytes x.0 ++ r) nothing ∙ append-nil (data_bytes x.0) in
    subst (λ (d : RecordData). (n ≡ type_of d) × (bytes ≡ data_bytes d) × IsData d) (ok_is e2) (found.is_type, all, found.is_data)))

whole_again : (contents : RecordData) → IsData contents → whole (data_at (type_of contents) (data_bytes contents)) ≡ Ok contents
whole_again contents ok =
    let again : data_at (type_of contents) (data_bytes contents) ≡ Ok (contents, []) =
    ap (data_at (type_of contents)) (sym (append-nil (data_bytes contents))) ∙ data_again contents [] ok in
    goes_on _ again (goes_by _ refl refl)

pub found : (bytes : List ℕ) (r : PlatformRecord) → IsBytes bytes → record_of bytes ≡ Ok r → IsRead bytes r
found bytes r small e =
    went_by _ e (λ _ e0.
    stepped e0 (number_taken 4 bytes small) (λ f1 t1 e1.
    stepped e1 (byte_taken f1.1 t1.0.small) (λ f2 t2 e2.
    stepped e2 (byte_taken f2.1 t2.0.small) (λ f3 t3 e3.
    stepped e3 (number_taken 2 f3.1 t3.0.small) (λ f4 t4 e4.
    stepped e4 (number_taken 2 f4.1 t4.0.small) (λ f5 t5 e5.
    went_by _ e5 (λ same e6.
    went_by _ e6 (λ version e7.
    stepped e7 (whole_taken f3.0 f5.1 t5.0.small) (λ contents said e8.
    let count : length (data_bytes contents) ≡ f5.0 = ap length (sym said.1) ∙ eqb-true _ _ (not_false _ same) in
    let header = (with_next (with_next (with_next (with_next t1.0 t2.0) t3.0) t4.0) t5.0).parts in
    let whole_is : bytes ≡ bytes_of (platform_record f1.0 f4.0 contents) =
    header ∙ rw (said.1, eqb-true _ _ (not_false _ version), said.0, count) refl in
    subst (IsRead bytes) (ok_is e8) ((t1.1, t4.1, said.2), whole_is))))))))))

pub only : (bytes : List ℕ) (r : PlatformRecord) → IsRead bytes r → record_of bytes ≡ Ok r
only bytes r is =
    let contents = r.contents in
    let text = data_bytes contents in
    let count = length text in
    let most : count < 256 ^ 2 = omega (arith, data_most contents (data_in_range contents is.0.2)) in
    let grouped : bytes_of r ≡ little_bytes 4 r.handle ++ (byte HEADER_VERSION ++ (byte (type_of contents) ++ (little_bytes 2 r.change_number ++ (little_bytes 2 count ++ text)))) =
    regroup_5 (little_bytes 4 r.handle) (byte HEADER_VERSION) (byte (type_of contents)) (little_bytes 2 r.change_number) (little_bytes 2 count) text in
    let long : ltb (length (bytes_of r)) RECORD_HEADER ≡ false = le-ltb _ _ (omega arith) in
    ap record_of is.1
    ∙ goes_by _ long (ap header_at grouped
    ∙ goes_on _ (number_again 4 r.handle _ is.0.0) (goes_on _ (byte_again HEADER_VERSION _) (goes_on _ (byte_again (type_of contents) _)
    (goes_on _ (number_again 2 r.change_number _ is.0.1) (goes_on _ (number_again 2 count _ most)
    (goes_by _ (ap not (eq-eqb count count refl)) (goes_by _ refl
    (goes_on _ (whole_again contents is.0.2) refl))))))))

pub is_found : (bytes : List ℕ) (result : Result PlatformRecord RecordFault) → IsBytes bytes → result ≡ record_of bytes → IfOk result (λ r. IsRead bytes r)
is_found bytes (Ok r) small is = found bytes r small (sym is)
is_found bytes (Err fault) small is = tt

-- no bytes are two records
pub one : (bytes : List ℕ) (r other : PlatformRecord) → IsRead bytes r → IsRead bytes other → r ≡ other
one bytes r other is also = ok_is (sym (only bytes r is) ∙ only bytes other also)

-- a record has no more bytes than fit
pub fitting : (r : PlatformRecord) → IsRecord r → length (bytes_of r) ≤ MAX_RECORD_BYTES
fitting r is = omega (arith, data_most r.contents (data_in_range r.contents is.2))

pub read_back : (r : PlatformRecord) → IsRecord r → record_of (bytes_of r) ≡ Ok r
read_back r is = only (bytes_of r) r (is, refl)
