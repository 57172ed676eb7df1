-- A walk has less to ask after each answer.
use Rattle.std.proofs.Common.{◌≡◌, ◌≢◌, ◌⊎◌, inl, inr, ℕ, ◌+◌, ◌-◌, ◌*◌, ◌<◌, ◌≤◌, Bool, true, false, ◌||◌, ◌==◌, nat_le, if◌then◌else◌, List, [], ◌∷◌, ◌++◌, length, filter, Option, Some, None, Result, Ok, Err, refl, sym, ap, subst, ◌∙◌, suc, append-nil, append_assoc, add-zero, zero-add, arith, leb-false, eq-eqb, get_or}
use Rattle.std.specs.List.{All, AllPairs}
use Rattle.std.proofs.lemmas.List.{length-append}
use Rattle.std.proofs.lemmas.List.Elements.{All-push}
use Rattle.std.proofs.lemmas.List.Folds.{list_any_at}
use Rattle.std.proofs.lemmas.List.Quantifiers.{all_pairs_push}
use Rattle.std.proofs.lemmas.List.Sums.{count_by-le-length, length-filter}
use Rattle.pldm_records.specs.Fetches.{Fetching, taken, after_taking}
use Rattle.pldm_records.specs.FetchLaws.{IsAsked}
use Rattle.pldm_records.specs.Records.{handle_of}
use Rattle.pldm_records.specs.declared.fetch.FetchState.{FetchState}
use Rattle.pldm_records.specs.declared.fetch.FetchState.TheVariants.{More, Done}
use Rattle.pldm_records.specs.declared.fetch.FetchFault.{FetchFault}
use Rattle.pldm_records.specs.declared.fetch.Stage.TheVariants.{Going}
use Rattle.pldm_records.specs.declared.limits.TheConstants.{MAX_RECORD_BYTES, MAX_RECORDS}
use Rattle.pldm_wire.specs.declared.answer.Answer.{Answer}
use Rattle.pldm_wire.specs.declared.answer.Answer.TheVariants.{GetPldmVersion, GetPldmTypes, GetPdrRepositoryInfo}
use Rattle.pldm_wire.specs.declared.assigned.TheConstants.{PLATFORM}
use Rattle.pldm_discovery.specs.Laws.{asked_of, described}
use Rattle.pldm_discovery.specs.Steps.{with_answer, with_types, past_type, with_versions, with_repository, with_part, with_fetch, with_more, with_reading, ended, listed, stage_at, has_handle}
use Rattle.pldm_discovery.specs.Subjects.{found_of}
use Rattle.pldm_discovery.specs.Termini.{asked_handle, is_asked}
use Rattle.pldm_discovery.specs.Types.{has_type, next_type}
use Rattle.pldm_discovery.specs.Walks.{Walking}
use Rattle.pldm_discovery.specs.declared.limits.TheConstants.{FIRST_RECORD, MAX_TYPES, NO_RECORD}
use Rattle.pldm_discovery.specs.declared.stage.Stage.{Stage}
use Rattle.pldm_discovery.specs.declared.stage.Stage.TheVariants.{Tid, Types, Versions, Commands, Repository, Records, Readings}
use Rattle.pldm_discovery.specs.declared.discovered.Discovered.{Discovered}
use Rattle.pldm_discovery.proofs.FetchSteps.{IsStep, fetch_steps}
use Rattle.pldm_discovery.proofs.TypesLeft.{next_within}

-- what it holds at most
pub record IsBounded (records : List (List ℕ)) (fetch : Fetching) (found : List Discovered) : Type 0 where
  pub few : length records ≤ MAX_RECORDS
  pub small : All (λ pdr. length pdr ≤ MAX_RECORD_BYTES) records
  pub part : length fetch.bytes ≤ MAX_RECORD_BYTES
  pub one_each : length found ≤ length records
  pub distinct : AllPairs (λ pdr later. handle_of pdr ≢ handle_of later) records

-- the first record is fetched, or one with another handle than those before
abbrev pub IsOther : List (List ℕ) → Fetching → Type 0
IsOther records fetch = (records ≡ []) ⊎ ((has_handle fetch.asked records ≡ false) × (fetch.asked ≢ FIRST_RECORD))

-- before the readings there is room for a record, and its fetch goes on
pub record HasRoom (records : List (List ℕ)) (fetch : Fetching) (found : List Discovered) : Type 0 where
  pub room : length records < MAX_RECORDS
  pub goes : fetch.stage ≡ Going
  pub other : IsOther records fetch
  pub every : found ≡ described 0 records

-- before the records there is none
pub record IsEarly (records : List (List ℕ)) (fetch : Fetching) (found : List Discovered) : Type 0 where
  pub has : HasRoom records fetch found
  pub none : records ≡ []

abbrev pub IsAt : Stage → Walking → Type 0
IsAt Readings w = w.found ≡ asked_of w.tid w.records
IsAt Records w = HasRoom w.records w.fetch w.found
IsAt (Versions pldm_type) w = (pldm_type < MAX_TYPES) × IsEarly w.records w.fetch w.found
IsAt (Commands pldm_type version) w = (pldm_type < MAX_TYPES) × IsEarly w.records w.fetch w.found
IsAt _ w = IsEarly w.records w.fetch w.found

-- the most commands from the repository on
abbrev pub most_from_repository : ℕ
most_from_repository = 1 + MAX_RECORDS * (MAX_RECORD_BYTES + 2)

-- the most commands that are left
abbrev pub left_at : Stage → Walking → ℕ
left_at Tid w = 2 + 2 * MAX_TYPES + most_from_repository
left_at Types w = 1 + 2 * MAX_TYPES + most_from_repository
left_at (Versions pldm_type) w = 2 * (MAX_TYPES - pldm_type) + most_from_repository
left_at (Commands pldm_type version) w = 2 * (MAX_TYPES - pldm_type) - 1 + most_from_repository
left_at Repository w = most_from_repository
left_at Records w = (MAX_RECORDS - length w.records) * (MAX_RECORD_BYTES + 2) + length w.found - length w.fetch.bytes
left_at Readings w = length w.found - length w.readings

-- a walk that is in order, with fewer commands left than so many
pub record Goes (before : ℕ) (stage : Stage) (w : Walking) : Type 0 where
  pub bounded : IsBounded w.records w.fetch w.found
  pub is_at : IsAt stage w
  pub less : left_at stage w < before

abbrev GoesOn : ℕ → Walking → Type 0
GoesOn before w = Goes before w.stage w

-- without records nothing is found
early_asked : (tid : Option ℕ) (records : List (List ℕ)) (fetch : Fetching) (found : List Discovered) → IsEarly records fetch found
    → found ≡ asked_of tid records
early_asked tid records fetch found r = r.has.every ∙ ap (described 0) r.none ∙ sym (ap (asked_of tid) r.none)

-- to the readings
to_readings : (before : ℕ) (w : Walking) → IsBounded w.records w.fetch w.found → IsEarly w.records w.fetch w.found
    → length w.found < before → GoesOn before (record w { stage = Readings })
to_readings before w b r less =
    record { bounded = b; is_at = early_asked w.tid w.records w.fetch w.found r; less = omega (arith, less) }

-- no more are asked than were found
few_asked : (handle : Option ℕ) (found : List Discovered) → length (filter (is_asked handle) found) ≤ length found
few_asked handle found = rw (length-filter (is_asked handle) found) (count_by-le-length (is_asked handle) found)

-- the end of the records
at_end : (before : ℕ) (w : Walking) → IsBounded w.records w.fetch w.found → w.found ≡ described 0 w.records
    → length w.found < before → GoesOn before (ended w)
at_end before w b every less =
    let fewer = few_asked (asked_handle w.tid w.records) w.found in
    record {
      bounded = record { few = b.few; small = b.small; part = b.part; one_each = omega (arith, fewer, b.one_each); distinct = b.distinct };
      is_at = ap (filter (is_asked (asked_handle w.tid w.records))) every;
      less = omega (arith, fewer, less);
    }

few_found : (w : Walking) → IsBounded w.records w.fetch w.found → length w.found ≤ MAX_RECORDS
few_found w b = omega (arith, b.few, b.one_each)

-- to the next type, or past the last one
to_platform : (before : ℕ) (w : Walking) (types : List ℕ) (has : Bool) → IsBounded w.records w.fetch w.found → IsEarly w.records w.fetch w.found
    → most_from_repository < before → GoesOn before (record w { stage = if has then Repository else Readings; types = types })
to_platform before w types true b r less = record { bounded = b; is_at = r; less = less }
to_platform before w types false b r less =
    record { bounded = b; is_at = early_asked w.tid w.records w.fetch w.found r; less = omega (arith, few_found w b) }

to_type : (before least : ℕ) (w : Walking) (types : List ℕ) (next : Option ℕ) → next_type types least ≡ next
    → IsBounded w.records w.fetch w.found → IsEarly w.records w.fetch w.found
    → 2 * (MAX_TYPES - least) + most_from_repository < before → GoesOn before (record w { stage = stage_at types next; types = types })
to_type before least w types (Some pldm_type) e b r less =
    let within = next_within types least pldm_type e in
    record { bounded = b; is_at = (within.1, r); less = omega (arith, within.0, less) }
to_type before least w types None e b r less = to_platform before w types (has_type types PLATFORM) b r (omega (arith, less))

types_step : (w : Walking) (answer : Option Answer) → IsBounded w.records w.fetch w.found → IsEarly w.records w.fetch w.found
    → GoesOn (left_at Types w) (with_types w answer)
types_step w (Some (GetPldmTypes types)) b r = to_type (left_at Types w) 0 w types (next_type types 0) refl b r (omega arith)
types_step w None b r = to_readings (left_at Types w) w b r (omega (arith, few_found w b))
types_step w (Some _) b r = to_readings (left_at Types w) w b r (omega (arith, few_found w b))

past_step : (before : ℕ) (w : Walking) (pldm_type : ℕ) → IsBounded w.records w.fetch w.found → IsEarly w.records w.fetch w.found
    → 2 * (MAX_TYPES - (pldm_type + 1)) + most_from_repository < before → GoesOn before (past_type w pldm_type)
past_step before w pldm_type b r less = to_type before (pldm_type + 1) w w.types (next_type w.types (pldm_type + 1)) refl b r less

versions_step : (w : Walking) (pldm_type : ℕ) (answer : Option Answer) → IsBounded w.records w.fetch w.found → IsEarly w.records w.fetch w.found
    → pldm_type < MAX_TYPES → GoesOn (left_at (Versions pldm_type) w) (with_versions w pldm_type answer)
versions_step w pldm_type (Some (GetPldmVersion next versions)) b r within =
    record { bounded = b; is_at = (within, r); less = omega (arith, within) }
versions_step w pldm_type None b r within = past_step (left_at (Versions pldm_type) w) w pldm_type b r (omega (arith, within))
versions_step w pldm_type (Some _) b r within = past_step (left_at (Versions pldm_type) w) w pldm_type b r (omega (arith, within))

repository_by : (w : Walking) (count : ℕ) (none : Bool) → IsBounded w.records w.fetch w.found → IsEarly w.records w.fetch w.found
    → GoesOn (left_at Repository w) (record w { stage = if none then Readings else Records; expected = Some count })
repository_by w count true b r =
    record { bounded = b; is_at = early_asked w.tid w.records w.fetch w.found r; less = omega (arith, few_found w b) }
repository_by w count false b r = record { bounded = b; is_at = r.has; less = omega (arith, b.few, b.one_each) }

repository_step : (w : Walking) (answer : Option Answer) → IsBounded w.records w.fetch w.found → IsEarly w.records w.fetch w.found
    → GoesOn (left_at Repository w) (with_repository w answer)
repository_step w (Some (GetPdrRepositoryInfo state update oem count size largest timeout)) b r = repository_by w count (count == 0) b r
repository_step w None b r = to_readings (left_at Repository w) w b r (omega (arith, few_found w b))
repository_step w (Some _) b r = to_readings (left_at Repository w) w b r (omega (arith, few_found w b))

-- there is more left than readings where there is room for a record
readings_left : (w : Walking) → IsBounded w.records w.fetch w.found → HasRoom w.records w.fetch w.found
    → length w.found + 1 < left_at Records w
readings_left w b r = omega (arith, b.part, r.room)

-- a record describes one sensor or effecter at most
one_found : (found : Option Discovered) → length (listed found) ≤ 1
one_found None = omega arith
one_found (Some found) = omega arith

-- a record more

described_more : (place : ℕ) (records : List (List ℕ)) (pdr : List ℕ)
    → described place (records ++ pdr ∷ []) ≡ described place records ++ listed (found_of (place + length records) pdr)
described_more place [] pdr = append-nil (listed (found_of place pdr)) ∙ ap (λ p. listed (found_of p pdr)) (sym (add-zero place))
described_more place (first ∷ records) pdr =
    let same : suc place + length records ≡ place + length (first ∷ records) = omega arith in
    ap (λ rest. listed (found_of place first) ++ rest) (described_more (suc place) records pdr ∙ ap (λ p. described (suc place) records ++ listed (found_of p pdr)) same)
    ∙ sym (append_assoc (listed (found_of place first)) (described (suc place) records) (listed (found_of (place + length (first ∷ records)) pdr)))

one_more : (records : List (List ℕ)) (pdr : List ℕ) → described 0 (records ++ pdr ∷ []) ≡ described 0 records ++ listed (found_of (length records) pdr)
one_more records pdr = described_more 0 records pdr ∙ ap (λ p. described 0 records ++ listed (found_of p pdr)) (zero-add (length records))

-- none of the records has this handle
none_has : (handle : ℕ) (records : List (List ℕ)) → has_handle handle records ≡ false → (k : ℕ) (d : List ℕ) → k < length records → handle_of (get_or records k d) ≢ handle
none_has handle records none k d within same =
    let found = list_any_at (λ pdr. handle_of pdr == handle) records k d within (eq-eqb _ _ same) in cc

-- the handle of a record that was fetched is another one
new_handle : (records : List (List ℕ)) (fetch : Fetching) (pdr : List ℕ) → IsOther records fetch → IsAsked fetch.asked pdr
    → (k : ℕ) (d : List ℕ) → k < length records → handle_of (get_or records k d) ≢ handle_of pdr
new_handle records fetch pdr (inl none) asked k d within = let empty : length records ≡ 0 = ap length none in absurd (omega (arith, within, empty))
new_handle records fetch pdr (inr other) (inl first) k d within = absurd (other.1 first)
new_handle records fetch pdr (inr other) (inr is) k d within = λ same. none_has fetch.asked records other.0 k d within (same ∙ is)

record_bounded : (w : Walking) (pdr : List ℕ) (next : ℕ) → IsBounded w.records w.fetch w.found → HasRoom w.records w.fetch w.found → length pdr ≤ MAX_RECORD_BYTES → IsAsked w.fetch.asked pdr
    → IsBounded (with_more w pdr next).records (with_more w pdr next).fetch (with_more w pdr next).found
record_bounded w pdr next b r small asked =
    record {
      few = rw (length-append w.records (pdr ∷ [])) (omega (arith, r.room));
      small = All-push (λ x. length x ≤ MAX_RECORD_BYTES) w.records pdr b.small small;
      part = omega arith;
      one_each =
          rw (length-append w.records (pdr ∷ []), length-append w.found (listed (found_of (length w.records) pdr)))
          (omega (arith, b.one_each, one_found (found_of (length w.records) pdr)));
      distinct = all_pairs_push (λ (a : List ℕ) (later : List ℕ). handle_of a ≢ handle_of later) w.records pdr b.distinct (new_handle w.records w.fetch pdr r.other asked);
    }

not_none : (next : ℕ) → (next == NO_RECORD) ≡ false → next ≢ FIRST_RECORD
not_none next n same = let is : (next == NO_RECORD) ≡ true = eq-eqb _ _ same in cc

-- what it has found is still all that its records describe
more_found : (w : Walking) (pdr : List ℕ) (next : ℕ) → w.found ≡ described 0 w.records
    → (with_more w pdr next).found ≡ described 0 (with_more w pdr next).records
more_found w pdr next every = ap (λ found. found ++ listed (found_of (length w.records) pdr)) every ∙ sym (one_more w.records pdr)

last_record : (w : Walking) (pdr : List ℕ) (next : ℕ) → IsBounded w.records w.fetch w.found → HasRoom w.records w.fetch w.found → length pdr ≤ MAX_RECORD_BYTES → IsAsked w.fetch.asked pdr
    → GoesOn (left_at Records w) (ended (with_more w pdr next))
last_record w pdr next b r small asked =
    let less : length (with_more w pdr next).found < left_at Records w =
    rw (length-append w.found (listed (found_of (length w.records) pdr)))
    (omega (arith, readings_left w b r, one_found (found_of (length w.records) pdr))) in
    at_end (left_at Records w) (with_more w pdr next) (record_bounded w pdr next b r small asked) (more_found w pdr next r.every) less

record_by : (w : Walking) (pdr : List ℕ) (next : ℕ) (none has full : Bool) → (next == NO_RECORD) ≡ none → has_handle next (w.records ++ pdr ∷ []) ≡ has
    → nat_le MAX_RECORDS (length (w.records ++ pdr ∷ [])) ≡ full → w.stage ≡ Records
    → IsBounded w.records w.fetch w.found → HasRoom w.records w.fetch w.found → length pdr ≤ MAX_RECORD_BYTES → IsAsked w.fetch.asked pdr
    → GoesOn (left_at Records w) (if none || has || full then ended (with_more w pdr next) else with_more w pdr next)
record_by w pdr next false false false n h e at b r small asked =
    let below : length (w.records ++ pdr ∷ []) < MAX_RECORDS = leb-false _ _ e in
    subst (λ stage. Goes (left_at Records w) stage (with_more w pdr next)) (sym at) (record {
      bounded = record_bounded w pdr next b r small asked;
      is_at = record { room = below; goes = refl; other = inr (h, not_none next n); every = more_found w pdr next r.every };
      less =
          rw (length-append w.records (pdr ∷ []), length-append w.found (listed (found_of (length w.records) pdr)))
          (omega (arith, b.part, r.room, one_found (found_of (length w.records) pdr)));
    })
record_by w pdr next true has full n h e at b r small asked = last_record w pdr next b r small asked
record_by w pdr next false true full n h e at b r small asked = last_record w pdr next b r small asked
record_by w pdr next false false true n h e at b r small asked = last_record w pdr next b r small asked

-- a part more is of the same record
still_other : (records : List (List ℕ)) (fetch f : Fetching) → f.asked ≡ fetch.asked → IsOther records fetch → IsOther records f
still_other records fetch f same other =
    subst (λ asked. (records ≡ []) ⊎ ((has_handle asked records ≡ false) × (asked ≢ FIRST_RECORD))) (sym same) other

fetch_step : (w : Walking) (given : Result FetchState FetchFault) (f : Fetching) → w.stage ≡ Records → IsStep w.fetch given f
    → IsBounded w.records w.fetch w.found → HasRoom w.records w.fetch w.found → GoesOn (left_at Records w) (with_fetch w given f)
fetch_step w (Ok More) f at step b r =
    subst (λ stage. Goes (left_at Records w) stage (record w { fetch = f })) (sym at) (record {
      bounded = record { few = b.few; small = b.small; part = step.2; one_each = b.one_each; distinct = b.distinct };
      is_at = record { room = r.room; goes = step.0; other = still_other w.records w.fetch f step.3 r.other; every = r.every };
      less = omega (arith, step.1, step.2, r.room);
    })
fetch_step w (Ok (Done next)) f at step b r =
    record_by w f.bytes next _ _ _ refl refl refl at b r step.1 step.2
fetch_step w (Err fault) f at step b r =
    let bounded : IsBounded w.records f w.found =
    record { few = b.few; small = b.small; part = step b.part; one_each = b.one_each; distinct = b.distinct } in
    at_end (left_at Records w) (record w { fetch = f }) bounded r.every (omega (arith, readings_left w b r))

part_step : (w : Walking) (answer : Option Answer) → w.stage ≡ Records → IsBounded w.records w.fetch w.found → HasRoom w.records w.fetch w.found
    → GoesOn (left_at Records w) (with_part w answer)
part_step w None at b r = at_end (left_at Records w) w b r.every (omega (arith, readings_left w b r))
part_step w (Some answer) at b r = fetch_step w (taken w.fetch answer) (after_taking w.fetch answer) at (fetch_steps w.fetch answer) b r

reading_step : (w : Walking) (message : Option (List ℕ)) → w.stage ≡ Readings → IsBounded w.records w.fetch w.found → IsAt Readings w
    → length w.readings < length w.found → GoesOn (left_at Readings w) (with_reading w message)
reading_step w message at b r more =
    subst (λ stage. Goes (left_at Readings w) stage (with_reading w message)) (sym at) (record {
      bounded = b;
      is_at = r;
      less = rw (length-append w.readings (message ∷ [])) (omega (arith, more));
    })

-- something is left to ask
abbrev pub AsksMore : Stage → Walking → Type 0
AsksMore Readings w = length w.readings < length w.found
AsksMore _ w = Unit {0}

pub answer_step : (w : Walking) (stage : Stage) (answer : Option Answer) (message : Option (List ℕ)) → w.stage ≡ stage
    → IsBounded w.records w.fetch w.found → IsAt stage w → AsksMore stage w → GoesOn (left_at stage w) (with_answer stage w answer message)
answer_step w Tid answer message at b r more = record { bounded = b; is_at = r; less = omega arith }
answer_step w Types answer message at b r more = types_step w answer b r
answer_step w (Versions pldm_type) answer message at b r more = versions_step w pldm_type answer b r.1 r.0
answer_step w (Commands pldm_type version) answer message at b r more =
    past_step (left_at (Commands pldm_type version) w) w pldm_type b r.1 (omega (arith, r.0))
answer_step w Repository answer message at b r more = repository_step w answer b r
answer_step w Records answer message at b r more = part_step w answer at b r
answer_step w Readings answer message at b r more = reading_step w message at b r more
