-- Followed over a repository, a fetch ends with the record that was asked for.
use Rattle.std.proofs.Common.{◌≡◌, ◌⊎◌, inl, inr, ℕ, zero, suc, ◌+◌, ◌<◌, ◌≤◌, Bool, true, false, ◌==◌, nat_le, nat_lt, if◌then◌else◌, List, ◌∷◌, length, slice_get, None, Some, refl, sym, ap, subst, ◌∙◌, arith, eqb-true}
use Rattle.std.proofs.lemmas.Bool.Decides.{nat_tests}
use Rattle.pldm_wire.specs.declared.answer.Answer.{Answer}
use Rattle.pldm_wire.specs.declared.limits.TheConstants.{MAX_PART_BYTES, GET_FIRST_PART, GET_NEXT_PART}
use Rattle.pldm_records.specs.Fetches.{Fetching, next_request, fetched_record, record_at_stage}
use Rattle.pldm_records.specs.FetchLaws.{fetched, IsWhole, IsAsked, part_answer, ArePartsUpto, with_answer, answered_rounds, RepositoryIsFetched}
use Rattle.pldm_records.specs.Records.{handle_at, is_last_part, offset_after, part_bytes, position_asked}
use Rattle.pldm_records.specs.RecordAnswers.{offset_asked, record_answer}
use Rattle.pldm_records.specs.declared.fetch.Stage.{Stage}
use Rattle.pldm_records.specs.declared.fetch.Stage.TheVariants.{Going, Finished, Failed}
use Rattle.pldm_records.proofs.PartsGiveTheRecord.{parts_give_the_record, some_bytes}

-- a fetch with a record asks for nothing
no_more : (f : Fetching) (pdr : List ℕ) (stage : Stage) → f.stage ≡ stage → record_at_stage stage f.bytes ≡ Some pdr → next_request f ≡ None
no_more f pdr Going at e = cc
no_more f pdr Finished at e = rw at refl
no_more f pdr (Failed fault) at e = cc

-- the repository answers the request for a later part of the record, or for the first, with that part
offset_found_by : (pdr : List ℕ) (offset : ℕ) (first : Bool) → (offset == 0) ≡ first → offset < length pdr
    → offset_asked (if first then GET_FIRST_PART else GET_NEXT_PART) offset pdr ≡ Some offset
offset_found_by pdr offset true e below = ap Some (sym (eqb-true _ _ e))
offset_found_by pdr offset false e below = let test : nat_le (length pdr) offset ≡ false = grind (arith, nat_tests) in rw (e, test) refl

offset_found : (pdr : List ℕ) (offset : ℕ) → offset < length pdr
    → offset_asked (if offset == 0 then GET_FIRST_PART else GET_NEXT_PART) offset pdr ≡ Some offset
offset_found pdr offset below = offset_found_by pdr offset (offset == 0) refl below

flag_known : (first : Bool) → nat_lt GET_FIRST_PART (if first then GET_FIRST_PART else GET_NEXT_PART) ≡ false
flag_known true = refl
flag_known false = refl

answered_here : (records : List (List ℕ)) (asked place offset : ℕ) (pdr : List ℕ) → position_asked asked records ≡ Some place
    → slice_get records place ≡ Some pdr → offset < length pdr
    → record_answer asked offset (if offset == 0 then GET_FIRST_PART else GET_NEXT_PART) MAX_PART_BYTES records
    ≡ part_answer (handle_at (place + 1) records) pdr offset MAX_PART_BYTES
answered_here records asked place offset pdr at here below =
    rw (flag_known (offset == 0), at, here, offset_found pdr offset below) refl

-- so many rounds have brought as many bytes at least, or the record
abbrev Rounds : List (List ℕ) → ℕ → ℕ → List ℕ → ℕ → List Answer → Type 0
Rounds records asked place pdr rounds answers =
    ((offset : ℕ) × ArePartsUpto (handle_at (place + 1) records) pdr offset answers × (offset < length pdr) × (rounds ≤ offset))
    ⊎ (fetched_record (fetched asked answers) ≡ Some pdr)

module _ (records : List (List ℕ)) (asked place : ℕ) (pdr : List ℕ)
    (at : position_asked asked records ≡ Some place) (here : slice_get records place ≡ Some pdr) (whole : IsWhole pdr) (is : IsAsked asked pdr) where
  abbrev next : ℕ
  next = handle_at (place + 1) records

  one_round : (rounds offset : ℕ) (answers : List Answer) (last : Bool) → ArePartsUpto next pdr offset answers → offset < length pdr → rounds ≤ offset
      → is_last_part pdr offset MAX_PART_BYTES ≡ last
      → Rounds records asked place pdr (suc rounds) (part_answer next pdr offset MAX_PART_BYTES ∷ answers)
  one_round rounds offset answers true parts below so_far last =
      let gives = parts_give_the_record asked next offset MAX_PART_BYTES pdr answers whole is parts below (omega arith) in
      inr (gives.2 last)
  one_round rounds offset answers false parts below so_far last =
      let some : 0 < length (part_bytes pdr offset MAX_PART_BYTES) = some_bytes pdr offset MAX_PART_BYTES below (omega arith) in
      let after : offset_after pdr offset MAX_PART_BYTES < length pdr = grind (arith, nat_tests, last) in
      inl (offset_after pdr offset MAX_PART_BYTES, (offset, below, (MAX_PART_BYTES, omega arith, refl, refl), parts), after, omega arith)

  rounds_so_far : (rounds : ℕ) → 0 < length pdr → Rounds records asked place pdr rounds (answered_rounds records asked rounds)
  rounds_so_far zero some = inl (0, refl, some, omega arith)
  rounds_so_far (suc rounds) some = more (rounds_so_far rounds some) where
    more : Rounds records asked place pdr rounds (answered_rounds records asked rounds)
        → Rounds records asked place pdr (suc rounds) (answered_rounds records asked (suc rounds))
    more (inr done) =
        inr (ap (λ request. fetched_record (fetched asked (with_answer records (answered_rounds records asked rounds) request)))
        (no_more (fetched asked (answered_rounds records asked rounds)) pdr (fetched asked (answered_rounds records asked rounds)).stage refl done) ∙ done)
    more (inl (offset, parts, below, so_far)) =
        let asks = (parts_give_the_record asked next offset MAX_PART_BYTES pdr (answered_rounds records asked rounds) whole is parts below (omega arith)).0 in
        let answered = answered_here records asked place offset pdr at here below in
        subst (Rounds records asked place pdr (suc rounds))
        (sym (ap (with_answer records (answered_rounds records asked rounds)) asks ∙ ap (λ a. a ∷ answered_rounds records asked rounds) answered))
        (one_round rounds offset (answered_rounds records asked rounds) (is_last_part pdr offset MAX_PART_BYTES) parts below so_far refl)

  fetched_whole : Rounds records asked place pdr (length pdr) (answered_rounds records asked (length pdr))
      → fetched_record (fetched asked (answered_rounds records asked (length pdr))) ≡ Some pdr
  fetched_whole (inr done) = done
  fetched_whole (inl (offset, parts, below, so_far)) = absurd (omega arith)

pub repository_is_fetched : RepositoryIsFetched
repository_is_fetched records asked place pdr at here whole is =
    fetched_whole records asked place pdr at here whole is
    (rounds_so_far records asked place pdr at here whole is (length pdr) (omega (arith, whole.header)))
