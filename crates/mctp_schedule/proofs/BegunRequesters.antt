-- The requesters of a schedule's lines, each in its place.
use Rattle.std.proofs.Common.{◌≡◌, ◌≢◌, ◌⊎◌, ℕ, zero, suc, ◌+◌, ◌<◌, Bool, true, false, List, [], ◌∷◌, length, take, drop, Option, Some, None, refl, sym, ap, subst, ◌∙◌, inl, inr, arith, eq-eqb}
use Rattle.std.specs.Prelude.{◌||◌, ◌&&◌, ◌*◌, not, nat_le, nat_lt, ◌==◌, find, slice_get, slice_set, slice_index_or, if◌then◌else◌}
use Rattle.std.specs.List.{list_any}
use Rattle.std.proofs.lemmas.Bool.{cases_Bool, cases_eq, cond-true, cond-false, ne_eqb}
use Rattle.std.proofs.lemmas.List.Folds.{list_any_more}
use Rattle.mctp_packet.specs.Ids.{IsEid}
use Rattle.pldm_requester.specs.Slots.{held_of}
use Rattle.pldm_requester.specs.Steps.{IsHeld, held_at_first}
use Rattle.pldm_requester.specs.Timings.{timing_fault}
use Rattle.pldm_requester.specs.declared.timing.Timing.{Timing}
use Rattle.pldm_requester.specs.declared.timing.TimingFault.{TimingFault}
use Rattle.pldm_requester.specs.declared.timing.TimingFault.TheVariants.{Timeout, Tries, TooLate, SameEid}
use Rattle.pldm_requester.specs.declared.timing.TheConstants.{MAX_TRIES}
use Rattle.mctp_schedule.specs.Askers.{Side}
use Rattle.mctp_schedule.specs.Places.{Begins, side_at}
use Rattle.mctp_schedule.specs.RunFaults.{refusal, refusal_of}
use Rattle.schedule_text.specs.Schedules.{AreDistinct, has_requester, is_requester}
use Rattle.mctp_schedule.specs.Worlds.{timing_from}
use Rattle.schedule_text.specs.declared.step.RequesterLine.{RequesterLine}
use Rattle.mctp_schedule.proofs.ListPlaces.{drop_at, or_set_at, or_set_other}

-- ---- a line's requester is found by its endpoint ID
head_other : (lines : List RequesterLine) (eid i : ℕ) (line : RequesterLine) → has_requester lines eid ≡ false → slice_get lines i ≡ Some line → (eid == line.eid) ≡ false
head_other [] eid i line none here = absurd (cc)
head_other (first ∷ lines) eid zero line none here = go (cases_eq eid line.eid)
  where
    same : first ≡ line
    same = cc

    go : (eid ≡ line.eid) ⊎ (eid ≡ line.eid → ⊥) → (eid == line.eid) ≡ false
    go (inl e) =
        let hit : is_requester eid first ≡ true = eq-eqb first.eid eid (ap (λ (l : RequesterLine). l.eid) same ∙ sym e) in
        let wrong : true ≡ false = sym (ap (λ b. b || has_requester lines eid) hit) ∙ none in
        absurd (cc)
    go (inr ne) = ne_eqb eid line.eid ne
head_other (first ∷ lines) eid (suc i) line none here = go (cases_Bool (is_requester eid first)) (λ later. head_other lines eid i line later here)
  where
    go : (is_requester eid first ≡ true) ⊎ (is_requester eid first ≡ false) → (has_requester lines eid ≡ false → (eid == line.eid) ≡ false) → (eid == line.eid) ≡ false
    go (inl t) rest = let wrong : true ≡ false = sym (ap (λ b. b || has_requester lines eid) t) ∙ none in absurd (cc)
    go (inr f) rest = rest (sym (ap (λ b. b || has_requester lines eid) f) ∙ none)

pub found_line : (lines : List RequesterLine) (i : ℕ) (line : RequesterLine) → AreDistinct lines → slice_get lines i ≡ Some line → find (is_requester line.eid) lines ≡ Some line
found_line [] i line distinct here = absurd (cc)
found_line (first ∷ lines) zero line distinct here =
    let same : first ≡ line = cc in
    cond-true (is_requester line.eid first) (Some first) (find (is_requester line.eid) lines) (eq-eqb first.eid line.eid (ap (λ (l : RequesterLine). l.eid) same)) ∙ ap Some same
found_line (first ∷ lines) (suc i) line distinct here =
    cond-false (is_requester line.eid first) (Some first) (find (is_requester line.eid) lines) (head_other lines first.eid i line distinct.0 here)
    ∙ found_line lines i line distinct.1 here

-- ---- a timing that is not refused is of another endpoint than the device's
last_check : (a b c d : Bool) (f g h k : TimingFault) → (if a then Some f else (if b then Some g else (if c then Some h else (if d then Some k else None)))) ≡ None → d ≡ false
last_check true b c d f g h k e = absurd (cc)
last_check false true c d f g h k e = absurd (cc)
last_check false false true d f g h k e = absurd (cc)
last_check false false false true f g h k e = absurd (cc)
last_check false false false false f g h k e = refl

pub other_endpoint : (own device : ℕ) (timing : Timing) → timing_fault own device timing ≡ None → own ≢ device
other_endpoint own device timing e same =
    let off : (own == device) ≡ false = last_check (timing.timeout == 0) (not (nat_le 1 timing.tries && nat_le timing.tries MAX_TRIES)) (nat_lt timing.keep (timing.tries * timing.timeout)) (own == device) Timeout Tries TooLate SameEid e in
    let wrong : true ≡ false = sym (eq-eqb own device same) ∙ off in
    cc

-- ---- one more line
pub accepted_more : (device keep : ℕ) (lines : List RequesterLine) (i : ℕ) (line : RequesterLine) → slice_get lines i ≡ Some line → timing_fault line.eid device (timing_from keep (Some line)) ≡ None
    → refusal device keep lines ≡ refusal device keep (drop i lines) → refusal device keep lines ≡ refusal device keep (drop (i + 1) lines)
accepted_more device keep lines i line here accepted before =
    let next : suc i ≡ i + 1 = omega arith in
    before ∙ ap (refusal device keep) (drop_at lines i line here ∙ ap (λ n. line ∷ drop n lines) next) ∙ ap (λ fault. refusal_of line.eid fault (refusal device keep (drop (i + 1) lines))) accepted

module _ (device keep : ℕ) (lines : List RequesterLine) where
  abbrev Begun : ℕ → List (Option Side) → Type 0
  Begun i places =
      (e : ℕ) → has_requester (take i lines) e ≡ true → (side : Side) × (side_at places e ≡ Some side) × Begins device keep lines e side

  pub begun_more : (i : ℕ) (line : RequesterLine) (places : List (Option Side)) (side : Side) → AreDistinct lines → i < length lines → slice_index_or lines i line ≡ line → slice_get lines i ≡ Some line → line.eid < length places → IsEid line.eid
      → timing_fault line.eid device (timing_from keep (Some line)) ≡ None → IsHeld (held_of side.station) (held_at_first line.eid device (timing_from keep (Some line))) → side.numbers ≡ [] → Begun i places
      → Begun (i + 1) (slice_set places line.eid (Some side))
  begun_more i line places side distinct within at here below eid accepted held numbers begun e has = go (cases_eq e line.eid)
    where
      Here : Type 0
      Here = (s : Side) × (side_at (slice_set places line.eid (Some side)) e ≡ Some s) × Begins device keep lines e s

      begins : Begins device keep lines line.eid side
      begins = record {
        endpoint = eid;
        other = other_endpoint line.eid device (timing_from keep (Some line)) accepted;
        held = subst (λ found. IsHeld (held_of side.station) (held_at_first line.eid device (timing_from keep found))) (sym (found_line lines i line distinct here)) held;
        numbers = numbers;
      }

      before : (e ≡ line.eid → ⊥) → has_requester (take i lines) e ≡ true
      before other =
          sym (
          sym has ∙ list_any_more (is_requester e) lines i line within
          ∙ ap (λ b. list_any (is_requester e) (take i lines) || b) (ap (is_requester e) at ∙ ne_eqb line.eid e (λ same. other (sym same)))
          ∙ or_false (has_requester (take i lines) e))
        where
          or_false : (b : Bool) → (b || false) ≡ b
          or_false true = refl
          or_false false = refl

      go : (e ≡ line.eid) ⊎ (e ≡ line.eid → ⊥) → Here
      go (inl same) = (
        side,
        ap (side_at (slice_set places line.eid (Some side))) same ∙ or_set_at places line.eid (Some side) None below,
        subst (λ k. Begins device keep lines k side) (sym same) begins,
      )
      go (inr other) =
          let was = begun e (before other) in
          (was.0, or_set_other places line.eid e (Some side) None other ∙ was.1, was.2)
