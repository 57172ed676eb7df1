-- The requests of a world, by their numbers.
use Rattle.std.proofs.Common.{◌≡◌, ◌⊎◌, ℕ, suc, List, [], ◌∷◌, ◌++◌, length, Some, refl, sym, ap, ◌∙◌, inl, inr, arith}
use Rattle.std.specs.Prelude.{◌==◌, nat_lt, true, false, option_map, slice_get}
use Rattle.std.proofs.lemmas.Bool.{cases_Bool, cases_eq, cond-false, ltb-false, ltb-true, ne_eqb}
use Rattle.mctp_schedule.specs.Entries.{as_it_stands, requests_in}
use Rattle.mctp_schedule.specs.Logs.{Happening, Opened, Delivered, Sensed, WentDown, asked_at, count_of}
use Rattle.mctp_schedule.specs.Requests.{Request}
use Rattle.mctp_schedule.specs.Worlds.{BothEnds, World}
use Rattle.mctp_schedule.proofs.LoggedRequests.{asked_here}
use Rattle.mctp_schedule.proofs.ListPlaces.{get_front, get_last, get_past, length_pushed, same_places}

module _ {S : Type 0} (setting : BothEnds S) (w : World) where
  counted : (log : List Happening) → length (requests_in setting w log) ≡ count_of log
  counted [] = refl
  counted (Opened r ∷ past) = length_pushed (requests_in setting w past) (as_it_stands setting w r) ∙ ap suc (counted past)
  counted (Delivered _ _ ∷ past) = counted past
  counted (Sensed _ _ _ ∷ past) = counted past
  counted (WentDown _ ∷ past) = counted past

  requests_at : (log : List Happening) (k : ℕ) → slice_get (requests_in setting w log) k ≡ option_map (as_it_stands setting w) (asked_at log k)
  requests_at [] k = refl
  requests_at (Delivered _ _ ∷ past) k = requests_at past k
  requests_at (Sensed _ _ _ ∷ past) k = requests_at past k
  requests_at (WentDown _ ∷ past) k = requests_at past k
  requests_at (Opened r ∷ past) k = go (cases_eq k (count_of past)) (requests_at past k)
    where
      older : (k ≡ count_of past → ⊥) → slice_get (requests_in setting w past ++ as_it_stands setting w r ∷ []) k ≡ slice_get (requests_in setting w past) k
      older other = at (cases_Bool (nat_lt k (length (requests_in setting w past))))
        where
          at : (nat_lt k (length (requests_in setting w past)) ≡ true) ⊎ (nat_lt k (length (requests_in setting w past)) ≡ false) → slice_get (requests_in setting w past ++ as_it_stands setting w r ∷ []) k ≡ slice_get (requests_in setting w past) k
          at (inl low) = get_front (requests_in setting w past) (as_it_stands setting w r) k (ltb-true k (length (requests_in setting w past)) low)
          at (inr high) =
              let above = ltb-false k (length (requests_in setting w past)) high in
              let all = counted past in
              let more = length_pushed (requests_in setting w past) (as_it_stands setting w r) in
              get_past (requests_in setting w past ++ as_it_stands setting w r ∷ []) k (omega (arith, above, all, more, other)) ∙ sym (get_past (requests_in setting w past) k above)

      go : (k ≡ count_of past) ⊎ (k ≡ count_of past → ⊥) → slice_get (requests_in setting w past) k ≡ option_map (as_it_stands setting w) (asked_at past k) → slice_get (requests_in setting w past ++ as_it_stands setting w r ∷ []) k ≡ option_map (as_it_stands setting w) (asked_at (Opened r ∷ past) k)
      go (inl same) before =
          ap (slice_get (requests_in setting w past ++ as_it_stands setting w r ∷ [])) (same ∙ sym (counted past)) ∙ get_last (requests_in setting w past) (as_it_stands setting w r)
          ∙ sym (ap (option_map (as_it_stands setting w)) (ap (asked_at (Opened r ∷ past)) same ∙ asked_here past r))
      go (inr other) before =
          older other ∙ before ∙ sym (ap (option_map (as_it_stands setting w)) (cond-false (k == count_of past) (Some r) (asked_at past k) (ne_eqb k (count_of past) other)))

  pub requests_are : (requests : List Request) → ((k : ℕ) → slice_get requests k ≡ option_map (as_it_stands setting w) (asked_at w.log k)) → requests ≡ requests_in setting w w.log
  requests_are requests each = same_places requests (requests_in setting w w.log) (λ k. each k ∙ sym (requests_at w.log k))
