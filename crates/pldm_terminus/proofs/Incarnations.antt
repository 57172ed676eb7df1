-- Requests of different incarnations of a requester are opened twice the keeping time apart, or more.
use Rattle.std.proofs.Common.{◌≡◌, ℕ, zero, suc, ◌+◌, ◌*◌, ◌<◌, ◌≤◌, List, [], ◌∷◌, Some, None, subst, sym, arith}
use Rattle.std.specs.Prelude.{slice_get}
use Rattle.pldm_requester.specs.Laws.{OpenedBefore}
use Rattle.pldm_requester.specs.declared.pace.Pace.{Pace}
use Rattle.pldm_requester.specs.declared.timing.Timing.{Timing}
use Rattle.pldm_terminus.specs.Laws.{ApartOverRestarts, AreRested, Incarnation, count_in, opening_in}

some_eq : (x y : Incarnation) → Some x ≡ Some y → x ≡ y
some_eq x y e = cc

module _ (before : OpenedBefore) (own device : ℕ) (timing : Timing) (pace : Pace) where
  -- a request of an older one was opened before this one began
  old_before : (newer : Incarnation) (past : List Incarnation) (place : ℕ) (old : Incarnation) (m : ℕ)
      → AreRested own device timing pace (newer ∷ past) → slice_get past place ≡ Some old → m < count_in own device timing pace old
      → opening_in own device timing pace old m ≤ newer.begun
  old_before newer [] place old m rested at l = absurd (let no : None ≡ Some old = at in cc)
  old_before newer (next ∷ past) zero old m rested at l =
      let same = some_eq next old at in
      let b = before own device timing pace next.calls m rested.1.0.order (subst (λ (i : Incarnation). m < count_in own device timing pace i) (sym same) l) in
      let f = rested.0.follows.1 in
      subst (λ (i : Incarnation). opening_in own device timing pace i m ≤ newer.begun) same (omega arith)
  old_before newer (next ∷ past) (suc place) old m rested at l =
      let b = old_before next past place old m rested.1 at l in
      let f = rested.0.follows.0 in
      omega arith

  apart_at : (all : List Incarnation) (place other : ℕ) (new old : Incarnation) (n m : ℕ)
      → AreRested own device timing pace all → place < other → slice_get all place ≡ Some new → slice_get all other ≡ Some old
      → n < count_in own device timing pace new → m < count_in own device timing pace old
      → opening_in own device timing pace old m + 2 * timing.keep ≤ opening_in own device timing pace new n
  apart_at [] place other new old n m rested l at at_old k k_old = absurd (let no : None ≡ Some new = at in cc)
  apart_at (first ∷ past) zero zero new old n m rested l at at_old k k_old = absurd (omega arith)
  apart_at (first ∷ past) zero (suc other) new old n m rested l at at_old k k_old =
      let same = some_eq first new at in
      let b = old_before first past other old m rested at_old k_old in
      let r = rested.0.rested n (subst (λ (i : Incarnation). n < count_in own device timing pace i) (sym same) k) in
      subst (λ (i : Incarnation). opening_in own device timing pace old m + 2 * timing.keep ≤ opening_in own device timing pace i n) same (omega arith)
  apart_at (first ∷ past) (suc place) zero new old n m rested l at at_old k k_old = absurd (omega arith)
  apart_at (first ∷ past) (suc place) (suc other) new old n m rested l at at_old k k_old =
      apart_at past place other new old n m rested.1 (omega arith) at at_old k k_old

pub apart_over_restarts : OpenedBefore → ApartOverRestarts
apart_over_restarts before own device timing pace all place other new old n m = apart_at before own device timing pace all place other new old n m
