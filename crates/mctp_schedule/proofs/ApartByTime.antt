-- Where the line's lifetime is the keeping time, instance IDs are used again so late that time alone frees them.
use Rattle.std.proofs.Common.{ℕ, List, [], ◌∷◌, inl}
use Rattle.mctp_schedule.specs.Logs.{Happening, Opened, Delivered, Sensed, WentDown, Apart}
use Rattle.mctp_schedule.specs.Timely.{AreApart}

module _ (S : Type 0) (window keep : ℕ) where
  pub apart_by_time : (log : List Happening) → Apart keep log → AreApart S window keep keep log
  apart_by_time [] a = tt
  apart_by_time (Opened r ∷ past) a = (λ k q e s i. (a.0 k q e s i, inl (a.0 k q e s i)), apart_by_time past a.1)
  apart_by_time (Delivered _ _ ∷ past) a = apart_by_time past a
  apart_by_time (Sensed _ _ _ ∷ past) a = apart_by_time past a
  apart_by_time (WentDown _ ∷ past) a = apart_by_time past a

  pub apart_in_time : (log : List Happening) → AreApart S window keep keep log → Apart keep log
  apart_in_time [] a = tt
  apart_in_time (Opened r ∷ past) a = (λ k q e s i. (a.0 k q e s i).0, apart_in_time past a.1)
  apart_in_time (Delivered _ _ ∷ past) a = apart_in_time past a
  apart_in_time (Sensed _ _ _ ∷ past) a = apart_in_time past a
  apart_in_time (WentDown _ ∷ past) a = apart_in_time past a
