-- What an entry of a journal changes besides.
use Rattle.std.specs.Prelude.{◌≡◌, ◌<◌, ℕ, List, length, option_map, slice_get}
use Rattle.std.specs.List.{AllByRecursion}
use Rattle.pldm_requester.specs.declared.results.Due.{Due}
use Rattle.mctp_schedule.specs.declared.journal.Journal.{Journal}

-- each of a list became what this makes of it, by its number, and none was added
pub record AreChangedBy {A : Type 0} (change : ℕ → A → A) (old new : List A) : Type 0 where
  pub all : length new ≡ length old
  pub each : (number : ℕ) → slice_get new number ≡ option_map (change number) (slice_get old number)

-- each request that is due is one of the requester's first `count` ones, by its number among them
pub record AreNumbered (count : ℕ) (due : Due) : Type 0 where
  pub again : AllByRecursion (λ own. own < count) due.again.items
  pub given_up : AllByRecursion (λ own. own < count) due.given_up.items

-- what came to the device, what it performed and whether all was timely are as before
pub record HasSameTraffic (old new : Journal) : Type 0 where
  pub traffic : new.traffic.items ≡ old.traffic.items
  pub order : new.order.items ≡ old.order.items
  pub timely : new.timely ≡ old.timely
