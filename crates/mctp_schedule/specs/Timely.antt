-- Which deliveries a window of instance IDs allows for: a log of which a responder with a window performs each request
-- once.
use Rattle.std.specs.Prelude.{◌≡◌, ◌⊎◌, ℕ, ◌+◌, ◌*◌, ◌<◌, ◌≤◌, ◌==◌, ◌&&◌, Bool, true, false, List, [], ◌∷◌, take, Option, Some, None, if◌then◌else◌}
use Rattle.std.specs.List.{list_any}
use Rattle.pldm_wire.specs.Headers.{id_at}
use Rattle.mctp_schedule.specs.FirstArrivals.{has_arrived, is_first}
use Rattle.mctp_schedule.specs.Logs.{Asked, Happening, Opened, Delivered, InOrder, asked_at, endpoint_of}
use Rattle.pldm_responder.specs.Recency.{renewed}

-- one instance ID is put in front, where a first arrival is of this source
abbrev pub with_first : Bool → Option Asked → ℕ → List ℕ → List ℕ
with_first first None source ids = ids
with_first first (Some r) source ids =
    if endpoint_of r.source == source && first then renewed (λ id. id) (id_at r.message) ids else ids

-- over a device with states S
module _ (S : Type 0) where
  -- the instance IDs of a source by their latest first arrival, the newest first
  abbrev pub ids_arrived : ℕ → List Happening → ℕ → List ℕ
  ids_arrived keep [] source = []
  ids_arrived keep (Delivered moment k ∷ past) source =
      with_first (is_first S keep past moment k) (asked_at past k) source (ids_arrived keep past source)
  ids_arrived keep (_ ∷ past) source = ids_arrived keep past source

  -- request r's instance ID is among the `window` of its source whose first arrivals are the latest: fewer than
  -- `window` others had one since its own
  abbrev pub is_in_window : (window keep : ℕ) → List Happening → Asked → Bool
  is_in_window window keep past r =
      list_any (λ id. id == id_at r.message) (take window (ids_arrived keep past (endpoint_of r.source)))

  -- r's source uses its instance ID again: twice the lifetime or more after each other request with it was opened, and
  -- less than twice the keeping time after only where the instance ID is out of the window
  abbrev pub ComesFree : (window keep lifetime : ℕ) → Asked → List Happening → Type 0
  ComesFree window keep lifetime r past =
      (k : ℕ) (q : Asked) → asked_at past k ≡ Some q → endpoint_of q.source ≡ endpoint_of r.source → id_at q.message ≡ id_at r.message
      → (q.opening + 2 * lifetime ≤ r.opening)
      × ((q.opening + 2 * keep ≤ r.opening) ⊎ (is_in_window window keep past r ≡ false))

  -- each source uses each instance ID again so
  abbrev pub AreApart : (window keep lifetime : ℕ) → List Happening → Type 0
  AreApart window keep lifetime [] = Unit {0}
  AreApart window keep lifetime (Opened r ∷ past) =
      ComesFree window keep lifetime r past × AreApart window keep lifetime past
  AreApart window keep lifetime (_ ∷ past) = AreApart window keep lifetime past

  -- request k, which is r, comes in time: less than the lifetime after it was opened and, where it has arrived before,
  -- in the window
  pub record ComesInTime (window keep lifetime : ℕ) (past : List Happening) (moment k : ℕ) (r : Asked) : Type 0 where
    pub soon : moment < r.opening + lifetime
    pub in_window : has_arrived S keep past k ≡ true → is_in_window window keep past r ≡ true

  -- each delivery does
  abbrev pub InTime : (window keep lifetime : ℕ) → List Happening → Type 0
  InTime window keep lifetime [] = Unit {0}
  InTime window keep lifetime (Delivered moment k ∷ past) =
      ((r : Asked) → asked_at past k ≡ Some r → ComesInTime window keep lifetime past moment k r)
      × InTime window keep lifetime past
  InTime window keep lifetime (_ ∷ past) = InTime window keep lifetime past

  -- moments never go back, instance IDs are used again so late, and deliveries come in time; the line's lifetime is no
  -- longer than the keeping time
  pub record IsTimelyLog (window keep lifetime : ℕ) (log : List Happening) : Type 0 where
    pub order : InOrder log
    pub apart : AreApart window keep lifetime log
    pub in_time : InTime window keep lifetime log
    pub within : lifetime ≤ keep
