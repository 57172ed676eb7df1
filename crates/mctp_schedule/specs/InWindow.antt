-- The window as it is said: fewer than `window` other instance IDs of the source had a first arrival since that of a
-- request's own.
use Rattle.std.specs.Prelude.{◌≡◌, ℕ, List, [], ◌∷◌, length, ◌&&◌, ◌==◌, Bool, true, nat_lt, Option, Some, None, if◌then◌else◌}
use Rattle.pldm_wire.specs.Headers.{id_at}
use Rattle.mctp_schedule.specs.FirstArrivals.{has_arrived, is_first}
use Rattle.mctp_schedule.specs.Logs.{Asked, Happening, Delivered, asked_at, endpoint_of}
use Rattle.pldm_responder.specs.Recency.{renewed}
use Rattle.mctp_schedule.specs.Timely.{is_in_window}

-- one of another instance ID is added, and one of this ID begins anew
abbrev pub with_other : Bool → Option Asked → ℕ → ℕ → List ℕ → List ℕ
with_other first None source id others = others
with_other first (Some r) source id others =
    if endpoint_of r.source == source && first
    then (if id_at r.message == id then [] else renewed (λ other. other) (id_at r.message) others)
    else others

-- over a device with states S
module _ (S : Type 0) where
  -- the other instance IDs of a source that had a first arrival since the latest one of this ID, each once
  abbrev pub others_arrived : ℕ → List Happening → ℕ → ℕ → List ℕ
  others_arrived keep [] source id = []
  others_arrived keep (Delivered moment k ∷ past) source id =
      with_other (is_first S keep past moment k) (asked_at past k) source id (others_arrived keep past source id)
  others_arrived keep (_ ∷ past) source id = others_arrived keep past source id

  -- a request that has arrived is in the window exactly where they are fewer than the window
  abbrev pub InWindowByTheRule : Type 0
  InWindowByTheRule =
      (window keep : ℕ) (past : List Happening) (k : ℕ) (r : Asked)
      → asked_at past k ≡ Some r → has_arrived S keep past k ≡ true
      → is_in_window S window keep past r
      ≡ nat_lt (length (others_arrived keep past (endpoint_of r.source) (id_at r.message))) window
