-- When each request first arrived at the device, and in what order.
use Rattle.std.specs.Prelude.{◌≡◌, ℕ, ◌<◌, List, [], ◌∷◌, ◌++◌, length, slice_get, Bool, false, ◌&&◌, not, ◌==◌, Option, Some, None, IsSomeAnd, is_some, if◌then◌else◌}
use Rattle.std.specs.List.{list_any}
use Rattle.std.specs.Option.{option_or}
use Rattle.pldm_wire.specs.declared.restart_policy.RestartPolicy.TheVariants.{All}
use Rattle.pldm_responder.specs.Events.{Event, is_busy, is_fresh}
use Rattle.mctp_schedule.specs.Logs.{Asked, Happening, Delivered, asked_at, message_at, reached}

-- a delivered request arrives where it was opened and the responder is not busy
abbrev pub arrives : Option Asked → Bool → Bool
arrives None busy = false
arrives (Some r) busy = not busy

-- it is expected a busy answer where it was opened and the responder is busy
abbrev pub is_answered_busy : Option Asked → Bool → Bool
is_answered_busy None busy = false
is_answered_busy (Some r) busy = busy

-- the earlier place, or else this one if the request arrives here
abbrev pub earlier : Option (List Happening) → Bool → List Happening → Option (List Happening)
earlier place here past = option_or place (if here then Some past else None)

-- a delivery of this request is fresh at the responder
abbrev pub fresh_of : {S : Type 0} → (window keep : ℕ) → List (Event S) → ℕ → Option Asked → Bool
fresh_of window keep events moment None = false
fresh_of window keep events moment (Some r) = is_fresh All window keep events (message_at moment r)

-- over a device with states S
module _ (S : Type 0) where
  -- request k arrives, where its packet is delivered at this moment
  abbrev pub arrives_at : ℕ → List Happening → ℕ → ℕ → Bool
  arrives_at keep past moment k = arrives (asked_at past k) (is_busy keep (reached {S = S} past) moment)

  -- or it is expected a busy answer
  abbrev pub is_answered_busy_at : ℕ → List Happening → ℕ → ℕ → Bool
  is_answered_busy_at keep past moment k = is_answered_busy (asked_at past k) (is_busy keep (reached {S = S} past) moment)

  -- what had happened before the first arrival of request k; `None` where it never arrived
  abbrev pub first : ℕ → List Happening → ℕ → Option (List Happening)
  first keep [] k = None
  first keep (Delivered moment j ∷ past) k =
      earlier (first keep past k) (j == k && arrives_at keep past moment k) past
  first keep (_ ∷ past) k = first keep past k

  -- request k has arrived
  abbrev pub has_arrived : ℕ → List Happening → ℕ → Bool
  has_arrived keep log k = is_some (first keep log k)

  -- a delivery of request k at this moment is its first arrival: it has not arrived before, and arrives now
  abbrev pub is_first : ℕ → List Happening → ℕ → ℕ → Bool
  is_first keep past moment k = not (has_arrived keep past k) && arrives_at keep past moment k

  -- the requests whose deliveries were fresh at the responder, the oldest first
  abbrev pub order : (window keep : ℕ) → List Happening → List ℕ
  order window keep [] = []
  order window keep (Delivered moment k ∷ past) =
      if fresh_of window keep (reached {S = S} past) moment (asked_at past k) then order window keep past ++ k ∷ []
      else order window keep past
  order window keep (_ ∷ past) = order window keep past

  -- the requests that arrived, each at its first arrival, the oldest first
  abbrev pub firsts : ℕ → List Happening → List ℕ
  firsts keep [] = []
  firsts keep (Delivered moment k ∷ past) =
      if is_first keep past moment k then firsts keep past ++ k ∷ [] else firsts keep past
  firsts keep (_ ∷ past) = firsts keep past

-- one first arrival came before another: there are both, and less had happened before the one
abbrev pub IsSooner : Option (List Happening) → Option (List Happening) → Type 0
IsSooner one other = IsSomeAnd one (λ p. IsSomeAnd other (λ q. length p < length q))

-- these numbers are the requests that arrived, in the order of their first arrivals, each once
pub record IsOrderOfFirsts (S : Type 0) (keep : ℕ) (log : List Happening) (numbers : List ℕ) : Type 0 where
  pub has : (k : ℕ) → list_any (λ n. n == k) numbers ≡ has_arrived S keep log k
  pub rises : (i n j k : ℕ) → i < n → slice_get numbers i ≡ Some j → slice_get numbers n ≡ Some k
      → IsSooner (first S keep log j) (first S keep log k)
  pub once : (i n k : ℕ) → slice_get numbers i ≡ Some k → slice_get numbers n ≡ Some k → i ≡ n
