-- A requester that uses its instance IDs in turn, each again when all others were used: a new request never gets the
-- answer to an earlier one with its instance ID, where enough of those between arrived.
use Rattle.std.specs.Prelude.{◌≡◌, ◌<◌, ◌≤◌, ℕ, ◌+◌, ◌%◌, ◌&&◌, ◌==◌, not, nat_le, List, [], ◌∷◌, filter, length, if◌then◌else◌}
use Rattle.pldm_wire.specs.Headers.{id_at}
use Rattle.pldm_wire.specs.declared.assigned.TheConstants.{INSTANCE_IDS}
use Rattle.pldm_wire.specs.declared.restart_policy.RestartPolicy.{RestartPolicy}
use Rattle.pldm_responder.specs.Events.{Message, Event, Came, Set, Restarted, Changed, is_fresh, is_refused}

module _ {S : Type 0} (busy : RestartPolicy) (window keep : ℕ) where
  -- the fresh requests of a source since the last restart, the newest first
  abbrev pub fresh_of : List (Event S) → ℕ → List Message
  fresh_of [] source = []
  fresh_of (Set _ _ ∷ events) source = fresh_of events source
  fresh_of (Restarted _ ∷ events) source = []
  fresh_of (Changed _ ∷ events) source = fresh_of events source
  fresh_of (Came m ∷ events) source =
      if m.source == source && is_fresh busy window keep events m then m ∷ fresh_of events source
      else fresh_of events source

-- `number` says as the how many-th request of its source each was made
module _ (number : Message → ℕ) where
  -- requests have the instance ID of their number modulo 32
  abbrev pub IsNumbered : Message → Type 0
  IsNumbered m = id_at m.bytes ≡ number m % INSTANCE_IDS

  -- they arrived in the order in which they were made, the newest first, and before the one of this number
  abbrev pub AreInTurn : ℕ → List Message → Type 0
  AreInTurn n [] = Unit {0}
  AreInTurn n (m ∷ requests) = (number m < n) × IsNumbered m × AreInTurn (number m) requests

  -- those of the 31 numbers before this one
  abbrev pub among_last : ℕ → List Message → List Message
  among_last n requests = filter (λ m. nat_le n (number m + 31)) requests

-- where at least a window of the 31 requests before a new one arrived, so that no more than 31 less the window were
-- lost, the new one is performed or refused anew
abbrev pub NewInTurnIsFresh : Type 0 → Type 0
NewInTurnIsFresh S =
    (busy : RestartPolicy) (window keep : ℕ) (events : List (Event S)) (m : Message) (number : Message → ℕ)
    → IsNumbered number m
    → AreInTurn number (number m) (fresh_of busy window keep events m.source)
    → window ≤ length (among_last number (number m) (fresh_of busy window keep events m.source))
    → is_fresh busy window keep events m ≡ not (is_refused busy keep events m)
