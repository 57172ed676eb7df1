-- The rule as it is said: a message is a copy where it repeats the latest fresh message of its source and instance ID
-- within the keeping time, and fewer than `window` other instance IDs of that source had a fresh message since.
use Rattle.std.specs.Prelude.{◌≡◌, ◌≤◌, ℕ, List, [], ◌∷◌, length, ◌&&◌, ◌==◌, not, nat_lt, Option, Some, None, if◌then◌else◌}
use Rattle.pldm_wire.specs.Headers.{id_at}
use Rattle.pldm_wire.specs.declared.restart_policy.RestartPolicy.{RestartPolicy}
use Rattle.pldm_responder.specs.Events.{Message, Event, Came, Set, Restarted, Changed, Place, is_copy, is_copy_of, is_fresh, is_of, is_refused}
use Rattle.pldm_responder.specs.Recency.{renewed}

module _ {S : Type 0} (busy : RestartPolicy) (window keep : ℕ) where
  -- the latest fresh message of a source and an instance ID since the last restart
  abbrev pub latest_fresh : List (Event S) → ℕ → ℕ → Option (Place S)
  latest_fresh [] source id = None
  latest_fresh (Set _ _ ∷ events) source id = latest_fresh events source id
  latest_fresh (Restarted _ ∷ events) source id = None
  latest_fresh (Changed _ ∷ events) source id = latest_fresh events source id
  latest_fresh (Came m ∷ events) source id =
      if is_of m source id && is_fresh busy window keep events m then Some (record { before = events; message = m })
      else latest_fresh events source id

  -- the other instance IDs of the source that had a fresh message since, each once
  abbrev pub others_since : List (Event S) → ℕ → ℕ → List ℕ
  others_since [] source id = []
  others_since (Set _ _ ∷ events) source id = others_since events source id
  others_since (Restarted _ ∷ events) source id = []
  others_since (Changed _ ∷ events) source id = others_since events source id
  others_since (Came m ∷ events) source id =
      if m.source == source && is_fresh busy window keep events m
      then (if id_at m.bytes == id then []
      else renewed (λ other. other) (id_at m.bytes) (others_since events source id))
      else others_since events source id

abbrev pub CopiesByTheRule : Type 0 → Type 0
CopiesByTheRule S =
    (busy : RestartPolicy) (window keep : ℕ) (events : List (Event S)) (m : Message)
    → is_copy busy window keep events m
    ≡ (is_copy_of keep m (latest_fresh busy window keep events m.source (id_at m.bytes))
    && nat_lt (length (others_since busy window keep events m.source (id_at m.bytes))) window)

-- whatever the source: once `window` other instance IDs had a fresh message, a request is performed anew, or refused
abbrev pub FreshPastTheWindow : Type 0 → Type 0
FreshPastTheWindow S =
    (busy : RestartPolicy) (window keep : ℕ) (events : List (Event S)) (m : Message)
    → window ≤ length (others_since busy window keep events m.source (id_at m.bytes))
    → is_fresh busy window keep events m ≡ not (is_refused busy keep events m)
