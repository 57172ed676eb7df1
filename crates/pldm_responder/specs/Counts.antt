-- How many pairs of a source and an instance ID have a kept answer.
use Rattle.std.specs.Prelude.{◌≡◌, ℕ, Bool, ◌&&◌, ◌==◌, List, length, Option, is_some}
use Rattle.std.specs.List.{list_any, IsDistinct}
use Rattle.pldm_responder.specs.ResponderStates.{Entry}

abbrev pub is_pair : ℕ × ℕ → ℕ × ℕ → Bool
is_pair a b = a.0 == b.0 && a.1 == b.1

-- this many pairs of a source and an instance ID pass a test
pub record CountsPairs (test : ℕ → ℕ → Bool) (count : ℕ) : Type 0 where
  -- the pairs that do, each once
  pub pairs : List (ℕ × ℕ)
  pub each : (source id : ℕ) → test source id ≡ list_any (λ pair. is_pair pair (source, id)) pairs
  pub once : IsDistinct is_pair pairs
  pub all : count ≡ length pairs

-- this many pairs have a kept answer
abbrev pub CountsKept : (ℕ → ℕ → Option Entry) → ℕ → Type 0
CountsKept kept count = CountsPairs (λ source id. is_some (kept source id)) count
