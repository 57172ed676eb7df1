-- A whole request from another endpoint.
use Rattle.std.specs.Prelude.{ℕ, List}

-- the endpoint that it came from, the one that it was sent to, the tag of its packets, and its bytes
pub record Requested : Type 0 where
  pub source : ℕ
  pub destination : ℕ
  pub tag : ℕ
  pub bytes : List ℕ
