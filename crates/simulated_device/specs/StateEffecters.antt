-- A state effecter: the states that each of its fields can take, and the one that it has.
use Rattle.std.specs.Prelude.{ℕ, List}

pub record FieldsOfStates : Type 0 where
  pub allowed : List (List ℕ)
  pub states : List ℕ

abbrev pub fields_of_states : List (List ℕ) → List ℕ → FieldsOfStates
fields_of_states allowed states = record { allowed = allowed; states = states }
