-- What a text does to the writer that it is written to.
use Rattle.std.specs.Prelude.{◌≡◌, ℕ, Bool, List, Option, Result, OnOk, OnErr}
use Rattle.std.specs.Io.KnownBytes.{Appends}

-- a writer that took the text has it after what it took before, and works as before; else it is as a refusal leaves it
pub record Wrote {O E : Type 0} (contents : O → Option (List ℕ)) (failed : O → Bool) (refused : O → Type 0)
    (before after : O) (bytes : List ℕ) (result : Result Unit E) : Type 0 where
  pub text : OnOk result (Appends (contents before) (contents after) bytes)
  pub ok : OnOk result (failed after ≡ failed before)
  pub err : OnErr result (refused after)

-- what the writer began with it begins with still
abbrev pub KeepsFront : {O : Type 0} → (O → List ℕ → Type 0) → (before after : O) → Type 0
KeepsFront begins before after = (front : List ℕ) → begins before front → begins after front
