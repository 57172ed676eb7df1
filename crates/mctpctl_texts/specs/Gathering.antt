-- What a text does to a writer and to the page that is gathered for it.
use Rattle.std.specs.Prelude.{◌≡◌, ℕ, Bool, List, Option, Result, OnOk, OnErr}
use Rattle.std.specs.Io.KnownBytes.{Appends, append_known}

-- what a writer has taken, and then what is gathered for it
abbrev pub in_all : {O : Type 0} → (O → Option (List ℕ)) → O → List ℕ → Option (List ℕ)
in_all contents out gathered = append_known (contents out) gathered

-- the text stands behind what there was before; else the writer is as a refusal leaves it
pub record Gathered {O E : Type 0} (contents : O → Option (List ℕ)) (failed : O → Bool) (refused : O → Type 0)
    (before after : O) (gathered_before gathered_after bytes : List ℕ) (result : Result Unit E) : Type 0 where
  pub text : OnOk result (Appends (in_all contents before gathered_before) (in_all contents after gathered_after) bytes)
  pub ok : OnOk result (failed after ≡ failed before)
  pub err : OnErr result (refused after)
