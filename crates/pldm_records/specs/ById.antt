-- Things by their ID, in ascending order of ID.
use Rattle.std.specs.Prelude.{ℕ, Bool, List, Option, is_some, Some, None, Result, Ok, Err}
use Rattle.std.specs.Ordering.{nat_cmp}
use Rattle.std.specs.Map.{lookup, set_value}
use Rattle.std.specs.BTreeMap.{is_at, insert_entry}

abbrev pub ById : Type 0 → Type 0
ById X = List (ℕ × X)

-- the thing with the ID
abbrev pub with_id : {X : Type 0} → ℕ → ById X → Option X
with_id id things = lookup (is_at (nat_cmp id)) things

abbrev pub has_id : {X : Type 0} → ℕ → ById X → Bool
has_id id things = is_some (with_id id things)

-- the things, and one more with its ID
abbrev pub add : {X : Type 0} → ℕ → X → ById X → ById X
add id thing things = insert_entry nat_cmp things id thing

-- the things with another one at the ID
abbrev pub replace : {X : Type 0} → ℕ → X → ById X → ById X
replace id thing things = set_value (is_at (nat_cmp id)) things thing

-- the things with what is made of the one at the ID in its place, or why it isn't made
abbrev pub replaced : {X E : Type 0} → ℕ → ById X → Result X E → Result (ById X) E
replaced id things (Ok thing) = Ok (replace id thing things)
replaced id things (Err refusal) = Err refusal

-- the things with the one that was found changed; the first refusal is for none
abbrev pub change_found : {X E : Type 0} → E → (X → Result X E) → ℕ → ById X → Option X → Result (ById X) E
change_found missing change id things None = Err missing
change_found missing change id things (Some thing) = replaced id things (change thing)

abbrev pub change_at : {X E : Type 0} → E → (X → Result X E) → ℕ → ById X → Result (ById X) E
change_at missing change id things = change_found missing change id things (with_id id things)
