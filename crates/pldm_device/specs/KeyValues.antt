-- What stands at a key of a TOML table, or the fault for which it is refused.
use Rattle.std.specs.Prelude.{ℕ, pos, negsuc, Bool, false, ◌&&◌, nat_le, if◌then◌else◌, List, Option, None, Some, Result, Ok, Err}
use Rattle.std.specs.Option.{ok_or}
use Rattle.toml.specs.Data.{Data, integer, Items, Members, get_member, as_array, as_bool, as_table, as_str}
use Rattle.pldm_device.specs.declared.description_fault.FileFault.{FileFault}
use Rattle.pldm_device.specs.declared.description_fault.FileFault.TheVariants.{MissingKey, WrongKind, OutOfRange}

-- the second step where the first gave a value, else the first one's fault
infixl 10 ◌>>=◌
abbrev pub ◌>>=◌ : {A B : Type 0} → Result A FileFault → (A → Result B FileFault) → Result B FileFault
Ok x >>= next = next x
Err fault >>= next = Err fault

-- the result with `f` of its value
abbrev pub map_ok : {A B : Type 0} → (A → B) → Result A FileFault → Result B FileFault
map_ok f (Ok x) = Ok (f x)
map_ok f (Err fault) = Err fault

abbrev pub value_at : List ℕ → Members → Result Data FileFault
value_at key document = ok_or (get_member key document) MissingKey

-- a truth value at a key that may be missing, and is false then
abbrev pub flag_if_there : Option Data → Result Bool FileFault
flag_if_there None = Ok false
flag_if_there (Some value) = ok_or (as_bool value) WrongKind

abbrev pub flag_at : List ℕ → Members → Result Bool FileFault
flag_at key document = flag_if_there (get_member key document)

-- an integer from low to high
abbrev pub number_in : ℕ → ℕ → Data → Result ℕ FileFault
number_in low high (integer (pos n)) = if nat_le low n && nat_le n high then Ok n else Err OutOfRange
number_in low high (integer (negsuc n)) = Err OutOfRange
number_in low high _ = Err WrongKind

-- an array, a table or a text; another type is WrongKind

abbrev pub array_in : Data → Result Items FileFault
array_in value = ok_or (as_array value) WrongKind

abbrev pub table_in : Data → Result Members FileFault
table_in value = ok_or (as_table value) WrongKind

abbrev pub text_in : Data → Result (List ℕ) FileFault
text_in value = ok_or (as_str value) WrongKind

abbrev pub number_at : List ℕ → ℕ → ℕ → Members → Result ℕ FileFault
number_at key low high document = value_at key document >>= number_in low high
