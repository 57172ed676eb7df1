-- Lists of numbers in a description: of another type than numbers before out of range.
use Rattle.std.specs.Prelude.{ℕ, ◌+◌, nat_le, Bool, true, ◌&&◌, List, [], ◌∷◌, ◌++◌}
use Rattle.std.specs.Prelude.{Result, Ok, Err, is_some, is_ok, if◌then◌else◌}
use Rattle.toml.specs.Data.{Data, as_integer, Items, no_items, item}
use Rattle.pldm_wire.specs.declared.limits.TheConstants.{MAX_STATES}
use Rattle.pldm_device.specs.declared.description_fault.FileFault.{FileFault}
use Rattle.pldm_device.specs.declared.description_fault.FileFault.TheVariants.{WrongKind, OutOfRange}
use Rattle.pldm_device.specs.KeyValues.{◌>>=◌, number_in, array_in}

abbrev pub count : Items → ℕ
count no_items = 0
count (item value rest) = count rest + 1

abbrev pub are_integers : Items → Bool
are_integers no_items = true
are_integers (item value rest) = is_some (as_integer value) && are_integers rest

-- the items of an array of integers
abbrev pub integers_in : Data → Result Items FileFault
integers_in value = array_in value >>= λ items. if are_integers items then Ok items else Err WrongKind

-- the numbers before, and those of the items after them, each from 0 to high
abbrev pub numbers_after : ℕ → List ℕ → Items → Result (List ℕ) FileFault
numbers_after high before no_items = Ok before
numbers_after high before (item value rest) =
    number_in 0 high value >>= λ number. numbers_after high (before ++ number ∷ []) rest

-- so many numbers at most
abbrev pub numbers_upto : ℕ → ℕ → Items → Result (List ℕ) FileFault
numbers_upto most high items = if nat_le (count items) most then numbers_after high [] items else Err OutOfRange

-- an array of at most eight numbers, each from 0 to high
abbrev pub few_numbers : ℕ → Data → Result (List ℕ) FileFault
few_numbers high value = integers_in value >>= numbers_upto MAX_STATES high

-- a list with something in it
abbrev pub composite_of : {A : Type 0} → List A → Result (List A) FileFault
composite_of [] = Err OutOfRange
composite_of (first ∷ rest) = Ok (first ∷ rest)

abbrev pub are_number_lists : Items → Bool
are_number_lists no_items = true
are_number_lists (item value rest) = is_ok (integers_in value) && are_number_lists rest

-- the items, all of which have to be arrays of integers
abbrev pub number_lists_of : Items → Result Items FileFault
number_lists_of items = if are_number_lists items then Ok items else Err WrongKind

-- the items of an array of arrays of integers
abbrev pub number_lists_in : Data → Result Items FileFault
number_lists_in value = array_in value >>= number_lists_of

-- as many items as a composite sensor or effecter has fields at most
abbrev pub not_too_many_fields : Items → Result Items FileFault
not_too_many_fields items = if nat_le (count items) MAX_STATES then Ok items else Err OutOfRange

abbrev pub few_lists : Data → Result Items FileFault
few_lists value = number_lists_in value >>= not_too_many_fields
