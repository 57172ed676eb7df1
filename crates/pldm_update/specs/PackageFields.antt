-- A field of a package's header that is read is a value and the bytes after it; or the first fault (DSP0267, "Firmware
-- update package header").
use Rattle.std.specs.Prelude.{◌≡◌, ℕ, zero, suc, nat_lt, Bool, true, false, List, [], ◌∷◌, length, take, drop}
use Rattle.std.specs.Prelude.{Result, Ok, Err}
use Rattle.byteorder.specs.Endian.{little_number}
use Rattle.pldm_update.specs.declared.package_fault.PackageFault.{PackageFault}
use Rattle.pldm_update.specs.declared.package_fault.PackageFault.TheVariants.{Length}

-- the value goes on to what is read after it; a fault ends it
unfoldable pub and_then : {A B : Type 0} → Result A PackageFault → (A → Result B PackageFault) → Result B PackageFault
and_then (Ok x) f = f x
and_then (Err fault) f = Err fault

infixl 10 ◌>>=◌
abbrev pub ◌>>=◌ : {A B : Type 0} → Result A PackageFault → (A → Result B PackageFault) → Result B PackageFault
r >>= f = and_then r f

-- a fault where the test says so
unfoldable pub refused : {A : Type 0} → Bool → PackageFault → Result A PackageFault → Result A PackageFault
refused true fault r = Err fault
refused false fault r = r

-- a field that is read with the bytes after it
abbrev pub Field : Type 0 → Type 0
Field A = Result (A × List ℕ) PackageFault

-- what a function returned, seen by view, is what reading gives
abbrev pub Gives : {X Y : Type 0} → (X → Y) → Result X PackageFault → Result Y PackageFault → Type 0
Gives view (Ok x) read = read ≡ Ok (view x)
Gives view (Err fault) read = read ≡ Err fault

-- one byte
abbrev pub byte : ℕ → List ℕ
byte b = b ∷ []

unfoldable pub byte_at : List ℕ → Field ℕ
byte_at [] = Err Length
byte_at (b ∷ rest) = Ok (b, rest)

-- an unsigned number of so many bytes, lowest first
unfoldable pub number_at : ℕ → List ℕ → Field ℕ
number_at count bytes = refused (nat_lt (length bytes) count) Length (Ok (little_number count bytes, drop count bytes))

-- so many bytes
unfoldable pub list_at : ℕ → List ℕ → Field (List ℕ)
list_at count bytes = refused (nat_lt (length bytes) count) Length (Ok (take count bytes, drop count bytes))

-- so many items, one after another
unfoldable pub many_at : {A : Type 0} → (List ℕ → Field A) → ℕ → List ℕ → Field (List A)
many_at item_at zero bytes = Ok ([], bytes)
many_at item_at (suc count) bytes = do
  first ← item_at bytes
  others ← many_at item_at count first.1
  Ok (first.0 ∷ others.0, others.1)

-- the items alone; none, where reading them failed
unfoldable pub items_of : {A : Type 0} → Field (List A) → List A
items_of (Ok read) = read.0
items_of (Err fault) = []

-- what is left after a field
unfoldable pub rest_of : {A : Type 0} → Field A → Result (List ℕ) PackageFault
rest_of (Ok read) = Ok read.1
rest_of (Err fault) = Err fault
