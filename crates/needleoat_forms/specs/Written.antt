-- What a call that writes bytes to the front of a room leaves there.
use Rattle.std.specs.Prelude.{◌≡◌, ℕ, List, ◌++◌, length, drop, Option, Some, None}

-- the bytes are in front, the rest of the room is as before, and their count is returned
abbrev pub HasFront : List ℕ → ℕ → List ℕ → List ℕ → Type 0
HasFront bytes count old new = (count ≡ length bytes) × (new ≡ bytes ++ drop (length bytes) old)

-- nothing was written
abbrev pub IsUntouched : ℕ → List ℕ → List ℕ → Type 0
IsUntouched count old new = (count ≡ 0) × (new ≡ old)

-- the bytes are in front where there are any to write; else nothing was written
abbrev pub IsWritten : Option (List ℕ) → ℕ → List ℕ → List ℕ → Type 0
IsWritten (Some bytes) count old new = HasFront bytes count old new
IsWritten None count old new = IsUntouched count old new
