-- The hex digits of each byte.
use Rattle.std.specs.Prelude.{◌≡◌, ◌<◌, ℕ, List, [], ◌∷◌, slice_get, Some}
use Rattle.hex.specs.Hex.{encode_lower}

-- at the place of each byte stand its two digits
unfoldable pub HoldsPairs : List (List ℕ) → Type 0
HoldsPairs pairs = (byte : ℕ) → byte < 256 → slice_get pairs byte ≡ Some (encode_lower (byte ∷ []))
