-- A text in colours, and the same without them.
use Rattle.std.specs.Prelude.{◌≢◌, ℕ, ◌==◌, Bool, true, false, not, if◌then◌else◌, List, [], ◌∷◌, ◌++◌, All}
use Rattle.mctpctl_colours.specs.declared.paint.Colour.{Colour}
use Rattle.mctpctl_colours.specs.declared.paint.Colour.TheVariants.{Plain, Changed, Dropped}

-- ESC, `[`, and a number up to `m`: ECMA-48, "Select graphic rendition"
abbrev pub code_of : Colour → List ℕ
code_of Plain = []
code_of Changed = 27 ∷ 91 ∷ 51 ∷ 51 ∷ 109 ∷ []
code_of Dropped = 27 ∷ 91 ∷ 51 ∷ 49 ∷ 109 ∷ []

abbrev pub reset : Colour → List ℕ
reset Plain = []
reset Changed = 27 ∷ 91 ∷ 48 ∷ 109 ∷ []
reset Dropped = 27 ∷ 91 ∷ 48 ∷ 109 ∷ []

-- a line in a colour
abbrev pub painted : Colour → List ℕ → List ℕ
painted colour line = code_of colour ++ (line ++ reset colour)

-- a text without its codes, within a code or not: each goes from an ESC to the next `m`
abbrev pub without_codes : Bool → List ℕ → List ℕ
without_codes within [] = []
without_codes true (byte ∷ bytes) = without_codes (not (byte == 109)) bytes
without_codes false (byte ∷ bytes) =
    if byte == 27 then without_codes true bytes else byte ∷ without_codes false bytes

abbrev pub uncoloured : List ℕ → List ℕ
uncoloured text = without_codes false text

-- no byte of it is an ESC
abbrev pub HasNoEscape : List ℕ → Type 0
HasNoEscape text = All (λ byte. byte ≢ 27) text
