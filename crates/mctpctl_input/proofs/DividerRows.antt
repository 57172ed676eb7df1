-- What the definitions of the divider say of inputs that are written out.
use Rattle.std.proofs.Common.{◌≡◌, ℕ, List, [], ◌∷◌, ◌++◌, codes, None, Some, refl}
use Rattle.line_words.specs.TextLines.{lines_of}
use Rattle.mctpctl_input.specs.TextLines.{capture_lines, description_of}

-- `a`, `%%`, `0` and `%%`, with line feeds between
with_two : List ℕ
with_two = codes "a" ++ 10 ∷ (codes "%%" ++ 10 ∷ (codes "0" ++ 10 ∷ codes "%%"))

-- the first divider divides, and the second is a line of the capture
first_divides : capture_lines (lines_of with_two) ≡ Some (codes "0" ∷ codes "%%" ∷ [])
unfolding with_two
first_divides = refl

described : description_of (lines_of with_two) ≡ codes "a" ++ 10 ∷ []
unfolding with_two
described = refl

-- a carriage return may end the divider, and the divider may end the input
at_the_end : capture_lines (lines_of (codes "%%" ++ 13 ∷ [])) ≡ Some []
at_the_end = refl

-- a line feed after it begins an empty line
empty_capture : capture_lines (lines_of (codes "%%" ++ 10 ∷ [])) ≡ Some ([] ∷ [])
empty_capture = refl

-- spaces, more signs and a second carriage return are no divider, and without one all is description
no_divider : capture_lines (lines_of (codes " %%" ++ 10 ∷ (codes "%%%" ++ 10 ∷ (codes "%%" ++ 13 ∷ 13 ∷ [])))) ≡ None
no_divider = refl

all_described : description_of (lines_of (codes "a" ++ 10 ∷ codes "b")) ≡ codes "a" ++ 10 ∷ codes "b"
all_described = refl
