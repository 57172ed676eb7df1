-- What colours leave as it is.
use Rattle.std.specs.Prelude.{◌≡◌, ℕ, List}
use Rattle.mctpctl_colours.specs.Painted.{HasNoEscape, painted, uncoloured}
use Rattle.mctpctl_colours.specs.declared.paint.Colour.{Colour}

-- without its codes a line in a colour is the line
abbrev pub ColoursAddNothing : Type 0
ColoursAddNothing = (colour : Colour) (line : List ℕ) → HasNoEscape line → uncoloured (painted colour line) ≡ line
