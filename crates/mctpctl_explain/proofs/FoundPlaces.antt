-- The place of a path that was found.
use Rattle.std.proofs.Common.{◌≡◌, ℕ, List, ◌++◌, codes, inr, ap, ◌∙◌}
use Rattle.mctpctl_explain.specs.TextPlaces.{IsFront, IsLineOf, place_bytes}
use Rattle.mctpctl_explain.specs.declared.place.Place.{Place}

pub front_is : (text front words : List ℕ) (place : Place) → IsLineOf text place.line → words ≡ place_bytes place → front ≡ words ++ codes ": " → IsFront text front
front_is text front words place line e f = inr (place, line, f ∙ ap (λ w. w ++ codes ": ") e)
