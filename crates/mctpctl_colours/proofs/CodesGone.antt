-- A line's own bytes stay where its codes are taken away.
use Rattle.std.proofs.Common.{◌≡◌, ◌≢◌, refl, ap, ◌∙◌, ℕ, ◌==◌, false, List, [], ◌∷◌, ◌++◌, append-nil, rules}
use Rattle.std.proofs.lemmas.Bool.Decides.{nat_tests}
use Rattle.std.proofs.lemmas.List.Elements.{All-head, All-tail}
use Rattle.mctpctl_colours.specs.Laws.{ColoursAddNothing}
use Rattle.mctpctl_colours.specs.Painted.{HasNoEscape, reset, without_codes}
use Rattle.mctpctl_colours.specs.declared.paint.Colour.TheVariants.{Plain, Changed, Dropped}

stay : (line codes : List ℕ) → HasNoEscape line → without_codes false (line ++ codes) ≡ line ++ without_codes false codes
stay [] codes none = refl
stay (byte ∷ bytes) codes none =
    let differs : byte ≢ 27 = All-head (λ b. b ≢ 27) byte bytes none in
    let test : (byte == 27) ≡ false = search (rules, nat_tests, differs) in
    rw test (ap (λ rest. byte ∷ rest) (stay bytes codes (All-tail (λ b. b ≢ 27) byte bytes none)))

pub colours_add_nothing : ColoursAddNothing
colours_add_nothing Plain line none = stay line [] none ∙ append-nil line
colours_add_nothing Changed line none = stay line (reset Changed) none ∙ append-nil line
colours_add_nothing Dropped line none = stay line (reset Dropped) none ∙ append-nil line
