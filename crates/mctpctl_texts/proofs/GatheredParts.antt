-- A text that is gathered part by part.
use Rattle.std.proofs.Common.{◌≡◌, ℕ, List, [], ◌++◌, Option, None, Some, Result, Ok, Err, OnOk, refl, sym, ap, subst, ◌∙◌, append_assoc, append-nil}
use Rattle.std.specs.Io.KnownBytes.{Appends, append_known}
use Rattle.std.proofs.KnownBytes.{Appends-trans}

-- a page that grows has more text
pub grown : (known : Option (List ℕ)) (gathered more : List ℕ) → Appends (append_known known gathered) (append_known known (gathered ++ more)) more
grown None gathered more = tt
grown (Some taken) gathered more = sym (append_assoc taken gathered more)

pub grown_to : (known : Option (List ℕ)) (gathered more new : List ℕ) → new ≡ gathered ++ more → Appends (append_known known gathered) (append_known known new) more
grown_to known gathered more new is = subst (λ n. Appends (append_known known gathered) (append_known known n) more) (sym is) (grown known gathered more)

-- room that was made adds no text
pub after_room : (a b c : Option (List ℕ)) (more : List ℕ) → Appends a b [] → Appends b c more → Appends a c more
after_room a b c more room added = Appends-trans a b c [] more room added

-- with an empty page the text is what the writer has taken
pub nothing_gathered : (known : Option (List ℕ)) → append_known known [] ≡ known
nothing_gathered None = refl
nothing_gathered (Some taken) = ap Some (append-nil taken)

-- what a page has at its end is written
pub and_flushed : {E : Type 0} (result : Result Unit E) (a b c : Option (List ℕ)) (first gathered text : List ℕ)
    → first ≡ [] → Appends (append_known a first) (append_known b gathered) text → OnOk result (Appends b c gathered) → OnOk result (Appends a c text)
and_flushed (Err fault) a b c first gathered text none in_all written = tt
and_flushed (Ok done) None b c first gathered text none in_all written = tt
and_flushed (Ok done) (Some x) None c first gathered text none in_all written = absurd in_all
and_flushed (Ok done) (Some x) (Some y) None first gathered text none in_all written = absurd written
and_flushed (Ok done) (Some x) (Some y) (Some z) first gathered text none in_all written =
    written ∙ in_all ∙ ap (λ f. (x ++ f) ++ text) none ∙ ap (λ f. f ++ text) (append-nil x)
