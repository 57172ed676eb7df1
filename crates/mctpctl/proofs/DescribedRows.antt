-- The rows of what was found at a place, by what the list of described ones has there.
use Rattle.std.proofs.Common.{◌≡◌, ◌<◌, ℕ, List, Option, None, Some, option_map, length, map, get_or, ◌∙◌, ap, sym, subst, refl}
use Rattle.std.proofs.lemmas.List.{length-map}
use Rattle.std.proofs.lemmas.Option.{slice_get-map, slice_get_read}
use Rattle.std.specs.Prelude.{slice_get}
use Rattle.mctpctl.specs.WalkedTexts.{described_at, rows_heard}
use Rattle.mctpctl_table.specs.Rows.{Described, rows_by}
use Rattle.pldm_discovery.specs.Walks.{Walking}
use Rattle.pldm_discovery.specs.declared.discovered.Discovered.{Discovered}

is_within : (w : Walking) (place : ℕ) (all : List (Option Described))
    → all ≡ map (described_at w) w.found → place < length w.found → place < length all
is_within w place all same within =
    subst (λ n. place < n) (sym (ap (λ (l : List (Option Described)). length l) same ∙ length-map w.found (described_at w))) within

at_place : (w : Walking) (place : ℕ) (all : List (Option Described)) (here : Option Described)
    → all ≡ map (described_at w) w.found → place < length all → here ≡ get_or all place here
    → option_map (described_at w) (slice_get w.found place) ≡ Some here
at_place w place all here same within is =
    sym (slice_get-map (described_at w) w.found place)
    ∙ subst (λ (l : List (Option Described)). slice_get l place ≡ Some here) same
    (slice_get_read all (length all) place here refl within is)

same_described : (a b : Option Described) → ◌≡◌ {A = Option (Option Described)} (Some a) (Some b) → a ≡ b
same_described a b e = cc

of_found : (w : Walking) (found : Option Discovered) (here : Option Described) (message : Option (List ℕ))
    → option_map (described_at w) found ≡ Some here → rows_by here message ≡ rows_heard w found message
of_found w None here message is = absurd (cc)
of_found w (Some found) here message is = ap (λ d. rows_by d message) (sym (same_described (described_at w found) here is))

pub heard_at : (w : Walking) (place : ℕ) (all : List (Option Described)) (here : Option Described) (message : Option (List ℕ))
    → all ≡ map (described_at w) w.found → place < length w.found → here ≡ get_or all place here
    → rows_by here message ≡ rows_heard w (slice_get w.found place) message
heard_at w place all here message same within is =
    of_found w (slice_get w.found place) here message (at_place w place all here same (is_within w place all same within) is)
