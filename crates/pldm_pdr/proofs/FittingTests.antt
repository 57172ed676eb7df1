-- Numbers fit a data size where the test says so.
use Rattle.std.proofs.Common.{◌≡◌, ℤ, Bool, true, false, ◌&&◌, List, [], ◌∷◌, T, refl}
use Rattle.pldm_wire.specs.Sizes.{Fits, fits}
use Rattle.pldm_wire.specs.declared.size.Size.{Size}
use Rattle.pldm_pdr.specs.Fields.{all_fit}

true_from : (b : Bool) → T b → b ≡ true
true_from true h = refl
true_from false h = absurd h

from_true : (b : Bool) → b ≡ true → T b
from_true true h = tt
from_true false h = absurd cc

pub join_and : (a b : Bool) → a ≡ true → b ≡ true → (a && b) ≡ true
join_and a b p q = rw (p, q) refl

pub split_and : (a b : Bool) → (a && b) ≡ true → (a ≡ true) × (b ≡ true)
split_and true b h = (refl, h)
split_and false b h = absurd cc

pub fits_true : (size : Size) (value : ℤ) → Fits size value → fits size value ≡ true
fits_true size value h = join_and _ _ (true_from _ h.0.le) (true_from _ h.1.le)

pub true_fits : (size : Size) (value : ℤ) → fits size value ≡ true → Fits size value
true_fits size value h =
    let both = split_and _ _ h in
    (record { le = from_true _ both.0 }, record { le = from_true _ both.1 })

-- each of these numbers fits
abbrev pub EachFits : Size → List ℤ → Type 0
EachFits size [] = Unit {0}
EachFits size (value ∷ values) = Fits size value × EachFits size values

pub all_fits : (size : Size) (values : List ℤ) → EachFits size values → all_fit size values ≡ true
all_fits size [] h = refl
all_fits size (value ∷ values) h = join_and _ _ (fits_true size value h.0) (all_fits size values h.1)

pub each_fits : (size : Size) (values : List ℤ) → all_fit size values ≡ true → EachFits size values
each_fits size [] h = tt
each_fits size (value ∷ values) h =
    let both = split_and (fits size value) (all_fit size values) h in
    (true_fits size value both.0, each_fits size values both.1)
