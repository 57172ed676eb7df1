-- The tests of which record is for a device say what they mean.
use Rattle.std.proofs.Common.{◌≡◌, ◌==◌, Bool, true, false, ◌&&◌, ◌||◌, List, [], ◌∷◌, ◌⊎◌, inl, inr, refl, ap, eqb-true}
use Rattle.std.proofs.lemmas.Bool.{eq-eqb}
use Rattle.std.proofs.lemmas.Slice.Eq.{bytes_eq-Decides}
use Rattle.std.specs.Bool.{Decides}
use Rattle.std.specs.List.{list_all}
use Rattle.pldm_update.specs.Applying.{is_same, is_among, applies_to, IsAmong, Applies}
use Rattle.pldm_update.specs.Packages.{Descriptor, Device, Each}

both : {P Q : Type 0} (a b : Bool) → Decides a P → Decides b Q → Decides (a && b) (P × Q)
both true true p q = (λ _. (p.0 refl, q.0 refl), λ _. refl)
both true false p q = (λ e. absurd cc, λ h. q.1 h.1)
both false b p q = (λ e. absurd cc, λ h. p.1 h.0)

either_back : {P Q : Type 0} (b : Bool) → (P → false ≡ true) → (Q → b ≡ true) → P ⊎ Q → b ≡ true
either_back b p q (inl x) = let e = p x in absurd cc
either_back b p q (inr y) = q y

either : {P Q : Type 0} (a b : Bool) → Decides a P → Decides b Q → Decides (a || b) (P ⊎ Q)
either true b p q = (λ _. inl (p.0 refl), λ _. refl)
either false b p q = (λ e. inr (q.0 e), either_back b p.1 q.1)

same : (d own : Descriptor) → Decides (is_same d own) (d ≡ own)
same d own =
    let parts = both (d.kind == own.kind) _ (eqb-true d.kind own.kind, eq-eqb d.kind own.kind) (bytes_eq-Decides d.content own.content) in
    (λ e i. record { kind = (parts.0 e).0 i; content = (parts.0 e).1 i }, λ e. parts.1 (ap (λ (x : Descriptor). x.kind) e, ap (λ (x : Descriptor). x.content) e))

among : (identifiers : List Descriptor) (d : Descriptor) → Decides (is_among identifiers d) (IsAmong identifiers d)
among [] d = (λ e. absurd cc, λ h. absurd h)
among (own ∷ others) d = either (is_same d own) (is_among others d) (same d own) (among others d)

all_among : (identifiers descriptors : List Descriptor) → Decides (list_all (is_among identifiers) descriptors) (Each (IsAmong identifiers) descriptors)
all_among identifiers [] = (λ _. tt, λ _. refl)
all_among identifiers (d ∷ descriptors) = both (is_among identifiers d) _ (among identifiers d) (all_among identifiers descriptors)

pub records_apply : (identifiers : List Descriptor) (device : Device) → Decides (applies_to identifiers device) (Applies identifiers device)
records_apply identifiers device = all_among identifiers device.descriptors
