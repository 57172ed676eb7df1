-- The next type is among those that are left.
use Rattle.std.proofs.Common.{◌≡◌, ℕ, zero, suc, ◌+◌, ◌<◌, ◌≤◌, Bool, true, false, ◌&&◌, nat_le, if◌then◌else◌, List, Some, refl, subst, arith, leb-true}
use Rattle.std.specs.List.{find, range_with_len}
use Rattle.pldm_discovery.specs.Types.{has_type, next_type}
use Rattle.pldm_discovery.specs.declared.limits.TheConstants.{MAX_TYPES}

-- what is found in a range passes the test, and is in the range
found_within : (p : ℕ → Bool) (a n x : ℕ) → find p (range_with_len a n) ≡ Some x → (p x ≡ true) × (x < a + n)
found_within p a zero x e = cc
found_within p a (suc n) x e = by (p a) refl (found_within p (a + 1) n x) e where
  by : (b : Bool) → p a ≡ b → (find p (range_with_len (a + 1) n) ≡ Some x → (p x ≡ true) × (x < a + 1 + n))
      → (if b then Some a else find p (range_with_len (a + 1) n)) ≡ Some x → (p x ≡ true) × (x < a + suc n)
  by true t rest e = let is : a ≡ x = cc in (subst (λ y. p y ≡ true) is t, omega arith)
  by false t rest e = let found = rest e in (found.0, omega (arith, found.1))

least_by : (least x : ℕ) (b c : Bool) → nat_le least x ≡ b → (b && c) ≡ true → least ≤ x
least_by least x true c t e = leb-true _ _ t
least_by least x false c t e = cc

pub next_within : (types : List ℕ) (least x : ℕ) → next_type types least ≡ Some x → (least ≤ x) × (x < MAX_TYPES)
unfolding next_type
next_within types least x e =
    let within = found_within (λ t. nat_le least t && has_type types t) 0 MAX_TYPES x e in
    (least_by least x _ _ refl within.0, omega (arith, within.1))
