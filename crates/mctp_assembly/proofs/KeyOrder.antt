-- The order of keys is total, and distinguishes all keys.
use Rattle.std.proofs.Common.{ℕ, Bool, true, false, refl, ap}
use Rattle.std.specs.FinMap.{IsAntisymmetric}
use Rattle.std.specs.Ordering.{nat_cmp, bool_cmp, ordering_then}
use Rattle.std.specs.Cmp.{IsTotalOrder, nat_cmp_total, bool_cmp_total}
use Rattle.std.proofs.lemmas.Cmp.{on_total, then_total}
use Rattle.std.proofs.lemmas.Map.Lookups.{exact_unsigned, exact_pairs}
use Rattle.mctp_assembly.specs.Keys.{key_cmp}
use Rattle.mctp_assembly.specs.declared.key.Key.{Key}

exact_bool : IsAntisymmetric bool_cmp
exact_bool false false e = refl
exact_bool false true e = cc
exact_bool true false e = cc
exact_bool true true e = refl

key_from : ℕ × (ℕ × Bool) → Key
key_from p = record { source = p.0; tag = p.1.0; owner = p.1.1 }

pub keys_exact : IsAntisymmetric key_cmp
unfolding key_from
keys_exact a b h =
    ap key_from (exact_pairs nat_cmp (λ x y. ordering_then (nat_cmp x.0 y.0) (bool_cmp x.1 y.1)) exact_unsigned (exact_pairs nat_cmp bool_cmp exact_unsigned exact_bool) (a.source, (a.tag, a.owner)) (b.source, (b.tag, b.owner)) h)

pub keys_total : IsTotalOrder key_cmp
keys_total =
    then_total (on_total (λ k. k.source) nat_cmp_total) (then_total (on_total (λ k. k.tag) nat_cmp_total) (on_total (λ k. k.owner) bool_cmp_total))
