-- Fields that were added one after another.
use Rattle.std.proofs.Common.{ℕ, List, ◌++◌, ap, ◌∙◌, append_assoc}
use Rattle.pldm_pdr.specs.Fields.{Adds}

-- what was added after what was added
pub followed : {o a b x y : List ℕ} → Adds o a x → Adds a b y → Adds o b (x ++ y)
followed {o = o} {x = x} {y = y} before next =
    record { is = next.is ∙ ap (λ (items : List ℕ). items ++ y) before.is ∙ append_assoc o x y }
