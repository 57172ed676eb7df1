-- What is known has passed.
use Rattle.std.proofs.Common.{◌≡◌, ℕ, ◌≤◌, Option, None, Some, IfSome, unwrap_or, arith}

pub has_passed : (o : Option ℕ) (now last : ℕ) → last ≡ unwrap_or o now → last ≤ now → IfSome o (λ m. m ≤ now)
has_passed None now last e h = tt
has_passed (Some m) now last e h = omega (arith, h, e)
