-- A list of checks names no reason exactly where none of them fails.
use Rattle.std.proofs.Common.{◌≡◌, Bool, true, false, List, [], ◌∷◌, None, refl}
use Rattle.mctp_packet.specs.Refusals.{first_failing}
use Rattle.mctp_packet.specs.declared.reason.Reason.{Reason}

-- no check of the list fails
abbrev pub AllPass : List (Bool × Reason) → Type 0
AllPass [] = Unit {0}
AllPass ((fails, reason) ∷ checks) = (fails ≡ false) × AllPass checks

pub all_pass : (checks : List (Bool × Reason)) → first_failing checks ≡ None → AllPass checks
all_pass [] h = tt
all_pass ((false, reason) ∷ checks) h = (refl, all_pass checks h)
all_pass ((true, reason) ∷ checks) h = cc

pub none_fails : (checks : List (Bool × Reason)) → AllPass checks → first_failing checks ≡ None
none_fails [] h = refl
none_fails ((fails, reason) ∷ checks) h = rw h.0 (none_fails checks h.1)
