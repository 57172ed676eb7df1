-- What is open at each destination, after an assembler was put where there was none.
use Rattle.std.specs.FinMap as map
use Rattle.std.proofs.Common.{◌≡◌, ℕ, ◌==◌, Bool, true, false, cond, List, Some, None, unwrap_or, refl, sym, ap, ◌∙◌, eqb-true}
use Rattle.std.specs.BTreeMap.{is_at}
use Rattle.std.specs.Cmp.{unsigned_tied}
use Rattle.std.specs.Map.{lookup}
use Rattle.std.specs.Ordering.{nat_cmp}
use Rattle.mctp_assembly.specs.Steps.{OpenMessages, after}
use Rattle.mctp_packet.specs.Packets.{Packet}
use Rattle.mctpctl_engines.specs.ObservedRuns.{open_in, open_after}

put_by : (t : Bool) (es : List (ℕ × OpenMessages)) (p : Packet) (destination q : ℕ) (v : OpenMessages) → (destination == q) ≡ t → lookup (is_at (nat_cmp destination)) es ≡ None
    → v ≡ after map.empty p → unwrap_or (cond t (Some v) (lookup (is_at (nat_cmp q)) es)) map.empty ≡ cond t (after (open_in es q) p) (open_in es q)
put_by true es p destination q v same none is =
    is ∙ ap (λ o. after (unwrap_or o map.empty) p) (sym none) ∙ ap (λ d. after (open_in es d) p) (eqb-true destination q same)
put_by false es p destination q v same none is = refl

pub open_put : (es gs fs : List (ℕ × OpenMessages)) (p : Packet) (destination : ℕ) (v : OpenMessages) → gs ≡ es → destination ≡ p.route.destination → lookup (is_at (nat_cmp destination)) es ≡ None
    → v ≡ after map.empty p → ((q : ℕ) → lookup (is_at (nat_cmp q)) fs ≡ cond (is_at (nat_cmp destination) q) (Some v) (lookup (is_at (nat_cmp q)) gs))
    → open_in fs ≡ open_after (open_in es) p
open_put es gs fs p destination v same goes none is put =
    λ i q.
    (ap (λ o. unwrap_or o map.empty) (put q ∙ ap (λ t. cond t (Some v) (lookup (is_at (nat_cmp q)) gs)) (unsigned_tied destination q) ∙ ap (λ l. cond (destination == q) (Some v) (lookup (is_at (nat_cmp q)) l)) same)
    ∙ put_by (destination == q) es p destination q v refl none is
    ∙ ap (λ d. cond (d == q) (after (open_in es q) p) (open_in es q)) goes) i
