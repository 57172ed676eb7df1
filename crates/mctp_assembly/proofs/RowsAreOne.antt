-- SOM is on the first packet of a row alone, so no two counts of last packets are both rows.
use Rattle.std.proofs.Common.{◌≡◌, ℕ, zero, suc, Bool, true, false, not, ◌&&◌, ◌==◌, List, [], ◌∷◌, take, refl, ap}
use Rattle.std.proofs.lemmas.Bool.{and_parts}
use Rattle.mctp_packet.specs.Packets.{Packet}
use Rattle.mctp_assembly.specs.Rows.{unit_of, follows, is_middle, is_row}
use Rattle.mctp_assembly.specs.Laws.{OneRow}

pub started : (p : Packet) → (p.start && not p.end) ≡ true → p.start ≡ true
started p h = (and_parts p.start (not p.end) h).0

pub opposite : (b : Bool) → not b ≡ true → b ≡ false
opposite true h = cc
opposite false h = refl

both : (p : Packet) → (p.start && not p.end) ≡ true → p.start ≡ false → ⊥
both p g h = cc (started p g)

pub not_started : (p q : Packet) → is_middle p q ≡ true → p.start ≡ false
not_started p q h =
    let a = (and_parts (not p.start && not p.end && follows p q.seq) (unit_of p == unit_of q) h).0 in
    let b = (and_parts (not p.start && not p.end) (follows p q.seq) a).0 in
    opposite p.start (and_parts (not p.start) (not p.end) b).0

behind : (p : Packet) (ps : List Packet) (m n : ℕ) → is_row (p ∷ take m ps) ≡ true → is_row (p ∷ take n ps) ≡ true → take m ps ≡ take n ps
behind p [] zero zero g h = refl
behind p [] zero (suc n) g h = refl
behind p [] (suc m) zero g h = refl
behind p [] (suc m) (suc n) g h = refl
behind p (q ∷ qs) zero zero g h = refl
behind p (q ∷ qs) zero (suc n) g h = absurd (both p g (not_started p q (and_parts (is_middle p q) (is_row (q ∷ take n qs)) h).0))
behind p (q ∷ qs) (suc m) zero g h = absurd (both p h (not_started p q (and_parts (is_middle p q) (is_row (q ∷ take m qs)) g).0))
behind p (q ∷ qs) (suc m) (suc n) g h =
    ap (λ rest. q ∷ rest) (behind q qs m n (and_parts (is_middle p q) (is_row (q ∷ take m qs)) g).1 (and_parts (is_middle p q) (is_row (q ∷ take n qs)) h).1)

pub one_row : OneRow
one_row [] zero n g h = cc
one_row [] (suc m) n g h = cc
one_row (p ∷ ps) zero n g h = cc
one_row (p ∷ ps) (suc m) zero g h = cc
one_row (p ∷ ps) (suc m) (suc n) g h = ap (λ rest. p ∷ rest) (behind p ps m n g h)
