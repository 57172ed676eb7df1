-- Things that are read and written one after the other, as a loop passes them.
use Rattle.std.proofs.Common.{◌≡◌, ℕ, suc, ◌-◌, ◌+◌, ◌≤◌, ◌<◌, List, ◌++◌, flat_map, ◌∙◌, append_assoc, append-nil, sym, arith}
use Rattle.mctpctl_decode.specs.NameTexts.{each_of, after_each}

-- one more is written, and the text of those that are left is as before
pub one_written : {A : Type 0} (text : A → List ℕ) (one : List ℕ → A) (after : List ℕ → List ℕ) (count i : ℕ) (bytes rest old new whole : List ℕ)
    → i < count → rest ≡ after bytes → new ≡ old ++ text (one bytes)
    → old ++ flat_map text (each_of one after (count - i) bytes) ≡ whole
    → new ++ flat_map text (each_of one after (count - (i + 1)) rest) ≡ whole
one_written text one after count i bytes rest old new whole lt is_rest is_new before =
    let k : count - i ≡ suc (count - (i + 1)) = omega arith in
    rw (is_rest, is_new) (append_assoc old (text (one bytes)) (flat_map text (each_of one after (count - (i + 1)) (after bytes))) ∙ (rw k at before))

pub one_passed : (after : List ℕ → List ℕ) (count i : ℕ) (bytes rest last : List ℕ)
    → i < count → rest ≡ after bytes → after_each after (count - i) bytes ≡ last
    → after_each after (count - (i + 1)) rest ≡ last
one_passed after count i bytes rest last lt is_rest before =
    let k : count - i ≡ suc (count - (i + 1)) = omega arith in
    rw is_rest (rw k at before)

-- none is left
pub all_written : {A : Type 0} (text : A → List ℕ) (one : List ℕ → A) (after : List ℕ → List ℕ) (count i : ℕ) (bytes new whole : List ℕ)
    → count ≤ i → new ++ flat_map text (each_of one after (count - i) bytes) ≡ whole → new ≡ whole
all_written text one after count i bytes new whole le before =
    let k : count - i ≡ 0 = omega arith in
    sym (append-nil new) ∙ (rw k at before)

pub all_passed : (after : List ℕ → List ℕ) (count i : ℕ) (bytes last : List ℕ)
    → count ≤ i → after_each after (count - i) bytes ≡ last → bytes ≡ last
all_passed after count i bytes last le before =
    let k : count - i ≡ 0 = omega arith in
    rw k at before
