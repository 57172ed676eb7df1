-- Sets of possible states: what is read was taken, and is read again.
use Rattle.std.proofs.Common.{◌≡◌, ℕ, zero, suc, ◌≤◌, ltb, not, nat_le, true, false, ◌&&◌, List, [], ◌∷◌, ◌++◌, length, take, drop, Ok, refl, sym, ap, subst, ◌∙◌, append_assoc, arith, ltb-false}
use Rattle.std.proofs.lemmas.Bool.{le-ltb}
use Rattle.std.proofs.lemmas.List.{take-append-drop, take_at, drop_at, length-take, length-append}
use Rattle.byteorder.specs.Endian.{little_bytes}
use Rattle.pldm_wire.specs.Numbers.{IsU16}
use Rattle.pldm_wire.specs.States.{is_composite}
use Rattle.pldm_wire.specs.declared.limits.TheConstants.{MAX_STATES}
use Rattle.pldm_pdr.specs.declared.possible_states.PossibleStates.{PossibleStates}
use Rattle.pldm_pdr.specs.Fields.{byte, list_at}
use Rattle.pldm_pdr.specs.StateSets.{is_states_size, possible_states_bytes, possible_states_fit, possible_states_at, sets_bytes, each_fits, AreInRange, sets_at, composite_bytes, IsComposite, composite_at}
use Rattle.pldm_pdr.proofs.Steps.{IsBytes, bytes_dropped, stepped, goes_on, went_by, goes_by, not_false, ok_is, Takes, with_next}
use Rattle.pldm_pdr.proofs.FieldsTaken.{byte_taken, number_taken}
use Rattle.pldm_pdr.proofs.FieldsAgain.{byte_again, number_again}
use Rattle.pldm_pdr.proofs.FittingTests.{join_and, split_and}
use Rattle.pldm_pdr.proofs.Regrouped.{regroup_3}

pub list_taken : (n : ℕ) (bytes : List ℕ) → IsBytes bytes → (x : List ℕ × List ℕ) → list_at n bytes ≡ Ok x → Takes bytes x.0 x.1 × (length x.0 ≡ n)
unfolding list_at
list_taken n bytes small x e =
    went_by _ e (λ t e1.
    let enough : n ≤ length bytes = ltb-false _ _ t in
    let front : Takes bytes (take n bytes) (drop n bytes) = record { parts = sym (take-append-drop n bytes); small = bytes_dropped n bytes small } in
    let count : length (take n bytes) ≡ n = omega (arith, length-take n bytes) in
    subst (λ (y : List ℕ × List ℕ). Takes bytes y.0 y.1 × (length y.0 ≡ n)) (ok_is e1) (front, count))

pub list_again : (text rest : List ℕ) → list_at (length text) (text ++ rest) ≡ Ok (text, rest)
unfolding list_at
list_again text rest =
    let long : ltb (length (text ++ rest)) (length text) ≡ false = le-ltb _ _ (omega (arith, length-append text rest)) in
    goes_by _ long (rw (take_at text rest (length text) refl, drop_at text rest (length text) refl) refl)

-- what is said of a set that was read
abbrev IsSet : PossibleStates → Type 0
IsSet states = IsU16 states.state_set × (possible_states_fit states ≡ true)

possible_states_taken : (bytes : List ℕ) → IsBytes bytes → (x : PossibleStates × List ℕ) → possible_states_at bytes ≡ Ok x → Takes bytes (possible_states_bytes x.0) x.1 × IsSet x.0
unfolding possible_states_at
possible_states_taken bytes small x e =
    stepped e (number_taken 2 bytes small) (λ f1 t1 e1.
    stepped e1 (byte_taken f1.1 t1.0.small) (λ f2 t2 e2.
    went_by _ e2 (λ fits e3.
    stepped e3 (list_taken f2.0 f2.1 t2.0.small) (λ f3 t3 e4.
    let counted : Takes f1.1 (byte (length f3.0)) f2.1 = subst (λ (n : ℕ). Takes f1.1 (byte n) f2.1) (sym t3.1) t2.0 in
    let right : is_states_size (length f3.0) ≡ true = subst (λ (n : ℕ). is_states_size n ≡ true) (sym t3.1) (not_false _ fits) in
    subst (λ (y : PossibleStates × List ℕ). Takes bytes (possible_states_bytes y.0) y.1 × IsSet y.0) (ok_is e4) (with_next (with_next t1.0 counted) t3.0, (t1.1, right))))))

possible_states_again : (states : PossibleStates) (rest : List ℕ) → IsSet states → possible_states_at (possible_states_bytes states ++ rest) ≡ Ok (states, rest)
unfolding possible_states_at
possible_states_again states rest ok =
    let bits = states.bits.items in
    ap possible_states_at (regroup_3 (little_bytes 2 states.state_set) (byte (length bits)) bits rest)
    ∙ goes_on _ (number_again 2 states.state_set _ ok.0) (goes_on _ (byte_again (length bits) _) (goes_by _ (ap not ok.1) (goes_on _ (list_again bits _) refl)))

record AreSets (sets : List PossibleStates) (n : ℕ) : Type 0 where
  pub count : length sets ≡ n
  pub range : AreInRange sets
  pub fit : each_fits sets ≡ true

sets_taken : (count : ℕ) (bytes : List ℕ) → IsBytes bytes → (x : List PossibleStates × List ℕ) → sets_at count bytes ≡ Ok x → Takes bytes (sets_bytes x.0) x.1 × AreSets x.0 count
unfolding sets_at
sets_taken zero bytes small x e =
    subst (λ (y : List PossibleStates × List ℕ). Takes bytes (sets_bytes y.0) y.1 × AreSets y.0 0) (ok_is e) (record { parts = refl; small = small }, record { count = refl; range = tt; fit = refl })
sets_taken (suc count) bytes small x e =
    stepped e (possible_states_taken bytes small) (λ first t1 e1.
    stepped e1 (sets_taken count first.1 t1.0.small) (λ others t2 e2.
    subst (λ (y : List PossibleStates × List ℕ). Takes bytes (sets_bytes y.0) y.1 × AreSets y.0 (suc count)) (ok_is e2)
    (with_next t1.0 t2.0, record { count = ap suc t2.1.count; range = (t1.1.0, t2.1.range); fit = join_and _ _ t1.1.1 t2.1.fit })))

sets_again : (sets : List PossibleStates) (rest : List ℕ) → AreInRange sets → each_fits sets ≡ true → sets_at (length sets) (sets_bytes sets ++ rest) ≡ Ok (sets, rest)
unfolding sets_at
sets_again [] rest range fit = refl
sets_again (states ∷ sets) rest range fit =
    let both = split_and (possible_states_fit states) (each_fits sets) fit in
    ap (sets_at (suc (length sets))) (append_assoc (possible_states_bytes states) (sets_bytes sets) rest)
    ∙ goes_on _ (possible_states_again states _ (range.0, both.0)) (goes_on _ (sets_again sets rest range.1 both.1) refl)

pub composite_taken : (bytes : List ℕ) → IsBytes bytes → (x : List PossibleStates × List ℕ) → composite_at bytes ≡ Ok x → Takes bytes (composite_bytes x.0) x.1 × IsComposite x.0
unfolding composite_at
composite_taken bytes small x e =
    stepped e (byte_taken bytes small) (λ f1 t1 e1.
    went_by _ e1 (λ fits e2.
    let t2 = sets_taken f1.0 f1.1 t1.0.small x e2 in
    let counted : Takes bytes (byte (length x.0)) f1.1 = subst (λ (n : ℕ). Takes bytes (byte n) f1.1) (sym t2.1.count) t1.0 in
    let right : is_composite x.0 ≡ true = subst (λ (n : ℕ). (nat_le 1 n && nat_le n MAX_STATES) ≡ true) (sym t2.1.count) (not_false _ fits) in
    (with_next counted t2.0, (t2.1.range, join_and _ _ right t2.1.fit))))

pub composite_again : (sets : List PossibleStates) (rest : List ℕ) → IsComposite sets → composite_at (composite_bytes sets ++ rest) ≡ Ok (sets, rest)
unfolding composite_at
composite_again sets rest ok =
    let both = split_and (is_composite sets) (each_fits sets) ok.1 in
    goes_on _ (byte_again (length sets) _) (goes_by _ (ap not both.0) (sets_again sets rest ok.0 both.1))
