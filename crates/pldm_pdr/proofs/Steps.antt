-- Steps of reading: what is read and taken from the front, and what is read again.
use Rattle.std.proofs.Common.{take, inl, inr, arith, not, ◌≡◌, ℕ, suc, ◌<◌, ◌+◌, Bool, true, false, List, ◌∷◌, ◌++◌, slice_index, drop, Result, Ok, Err, if◌then◌else◌, refl, ap, ◌∙◌, sym, append_assoc}
use Rattle.std.proofs.lemmas.List.{get_or-drop, get_or-take, get_or_past, length-take}
use Rattle.std.proofs.lemmas.Bool.{cases_lt}
use Rattle.pldm_pdr.specs.declared.fault.RecordFault.{RecordFault}
use Rattle.pldm_pdr.specs.Fields.{and_then, refused}

abbrev pub IsBytes : List ℕ → Type 0
IsBytes bytes = (i : ℕ) → slice_index bytes i < 256

pub bytes_dropped : (n : ℕ) (bytes : List ℕ) → IsBytes bytes → IsBytes (drop n bytes)
bytes_dropped n bytes h i = rw get_or-drop (h (n + i))

pub bytes_after : (b : ℕ) (bytes : List ℕ) → IsBytes (b ∷ bytes) → IsBytes bytes
bytes_after b bytes h i = h (suc i)

pub bytes_first : (n : ℕ) (bytes : List ℕ) → IsBytes bytes → IsBytes (take n bytes)
bytes_first n bytes h i =
    elim (cases_lt i n) [
      | inl lt ↦ rw (get_or-take n bytes i 0 lt) (h i)
      | inr le ↦ rw (get_or_past (take n bytes) i 0 (omega (arith, length-take n bytes))) (omega arith)
    ]

-- a step that did not fail: its value has what is said of each that it could have
pub stepped : {A B : Type 0} {r : Result A RecordFault} {f : A → Result B RecordFault} {y : B} {Q : A → Type 0} {P : Type 0} → and_then r f ≡ Ok y → ((x : A) → r ≡ Ok x → Q x) → ((x : A) → Q x → f x ≡ Ok y → P) → P
unfolding and_then
stepped {r = Ok x} e said next = next x (said x refl) e
stepped {r = Err fault} e said next = absurd cc

-- a step that gives a value goes on with it
pub goes_on : {A B : Type 0} {r : Result A RecordFault} {x : A} {z : Result B RecordFault} (f : A → Result B RecordFault) → r ≡ Ok x → f x ≡ z → and_then r f ≡ z
unfolding and_then
goes_on f e next = ap (λ r. and_then r f) e ∙ next

-- a refusal that did not come
pub went_by : {A P : Type 0} {test : Bool} (fault : RecordFault) {z : Result A RecordFault} {y : A} → refused test fault z ≡ Ok y → (test ≡ false → z ≡ Ok y → P) → P
unfolding refused
went_by {test = true} fault e next = absurd cc
went_by {test = false} fault e next = next refl e

pub goes_by : {A : Type 0} {test : Bool} (fault : RecordFault) {z y : Result A RecordFault} → test ≡ false → z ≡ y → refused test fault z ≡ y
unfolding refused
goes_by {test = true} fault h e = absurd cc
goes_by {test = false} fault h e = e

pub not_false : (b : Bool) → not b ≡ false → b ≡ true
not_false true h = refl
not_false false h = absurd cc

-- one of two choices by a test
pub chosen : {A P : Type 0} (test : Bool) (a b z : A) → (if test then a else b) ≡ z → (test ≡ true → a ≡ z → P) → (test ≡ false → b ≡ z → P) → P
chosen true a b z e passing failing = passing refl e
chosen false a b z e passing failing = failing refl e

-- a choice by a test that did not fail
pub passed : {A : Type 0} (b : Bool) (fault : RecordFault) (x y : A) → (if b then Err fault else Ok x) ≡ Ok y → (b ≡ false) × (x ≡ y)
passed true fault x y e = absurd cc
passed false fault x y e = (refl, cc)

pub allowed : {A : Type 0} (b : Bool) (fault : RecordFault) (x y : A) → (if b then Ok x else Err fault) ≡ Ok y → (b ≡ true) × (x ≡ y)
allowed false fault x y e = absurd cc
allowed true fault x y e = (refl, cc)

abbrev done : {A : Type 0} → A → Result A RecordFault
done x = Ok x

pub ok_is : {A : Type 0} {x y : A} → done x ≡ done y → x ≡ y
ok_is e = cc

-- what was taken from the front of bytes
pub record Takes (bytes text rest : List ℕ) : Type 0 where
  pub parts : bytes ≡ text ++ rest
  pub small : IsBytes rest

pub with_next : {a x b y c : List ℕ} → Takes a x b → Takes b y c → Takes a (x ++ y) c
with_next {x = x} {y = y} {c = c} p q =
    record { parts = p.parts ∙ ap (λ (t : List ℕ). x ++ t) q.parts ∙ sym (append_assoc x y c); small = q.small }
