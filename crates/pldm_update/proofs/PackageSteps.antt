-- Steps of reading a package: what is read was taken from the front, and what is written is read again.
use Rattle.std.proofs.Common.{◌≡◌, ℕ, zero, suc, ◌+◌, ◌*◌, ◌^◌, ◌/◌, ◌%◌, ◌<◌, ◌≤◌, Bool, true, false, not, ltb, List, [], ◌∷◌, ◌++◌, length, slice_index, take, drop, Result, Ok, Err, refl, sym, ap, subst, ◌∙◌, append_assoc, arith, ltb-false}
use Rattle.std.proofs.Math.Nat.{div-div-eq-div-mul, pow-succ'}
use Rattle.std.proofs.lemmas.Bool.{le-ltb}
use Rattle.std.proofs.lemmas.List.{get_or-drop, take-append-drop, take_at, drop_at, length-take, length-append}
use Rattle.std.specs.Int.{byte_at as byte_of_number, bytes_low_first}
use Rattle.std.specs.List.{flat_map}
use Rattle.byteorder.specs.Endian.{little_number, little_bytes}
use Rattle.byteorder.specs.Numbers.{little_from-cons, little_from-lt, little_number-reads_back, length-bytes_low_first}
use Rattle.pldm_update.specs.declared.package_fault.PackageFault.{PackageFault}
use Rattle.pldm_update.specs.PackageFields.{and_then, refused, Field, byte, byte_at, number_at, list_at, many_at}
use Rattle.pldm_update.specs.Packages.{Each}

abbrev pub IsBytes : List ℕ → Type 0
IsBytes bytes = (i : ℕ) → slice_index bytes i < 256

bytes_dropped : (n : ℕ) (bytes : List ℕ) → IsBytes bytes → IsBytes (drop n bytes)
bytes_dropped n bytes h i = rw get_or-drop (h (n + i))

bytes_after : (b : ℕ) (bytes : List ℕ) → IsBytes (b ∷ bytes) → IsBytes bytes
bytes_after b bytes h i = h (suc i)

-- a step that did not fail: its value has what is said of each that it could have
pub stepped : {A B : Type 0} {r : Result A PackageFault} {f : A → Result B PackageFault} {y : B} {Q : A → Type 0} {P : Type 0} → and_then r f ≡ Ok y → ((x : A) → r ≡ Ok x → Q x) → ((x : A) → Q x → f x ≡ Ok y → P) → P
unfolding and_then
stepped {r = Ok x} e said next = next x (said x refl) e
stepped {r = Err fault} e said next = absurd cc

-- a step that gives a value goes on with it
pub goes_on : {A B : Type 0} {r : Result A PackageFault} {x : A} {z : Result B PackageFault} (f : A → Result B PackageFault) → r ≡ Ok x → f x ≡ z → and_then r f ≡ z
unfolding and_then
goes_on f e next = ap (λ r. and_then r f) e ∙ next

-- a refusal that did not come
pub went_by : {A P : Type 0} {test : Bool} (fault : PackageFault) {z : Result A PackageFault} {y : A} → refused test fault z ≡ Ok y → (test ≡ false → z ≡ Ok y → P) → P
unfolding refused
went_by {test = true} fault e next = absurd cc
went_by {test = false} fault e next = next refl e

pub goes_by : {A : Type 0} {test : Bool} (fault : PackageFault) {z y : Result A PackageFault} → test ≡ false → z ≡ y → refused test fault z ≡ y
unfolding refused
goes_by {test = true} fault h e = absurd cc
goes_by {test = false} fault h e = e

pub not_false : (b : Bool) → not b ≡ false → b ≡ true
not_false true h = refl
not_false false h = absurd cc

abbrev done : {A : Type 0} → A → Result A PackageFault
done x = Ok x

pub ok_is : {A : Type 0} {x y : A} → done x ≡ done y → x ≡ y
ok_is e = cc

-- what was taken from the front of bytes
pub record Takes (bytes text rest : List ℕ) : Type 0 where
  pub parts : bytes ≡ text ++ rest
  pub small : IsBytes rest

pub with_next : {a x b y c : List ℕ} → Takes a x b → Takes b y c → Takes a (x ++ y) c
with_next {x = x} {y = y} {c = c} p q =
    record { parts = p.parts ∙ ap (λ (t : List ℕ). x ++ t) q.parts ∙ sym (append_assoc x y c); small = q.small }

-- numbers: what is read of bytes is written as them

higher_part : (i b y : ℕ) → b < 256 → (b + 256 * y) / 256 ^ suc i ≡ y / 256 ^ i
higher_part i b y h =
    let shifted : (b + 256 * y) / 256 ≡ y = omega arith in
    ap (λ (p : ℕ). (b + 256 * y) / p) (pow-succ' 256 i) ∙ sym (div-div-eq-div-mul (b + 256 * y) 256 (256 ^ i)) ∙ ap (λ (q : ℕ). q / 256 ^ i) shifted

higher_byte : (i b y : ℕ) → b < 256 → byte_of_number (suc i) (b + 256 * y) ≡ byte_of_number i y
higher_byte zero b y h = omega arith
higher_byte (suc i) b y h = ap (λ (q : ℕ). q % 256) (higher_part (suc i) b y h)

higher_bytes : (n i b y : ℕ) → b < 256 → bytes_low_first (suc i) n (b + 256 * y) ≡ bytes_low_first i n y
higher_bytes zero i b y h = refl
higher_bytes (suc n) i b y h = rw (higher_byte i b y h, higher_bytes n (suc i) b y h) refl

pub written_again : (n : ℕ) (bytes : List ℕ) → IsBytes bytes → n ≤ length bytes → little_bytes n (little_number n bytes) ≡ take n bytes
written_again zero bytes small long = refl
written_again (suc n) [] small long = absurd (omega arith)
written_again (suc n) (b ∷ bytes) small long =
    let byte = small 0 in
    let rest = written_again n bytes (bytes_after b bytes small) (omega arith) in
    let low : (b + 256 * little_number n bytes) % 256 ≡ b = omega arith in
    rw (little_from-cons 0 n b bytes, low, higher_bytes n 0 b (little_number n bytes) byte, rest) refl

-- each field that is read was taken from the front of the bytes, and is in its range; each is read again

pub byte_taken : (bytes : List ℕ) → IsBytes bytes → (x : ℕ × List ℕ) → byte_at bytes ≡ Ok x → Takes bytes (byte x.0) x.1 × (x.0 < 256)
unfolding byte_at
byte_taken [] small x e = absurd cc
byte_taken (b ∷ rest) small x e =
    subst (λ (y : ℕ × List ℕ). Takes (b ∷ rest) (byte y.0) y.1 × (y.0 < 256)) (ok_is e) (record { parts = refl; small = bytes_after b rest small }, small 0)

pub byte_again : (b : ℕ) (rest : List ℕ) → byte_at (byte b ++ rest) ≡ Ok (b, rest)
unfolding byte_at
byte_again b rest = refl

pub number_taken : (n : ℕ) (bytes : List ℕ) → IsBytes bytes → (x : ℕ × List ℕ) → number_at n bytes ≡ Ok x → Takes bytes (little_bytes n x.0) x.1 × (x.0 < 256 ^ n)
unfolding number_at
number_taken n bytes small x e =
    went_by _ e (λ t e1.
    let enough : n ≤ length bytes = ltb-false _ _ t in
    let whole : Takes bytes (little_bytes n (little_number n bytes)) (drop n bytes) = record {
      parts = rw (written_again n bytes small enough) (sym (take-append-drop n bytes));
      small = bytes_dropped n bytes small;
    } in
    subst (λ (y : ℕ × List ℕ). Takes bytes (little_bytes n y.0) y.1 × (y.0 < 256 ^ n)) (ok_is e1) (whole, little_from-lt 0 n bytes small))

pub number_again : (n x : ℕ) (rest : List ℕ) → x < 256 ^ n → number_at n (little_bytes n x ++ rest) ≡ Ok (x, rest)
unfolding number_at
number_again n x rest below =
    let count = length-bytes_low_first 0 n x in
    let long : ltb (length (little_bytes n x ++ rest)) n ≡ false = le-ltb _ _ (omega (arith, length-append (little_bytes n x) rest)) in
    goes_by _ long (rw (little_number-reads_back n x rest below, drop_at (little_bytes n x) rest n count) refl)

pub list_taken : (n : ℕ) (bytes : List ℕ) → IsBytes bytes → (x : List ℕ × List ℕ) → list_at n bytes ≡ Ok x → Takes bytes x.0 x.1 × (length x.0 ≡ n)
unfolding list_at
list_taken n bytes small x e =
    went_by _ e (λ t e1.
    let enough : n ≤ length bytes = ltb-false _ _ t in
    let front : Takes bytes (take n bytes) (drop n bytes) = record { parts = sym (take-append-drop n bytes); small = bytes_dropped n bytes small } in
    let count : length (take n bytes) ≡ n = omega (arith, length-take n bytes) in
    subst (λ (y : List ℕ × List ℕ). Takes bytes y.0 y.1 × (length y.0 ≡ n)) (ok_is e1) (front, count))

pub list_again : (n : ℕ) (text rest : List ℕ) → length text ≡ n → list_at n (text ++ rest) ≡ Ok (text, rest)
unfolding list_at
list_again n text rest count =
    let long : ltb (length (text ++ rest)) n ≡ false = le-ltb _ _ (omega (arith, length-append text rest)) in
    goes_by _ long (rw (take_at text rest n count, drop_at text rest n count) refl)

-- items one after another, where each is taken, and is read again

abbrev pub IsTaken : {A : Type 0} → (List ℕ → Field A) → (A → List ℕ) → (A → Type 0) → Type 0
IsTaken {A = A} item_at write P = (bytes : List ℕ) → IsBytes bytes → (x : A × List ℕ) → item_at bytes ≡ Ok x → Takes bytes (write x.0) x.1 × P x.0

abbrev pub IsAgain : {A : Type 0} → (List ℕ → Field A) → (A → List ℕ) → (A → Type 0) → Type 0
IsAgain {A = A} item_at write P = (a : A) (rest : List ℕ) → P a → item_at (write a ++ rest) ≡ Ok (a, rest)

pub record AreItems {A : Type 0} (P : A → Type 0) (items : List A) (count : ℕ) : Type 0 where
  pub counted : length items ≡ count
  pub each : Each P items

pub many_taken : {A : Type 0} (item_at : List ℕ → Field A) (write : A → List ℕ) (P : A → Type 0) → IsTaken item_at write P → (count : ℕ) (bytes : List ℕ) → IsBytes bytes → (x : List A × List ℕ) → many_at item_at count bytes ≡ Ok x
    → Takes bytes (flat_map write x.0) x.1 × AreItems P x.0 count
unfolding many_at
many_taken {A = A} item_at write P taken zero bytes small x e =
    subst (λ (y : List A × List ℕ). Takes bytes (flat_map write y.0) y.1 × AreItems P y.0 0) (ok_is e) (record { parts = refl; small = small }, record { counted = refl; each = tt })
many_taken {A = A} item_at write P taken (suc count) bytes small x e =
    stepped e (taken bytes small) (λ first t1 e1.
    stepped e1 (many_taken item_at write P taken count first.1 t1.0.small) (λ others t2 e2.
    subst (λ (y : List A × List ℕ). Takes bytes (flat_map write y.0) y.1 × AreItems P y.0 (suc count)) (ok_is e2)
    (with_next t1.0 t2.0, record { counted = ap suc t2.1.counted; each = (t1.1, t2.1.each) })))

pub many_again : {A : Type 0} (item_at : List ℕ → Field A) (write : A → List ℕ) (P : A → Type 0) → IsAgain item_at write P → (items : List A) (rest : List ℕ) → Each P items
    → many_at item_at (length items) (flat_map write items ++ rest) ≡ Ok (items, rest)
unfolding many_at
many_again item_at write P again [] rest all = refl
many_again item_at write P again (a ∷ items) rest all =
    ap (many_at item_at (suc (length items))) (append_assoc (write a) (flat_map write items) rest)
    ∙ goes_on _ (again a _ all.0) (goes_on _ (many_again item_at write P again items rest all.1) refl)
