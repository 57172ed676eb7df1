-- Steps of a reading, taken apart and put together.
use Rattle.std.proofs.Common.{◌≡◌, ℕ, ◌≤◌, Bool, true, false, List, [], ◌∷◌, Option, None, Some, Result, Ok, Err, refl, sym, ap, ◌∙◌, arith}
use Rattle.std.specs.Prelude.{nat_lt, if◌then◌else◌}
use Rattle.std.proofs.lemmas.Bool.{cond-true, cond-false, ltb-false, le-ltb}
use Rattle.std.proofs.lemmas.Slice.Eq.{bytes_eq-Decides}
use Rattle.line_words.specs.Numbers.{number_of}
use Rattle.mctp_packet.specs.declared.TheConstants.{MIN_EID, MAX_EID}
use Rattle.schedule_text.specs.CommandWords.{is, only_word}
use Rattle.schedule_text.specs.LineSpelling.{SpellsEid}
use Rattle.schedule_text.specs.WordValues.{◌>>=◌, eid_in, from_first, or_number}
use Rattle.schedule_text.specs.declared.line_fault.LineFaultKind.{LineFaultKind}

-- a step after another one
pub bind_parts : {A B : Type 0} (read : Result A LineFaultKind) (next : A → Result B LineFaultKind) (b : B) → (read >>= next) ≡ Ok b → (a : A) × (read ≡ Ok a) × (next a ≡ Ok b)
bind_parts (Ok a) next b e = (a, refl, e)
bind_parts (Err kind) next b e = absurd (let wrong : Err kind ≡ Ok b = e in cc)

pub bind_ok : {A B : Type 0} (read : Result A LineFaultKind) (next : A → Result B LineFaultKind) (a : A) (b : B) → read ≡ Ok a → next a ≡ Ok b → (read >>= next) ≡ Ok b
bind_ok read next a b e f = ap (λ r. r >>= next) e ∙ f

pub number_parts : {A : Type 0} (o : Option A) (a : A) → or_number o ≡ Ok a → o ≡ Some a
number_parts None a e = absurd (let wrong : or_number None ≡ Ok a = e in cc)
number_parts (Some b) a e = let same : Ok b ≡ Ok a = e in cc

-- a fixed word
pub is_parts : (word spelling : List ℕ) → is word spelling ≡ true → word ≡ spelling
is_parts word spelling e = (bytes_eq-Decides word spelling).0 e

-- the branch of a name, or a later one
pub by_name : {A P : Type 0} (name spelling : List ℕ) (x y : Result A LineFaultKind) (a : A) → (if is name spelling then x else y) ≡ Ok a → (name ≡ spelling → x ≡ Ok a → P) → (y ≡ Ok a → P) → P
by_name {A} {P} name spelling x y a e here later = go (is name spelling) refl
  where
    go : (b : Bool) → is name spelling ≡ b → P
    go true t = here (is_parts name spelling t) (sym (cond-true (is name spelling) x y t) ∙ e)
    go false t = later (sym (cond-false (is name spelling) x y t) ∙ e)

-- one word
pub only_parts : (words : List (List ℕ)) (word : List ℕ) → only_word words ≡ Ok word → words ≡ word ∷ []
only_parts [] word e = absurd (let wrong : only_word [] ≡ Ok word = e in cc)
only_parts (first ∷ []) word e = let same : Ok first ≡ Ok word = e in cc
only_parts (first ∷ next ∷ words) word e = absurd (let wrong : only_word (first ∷ next ∷ words) ≡ Ok word = e in cc)

-- an endpoint ID
pub eid_parts : (word : List ℕ) (eid : ℕ) → eid_in word ≡ Ok eid → SpellsEid eid word
eid_parts word eid e = go (number_of MAX_EID word) (number_parts (from_first (number_of MAX_EID word)) eid e)
  where
    go : (o : Option ℕ) → from_first o ≡ Some eid → (o ≡ Some eid) × (MIN_EID ≤ eid)
    go None f = absurd (let wrong : from_first None ≡ Some eid = f in cc)
    go (Some number) f = test (nat_lt number MIN_EID) refl f
      where
        test : (b : Bool) → nat_lt number MIN_EID ≡ b → (if b then None else Some number) ≡ Some eid → (Some number ≡ Some eid) × (MIN_EID ≤ eid)
        test true t f = absurd (let wrong : None ≡ Some eid = f in cc)
        test false t f = let same : number ≡ eid = (let g : Some number ≡ Some eid = f in cc) in let enough = ltb-false number MIN_EID t in (f, omega arith)

pub eid_ok : (word : List ℕ) (eid : ℕ) → SpellsEid eid word → eid_in word ≡ Ok eid
eid_ok word eid spelled =
    ap (λ o. or_number (from_first o)) spelled.0
    ∙ ap or_number (cond-false (nat_lt eid MIN_EID) None (Some eid) (le-ltb eid MIN_EID spelled.1))
