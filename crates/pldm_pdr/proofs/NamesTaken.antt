-- Auxiliary names: the bytes up to where they end are spelled as names, and what names are spelled as ends there.
use Rattle.std.proofs.Common.{◌≡◌, ℕ, zero, suc, ◌+◌, ◌-◌, ◌*◌, ◌/◌, ◌%◌, ◌<◌, ◌≤◌, ◌==◌, nat_lt, nat_le, true, false, ◌&&◌, List, [], ◌∷◌, ◌++◌, length, take, drop, Result, Ok, Err, if◌then◌else◌, refl, sym, ap, subst, ◌∙◌, append_assoc, arith, eqb-true, ltb-true, ltb-false}
use Rattle.std.proofs.lemmas.Bool.{lt-ltb, le-ltb, ne_eqb, eqb-false, le-leb, leb-true}
use Rattle.std.proofs.lemmas.List.{append-nil, nil_from_length, length-append, take_at, drop_at}
use Rattle.pldm_pdr.specs.declared.limits.TheConstants.{MAX_NAME_BYTES}
use Rattle.pldm_pdr.specs.declared.fault.RecordFault.{RecordFault}
use Rattle.pldm_pdr.specs.declared.fault.RecordFault.TheVariants.{Tag}
use Rattle.pldm_pdr.specs.Fields.{byte}
use Rattle.pldm_pdr.specs.Names.{Name, tag_bytes, text_bytes, name_bytes, each_name_bytes, names_bytes, each_names_bytes, all_names_bytes, IsTag, IsText, EachIsName, AreNames, EachAreNames, AreAllNames, tag_end, text_end, name_end, each_name_end, names_end, each_names_end, all_names_end, text_to, is_all}
use Rattle.pldm_pdr.proofs.Steps.{IsBytes, bytes_after, bytes_first, chosen, stepped, goes_on, went_by, goes_by, ok_is, Takes, with_next}
use Rattle.pldm_pdr.proofs.FieldsTaken.{byte_taken}
use Rattle.pldm_pdr.proofs.FieldsAgain.{byte_again}
use Rattle.pldm_pdr.proofs.FittingTests.{join_and, split_and}

-- the bytes up to the rest are spelled as something of a kind
pub record Spelled {A : Type 0} (spell : A → List ℕ) (Is : A → Type 0) (bytes rest : List ℕ) : Type 0 where
  pub value : A
  pub takes : Takes bytes (spell value) rest
  pub is : Is value

-- a byte in front of what was taken
in_front : (b : ℕ) (bytes text rest : List ℕ) → Takes bytes text rest → Takes (b ∷ bytes) (b ∷ text) rest
in_front b bytes text rest t = record { parts = ap (λ (x : List ℕ). b ∷ x) t.parts; small = t.small }

tag_taken : (bytes : List ℕ) → IsBytes bytes → (rest : List ℕ) → tag_end bytes ≡ Ok rest → Spelled tag_bytes IsTag bytes rest
unfolding tag_end
tag_taken [] small rest e = absurd cc
tag_taken (b ∷ bytes) small rest e =
    chosen (b == 0) (Ok bytes) (if nat_lt b 128 then tag_end bytes else Err Tag) (Ok rest) e
    (λ t e1.
    let zero_is : b ≡ 0 = eqb-true b 0 t in
    let front : Takes (b ∷ bytes) (0 ∷ []) bytes = record { parts = ap (λ (v : ℕ). v ∷ bytes) zero_is; small = bytes_after b bytes small } in
    record { value = []; takes = subst (Takes (b ∷ bytes) (0 ∷ [])) (ok_is e1) front; is = tt })
    (λ t e1. chosen (nat_lt b 128) (tag_end bytes) (Err Tag) (Ok rest) e1
    (λ ascii e2.
    let tag = tag_taken bytes (bytes_after b bytes small) rest e2 in
    let some = eqb-false b 0 t in
    let low : b < 128 = ltb-true b 128 ascii in
    record { value = b ∷ tag.value; takes = in_front b bytes (tag_bytes tag.value) rest tag.takes; is = (omega arith, low, tag.is) })
    (λ _ e2. absurd cc))

tag_again : (tag rest : List ℕ) → IsTag tag → tag_end (tag_bytes tag ++ rest) ≡ Ok rest
unfolding tag_end
tag_again [] rest ok = refl
tag_again (b ∷ tag) rest ok =
    let no_zero : (b == 0) ≡ false = ne_eqb b 0 (omega arith) in
    let ascii : nat_lt b 128 ≡ true = lt-ltb b 128 ok.1 in
    rw (no_zero, ascii) (tag_again tag rest ok.2)

some_unit : (high low : ℕ) → ((high == 0) && (low == 0)) ≡ false → 0 < 256 * high + low
some_unit zero zero t = absurd cc
some_unit zero (suc low) t = omega arith
some_unit (suc high) low t = omega arith

text_taken : (bytes : List ℕ) → IsBytes bytes → (rest : List ℕ) → text_end bytes ≡ Ok rest → Spelled text_bytes IsText bytes rest
unfolding text_end
text_taken [] small rest e = absurd cc
text_taken (b ∷ []) small rest e = absurd cc
text_taken (high ∷ low ∷ bytes) small rest e =
    let high_small : high < 256 = small 0 in
    let low_small : low < 256 = small 1 in
    let rest_small = bytes_after low bytes (bytes_after high (low ∷ bytes) small) in
    chosen ((high == 0) && (low == 0)) (Ok bytes) (text_end bytes) (Ok rest) e
    (λ t e1.
    let both = split_and (high == 0) (low == 0) t in
    let front : Takes (high ∷ low ∷ bytes) (0 ∷ 0 ∷ []) bytes = record { parts = rw (eqb-true high 0 both.0, eqb-true low 0 both.1) refl; small = rest_small } in
    record { value = []; takes = subst (Takes (high ∷ low ∷ bytes) (0 ∷ 0 ∷ [])) (ok_is e1) front; is = tt })
    (λ t e1.
    let text = text_taken bytes rest_small rest e1 in
    let some = some_unit high low t in
    let high_is : (256 * high + low) / 256 ≡ high = omega arith in
    let low_is : (256 * high + low) % 256 ≡ low = omega arith in
    let both = in_front high (low ∷ bytes) (low ∷ text_bytes text.value) rest (in_front low bytes (text_bytes text.value) rest text.takes) in
    record {
      value = (256 * high + low) ∷ text.value;
      takes = rw (high_is, low_is) both;
      is = (some, omega arith, text.is);
    })

no_end : (high low : ℕ) → 0 < 256 * high + low → ((high == 0) && (low == 0)) ≡ false
no_end zero zero h = absurd (omega arith)
no_end zero (suc low) h = ne_eqb (suc low) 0 (omega arith)
no_end (suc high) low h = rw (ne_eqb (suc high) 0 (omega arith)) refl

text_again : (units rest : List ℕ) → IsText units → text_end (text_bytes units ++ rest) ≡ Ok rest
unfolding text_end
text_again [] rest ok = refl
text_again (unit ∷ units) rest ok =
    rw (no_end (unit / 256) (unit % 256) (omega arith)) (text_again units rest ok.2)

-- a name's parts are in their ranges
abbrev IsName : Name → Type 0
IsName name = IsTag name.tag × IsText name.units

name_taken : (bytes : List ℕ) → IsBytes bytes → (rest : List ℕ) → name_end bytes ≡ Ok rest → Spelled name_bytes IsName bytes rest
unfolding name_end
name_taken bytes small rest e =
    stepped e (tag_taken bytes small) (λ middle tag e1.
    let text = text_taken middle tag.takes.small rest e1 in
    record { value = record { tag = tag.value; units = text.value }; takes = with_next tag.takes text.takes; is = (tag.is, text.is) })

name_again : (name : Name) (rest : List ℕ) → IsName name → name_end (name_bytes name ++ rest) ≡ Ok rest
unfolding name_end
name_again name rest ok =
    ap name_end (append_assoc (tag_bytes name.tag) (text_bytes name.units) rest)
    ∙ goes_on _ (tag_again name.tag _ ok.0) (text_again name.units rest ok.1)

each_name_taken : (count : ℕ) (bytes : List ℕ) → IsBytes bytes → (rest : List ℕ) → each_name_end count bytes ≡ Ok rest
    → Spelled each_name_bytes (λ names. (length names ≡ count) × EachIsName names) bytes rest
unfolding each_name_end
each_name_taken zero bytes small rest e =
    record { value = []; takes = subst (Takes bytes []) (ok_is e) (record { parts = refl; small = small }); is = (refl, tt) }
each_name_taken (suc count) bytes small rest e =
    stepped e (name_taken bytes small) (λ middle first e1.
    let others = each_name_taken count middle first.takes.small rest e1 in
    record { value = first.value ∷ others.value; takes = with_next first.takes others.takes; is = (ap suc others.is.0, (first.is.0, first.is.1, others.is.1)) })

each_name_again : (names : List Name) (rest : List ℕ) → EachIsName names → each_name_end (length names) (each_name_bytes names ++ rest) ≡ Ok rest
unfolding each_name_end
each_name_again [] rest ok = refl
each_name_again (name ∷ names) rest ok =
    ap (each_name_end (suc (length names))) (append_assoc (name_bytes name) (each_name_bytes names) rest)
    ∙ goes_on _ (name_again name _ (ok.0, ok.1)) (each_name_again names rest ok.2)

pub names_taken : (bytes : List ℕ) → IsBytes bytes → (rest : List ℕ) → names_end bytes ≡ Ok rest → Spelled names_bytes AreNames bytes rest
unfolding names_end
names_taken bytes small rest e =
    stepped e (byte_taken bytes small) (λ f1 t1 e1.
    let each = each_name_taken f1.0 f1.1 t1.0.small rest e1 in
    let counted : Takes bytes (byte (length each.value)) f1.1 = subst (λ (n : ℕ). Takes bytes (byte n) f1.1) (sym each.is.0) t1.0 in
    record { value = each.value; takes = with_next counted each.takes; is = (omega (arith, t1.1, each.is.0), each.is.1) })

pub names_again : (names : List Name) (rest : List ℕ) → AreNames names → names_end (names_bytes names ++ rest) ≡ Ok rest
unfolding names_end
names_again names rest ok = goes_on _ (byte_again (length names) _) (each_name_again names rest ok.1)

each_names_taken : (count : ℕ) (bytes : List ℕ) → IsBytes bytes → (rest : List ℕ) → each_names_end count bytes ≡ Ok rest
    → Spelled each_names_bytes (λ sets. (length sets ≡ count) × EachAreNames sets) bytes rest
unfolding each_names_end
each_names_taken zero bytes small rest e =
    record { value = []; takes = subst (Takes bytes []) (ok_is e) (record { parts = refl; small = small }); is = (refl, tt) }
each_names_taken (suc count) bytes small rest e =
    stepped e (names_taken bytes small) (λ middle first e1.
    let others = each_names_taken count middle first.takes.small rest e1 in
    record { value = first.value ∷ others.value; takes = with_next first.takes others.takes; is = (ap suc others.is.0, (first.is, others.is.1)) })

each_names_again : (sets : List (List Name)) (rest : List ℕ) → EachAreNames sets → each_names_end (length sets) (each_names_bytes sets ++ rest) ≡ Ok rest
unfolding each_names_end
each_names_again [] rest ok = refl
each_names_again (names ∷ sets) rest ok =
    ap (each_names_end (suc (length sets))) (append_assoc (names_bytes names) (each_names_bytes sets) rest)
    ∙ goes_on _ (names_again names _ ok.0) (each_names_again sets rest ok.1)

pub all_names_taken : (bytes : List ℕ) → IsBytes bytes → (rest : List ℕ) → all_names_end bytes ≡ Ok rest → Spelled all_names_bytes AreAllNames bytes rest
unfolding all_names_end
all_names_taken bytes small rest e =
    stepped e (byte_taken bytes small) (λ f1 t1 e1.
    let each = each_names_taken f1.0 f1.1 t1.0.small rest e1 in
    let counted : Takes bytes (byte (length each.value)) f1.1 = subst (λ (n : ℕ). Takes bytes (byte n) f1.1) (sym each.is.0) t1.0 in
    record { value = each.value; takes = with_next counted each.takes; is = (omega (arith, t1.1, each.is.0), each.is.1) })

pub all_names_again : (sets : List (List Name)) (rest : List ℕ) → AreAllNames sets → all_names_end (all_names_bytes sets ++ rest) ≡ Ok rest
unfolding all_names_end
all_names_again sets rest ok = goes_on _ (byte_again (length sets) _) (each_names_again sets rest ok.1)

-- The text up to an end that is a suffix, and is the end of that text alone too.

all_of : (r : Result (List ℕ) RecordFault) → is_all r ≡ true → r ≡ Ok []
unfolding is_all
all_of (Ok rest) h = ap (λ (x : List ℕ). Ok x) (nil_from_length rest (eqb-true _ _ h))
all_of (Err fault) h = absurd cc

-- what is known of each kind of names: how far they are read, and that they are read again
pub record Ends {A : Type 0} (spell : A → List ℕ) (Is : A → Type 0) (end : List ℕ → Result (List ℕ) RecordFault) : Type 0 where
  pub taken : (bytes : List ℕ) → IsBytes bytes → (rest : List ℕ) → end bytes ≡ Ok rest → Spelled spell Is bytes rest
  pub again : (value : A) (rest : List ℕ) → Is value → end (spell value ++ rest) ≡ Ok rest

pub names_ends : Ends names_bytes AreNames names_end
names_ends = record { taken = names_taken; again = names_again }

pub all_names_ends : Ends all_names_bytes AreAllNames all_names_end
all_names_ends = record { taken = all_names_taken; again = all_names_again }

-- whether the text ends there, and is not too long
abbrev pub AreAll : (List ℕ → Result (List ℕ) RecordFault) → List ℕ → Type 0
AreAll end text = (is_all (end text) && nat_le (length text) MAX_NAME_BYTES) ≡ true

all_again : {A : Type 0} {spell : A → List ℕ} {Is : A → Type 0} (end : List ℕ → Result (List ℕ) RecordFault) → Ends spell Is end
    → (value : A) → Is value → is_all (end (spell value)) ≡ true
unfolding is_all
all_again {spell = spell} end ends value is =
    ap is_all (ap end (sym (append-nil (spell value))) ∙ ends.again value [] is)

pub text_found : {A : Type 0} {spell : A → List ℕ} {Is : A → Type 0} (end : List ℕ → Result (List ℕ) RecordFault) → Ends spell Is end
    → (bytes : List ℕ) → IsBytes bytes → (x : List ℕ × List ℕ) → text_to bytes (end bytes) ≡ Ok x → Takes bytes x.0 x.1 × IsBytes x.0 × AreAll end x.0
unfolding text_to
text_found {spell = spell} end ends bytes small x e =
    stepped e (ends.taken bytes small) (λ rest read e1.
    went_by _ e1 (λ few e2.
    let text = spell read.value in
    let n = length bytes - length rest in
    let parts = read.takes.parts in
    let count : length text ≡ n = omega (arith, ap length parts, length-append text rest) in
    let first : take n bytes ≡ text = ap (take n) parts ∙ take_at text rest n count in
    let last : drop n bytes ≡ rest = ap (drop n) parts ∙ drop_at text rest n count in
    let most : length text ≤ MAX_NAME_BYTES = omega (arith, ltb-false _ _ few) in
    let good : AreAll end text = join_and _ _ (all_again end ends read.value read.is) (le-leb _ _ most) in
    let whole : Takes bytes text rest × AreAll end text = (read.takes, good) in
    let moved : Takes bytes (take n bytes) (drop n bytes) × AreAll end (take n bytes) =
    subst (λ (r : List ℕ). Takes bytes (take n bytes) r × AreAll end (take n bytes)) (sym last)
    (subst (λ (t : List ℕ). Takes bytes t rest × AreAll end t) (sym first) whole) in
    subst (λ (y : List ℕ × List ℕ). Takes bytes y.0 y.1 × IsBytes y.0 × AreAll end y.0) (ok_is e2) (moved.0, bytes_first n bytes small, moved.1)))

pub text_read : {A : Type 0} {spell : A → List ℕ} {Is : A → Type 0} (end : List ℕ → Result (List ℕ) RecordFault) → Ends spell Is end
    → (text rest : List ℕ) → IsBytes text → AreAll end text → text_to (text ++ rest) (end (text ++ rest)) ≡ Ok (text, rest)
unfolding text_to
text_read {spell = spell} end ends text rest small good =
    let both = split_and (is_all (end text)) (nat_le (length text) MAX_NAME_BYTES) good in
    let read = ends.taken text small [] (all_of (end text) both.0) in
    let spelled : text ≡ spell read.value = read.takes.parts ∙ append-nil (spell read.value) in
    let ended : end (text ++ rest) ≡ Ok rest = ap (λ (t : List ℕ). end (t ++ rest)) spelled ∙ ends.again read.value rest read.is in
    let n = length (text ++ rest) - length rest in
    let count : length text ≡ n = omega (arith, length-append text rest) in
    let most : length text ≤ MAX_NAME_BYTES = leb-true _ _ both.1 in
    let few : nat_lt MAX_NAME_BYTES n ≡ false = le-ltb _ _ (omega arith) in
    goes_on _ ended (goes_by _ few (rw (take_at text rest n count, drop_at text rest n count) refl))

pub spelled_so : {A : Type 0} {spell : A → List ℕ} {Is : A → Type 0} (end : List ℕ → Result (List ℕ) RecordFault) → Ends spell Is end
    → (text : List ℕ) → IsBytes text → AreAll end text → (value : A) × Is value × (text ≡ spell value)
spelled_so {spell = spell} end ends text small good =
    let both = split_and (is_all (end text)) (nat_le (length text) MAX_NAME_BYTES) good in
    let read = ends.taken text small [] (all_of (end text) both.0) in
    (read.value, read.is, read.takes.parts ∙ append-nil (spell read.value))

pub taken_so : {A : Type 0} {spell : A → List ℕ} {Is : A → Type 0} (end : List ℕ → Result (List ℕ) RecordFault) → Ends spell Is end
    → (value : A) → Is value → length (spell value) ≤ MAX_NAME_BYTES → AreAll end (spell value)
taken_so end ends value is few = join_and _ _ (all_again end ends value is) (le-leb _ _ few)
