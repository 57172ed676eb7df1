-- Names that are spelled are read back.
use Rattle.std.proofs.Common.{◌≡◌, ℕ, zero, suc, ◌+◌, ◌*◌, ◌/◌, ◌%◌, ◌<◌, ◌==◌, false, ◌&&◌, List, [], ◌∷◌, ◌++◌, length, refl, ap, ◌∙◌, append_assoc, arith}
use Rattle.std.proofs.lemmas.Bool.{ne_eqb}
use Rattle.mctpctl_decode.specs.NameTexts.{after_each, after_name, after_names, after_tag, after_units, each_of, name_of, names_of, tag_of, units_of}
use Rattle.pldm_pdr.specs.Names.{EachAreNames, EachIsName, IsTag, IsText, Name, each_name_bytes, each_names_bytes, name_bytes, tag_bytes, text_bytes}

pub tag_read : (tag rest : List ℕ) → IsTag tag → tag_of (tag_bytes tag ++ rest) ≡ tag
tag_read [] rest ok = refl
tag_read (b ∷ tag) rest ok =
    let no_zero : (b == 0) ≡ false = ne_eqb b 0 (omega arith) in
    rw no_zero (ap (λ (t : List ℕ). b ∷ t) (tag_read tag rest ok.2))

pub tag_passed : (tag rest : List ℕ) → IsTag tag → after_tag (tag_bytes tag ++ rest) ≡ rest
tag_passed [] rest ok = refl
tag_passed (b ∷ tag) rest ok =
    let no_zero : (b == 0) ≡ false = ne_eqb b 0 (omega arith) in
    rw no_zero (tag_passed tag rest ok.2)

-- a unit that is not zero is not the zero unit
no_end : (high low : ℕ) → 0 < 256 * high + low → ((high == 0) && (low == 0)) ≡ false
no_end zero zero h = absurd (omega arith)
no_end zero (suc low) h = ne_eqb (suc low) 0 (omega arith)
no_end (suc high) low h = rw (ne_eqb (suc high) 0 (omega arith)) refl

pub text_read : (units rest : List ℕ) → IsText units → units_of (text_bytes units ++ rest) ≡ units
text_read [] rest ok = refl
text_read (unit ∷ units) rest ok =
    let some : ((unit / 256 == 0) && (unit % 256 == 0)) ≡ false = no_end (unit / 256) (unit % 256) (omega arith) in
    let same : 256 * (unit / 256) + unit % 256 ≡ unit = omega arith in
    rw (some, same) (ap (λ (u : List ℕ). unit ∷ u) (text_read units rest ok.2))

pub text_passed : (units rest : List ℕ) → IsText units → after_units (text_bytes units ++ rest) ≡ rest
text_passed [] rest ok = refl
text_passed (unit ∷ units) rest ok =
    let some : ((unit / 256 == 0) && (unit % 256 == 0)) ≡ false = no_end (unit / 256) (unit % 256) (omega arith) in
    rw some (text_passed units rest ok.2)

pub name_read : (name : Name) (rest : List ℕ) → IsTag name.tag → IsText name.units → name_of (name_bytes name ++ rest) ≡ name
name_read name rest tag text =
    let parts = append_assoc (tag_bytes name.tag) (text_bytes name.units) rest in
    let tag_is = tag_read name.tag (text_bytes name.units ++ rest) tag in
    let passed = tag_passed name.tag (text_bytes name.units ++ rest) tag in
    let text_is = text_read name.units rest text in
    rw (parts, tag_is, passed, text_is) refl

pub name_passed : (name : Name) (rest : List ℕ) → IsTag name.tag → IsText name.units → after_name (name_bytes name ++ rest) ≡ rest
name_passed name rest tag text =
    let parts = append_assoc (tag_bytes name.tag) (text_bytes name.units) rest in
    let passed = tag_passed name.tag (text_bytes name.units ++ rest) tag in
    rw (parts, passed) (text_passed name.units rest text)

pub each_read : (names : List Name) (rest : List ℕ) → EachIsName names → each_of name_of after_name (length names) (each_name_bytes names ++ rest) ≡ names
each_read [] rest ok = refl
each_read (name ∷ names) rest ok =
    let parts = append_assoc (name_bytes name) (each_name_bytes names) rest in
    let first = name_read name (each_name_bytes names ++ rest) ok.0 ok.1 in
    let passed = name_passed name (each_name_bytes names ++ rest) ok.0 ok.1 in
    rw (parts, first, passed) (ap (λ (l : List Name). name ∷ l) (each_read names rest ok.2))

pub each_passed : (names : List Name) (rest : List ℕ) → EachIsName names → after_each after_name (length names) (each_name_bytes names ++ rest) ≡ rest
each_passed [] rest ok = refl
each_passed (name ∷ names) rest ok =
    let parts = append_assoc (name_bytes name) (each_name_bytes names) rest in
    let passed = name_passed name (each_name_bytes names ++ rest) ok.0 ok.1 in
    ap (λ (l : List ℕ). after_each after_name (length names) (after_name l)) parts
    ∙ ap (λ (l : List ℕ). after_each after_name (length names) l) passed ∙ each_passed names rest ok.2

pub sets_read : (sets : List (List Name)) (rest : List ℕ) → EachAreNames sets → each_of names_of after_names (length sets) (each_names_bytes sets ++ rest) ≡ sets
sets_read [] rest ok = refl
sets_read (names ∷ sets) rest ok =
    let parts = append_assoc (each_name_bytes names) (each_names_bytes sets) rest in
    let first = each_read names (each_names_bytes sets ++ rest) ok.0.1 in
    let passed = each_passed names (each_names_bytes sets ++ rest) ok.0.1 in
    rw (parts, first, passed) (ap (λ (l : List (List Name)). names ∷ l) (sets_read sets rest ok.1))
