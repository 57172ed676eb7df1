-- Parts that are read from the front of bytes stand in what was taken, and parts that stand there are read.
use Rattle.std.proofs.Common.{◌≡◌, ℕ, zero, suc, ◌^◌, ◌<◌, ◌≤◌, false, ltb, List, [], ◌∷◌, ◌++◌, length, slice_index, take, drop, Result, Ok, refl, sym, ap, subst, ◌∙◌, append_assoc, arith, ltb-false}
use Rattle.std.proofs.lemmas.Bool.{le-ltb}
use Rattle.std.proofs.lemmas.List.{append-nil, drop_at, length-append, length-take, take-append-drop, take_all, take_at}
use Rattle.std.specs.List.{flat_map}
use Rattle.byteorder.specs.Endian.{little_number, little_bytes}
use Rattle.byteorder.specs.Numbers.{length-bytes_low_first, little_from-append, little_from-lt, little_from-take}
use Rattle.pldm_wire.proofs.WrittenNumbers.{stands}
use Rattle.pldm_update.specs.DataParts.{Part, Byte, Number, Bytes, Sized, part_bytes, parts_bytes, IsPart, PartIn, PartsIn}
use Rattle.pldm_update.specs.PackageFields.{and_then, Field, byte_at, number_at, list_at, many_at}
use Rattle.pldm_update.specs.Packages.{Each}
use Rattle.pldm_update.specs.declared.package_fault.PackageFault.{PackageFault}
use Rattle.pldm_update.proofs.PackageSteps.{IsBytes, stepped, goes_on, went_by, goes_by, ok_is, written_again}

-- parts that were taken from the front of bytes
pub record Took (parts : List Part) (bytes rest : List ℕ) : Type 0 where
  pub here : List ℕ
  pub stand : PartsIn parts here
  pub split : bytes ≡ here ++ rest

join : (ps qs : List Part) (a b : List ℕ) → PartsIn ps a → PartsIn qs b → PartsIn (ps ++ qs) (a ++ b)
join [] qs a b p q = subst (λ (l : List ℕ). PartsIn qs (l ++ b)) (sym p) q
join (part ∷ ps) qs a b p q = (p.0, p.1 ++ b, p.2, join ps qs p.1 b p.3 q, ap (λ (l : List ℕ). l ++ b) p.4 ∙ append_assoc p.0 p.1 b)

pub and_then_took : {ps qs : List Part} {a b c : List ℕ} → Took ps a b → Took qs b c → Took (ps ++ qs) a c
and_then_took {ps = ps} {qs = qs} {c = c} p q = record {
  here = p.here ++ q.here;
  stand = join ps qs p.here q.here p.stand q.stand;
  split = p.split ∙ ap (λ (l : List ℕ). p.here ++ l) q.split ∙ sym (append_assoc p.here q.here c);
}

one_part : (part : Part) (here rest bytes : List ℕ) → PartIn part here → bytes ≡ here ++ rest → Took (part ∷ []) bytes rest
one_part part here rest bytes p e = record { here = here; stand = (here, [], p, refl, sym (append-nil _)); split = e }

-- each field that is read was taken

pub byte_took : (bytes : List ℕ) (x : ℕ × List ℕ) → byte_at bytes ≡ Ok x → Took (Byte x.0 ∷ []) bytes x.1
unfolding byte_at
byte_took [] x e = absurd cc
byte_took (b ∷ rest) x e = subst (λ (y : ℕ × List ℕ). Took (Byte y.0 ∷ []) (b ∷ rest) y.1) (ok_is e) (one_part (Byte b) (b ∷ []) rest (b ∷ rest) refl refl)

pub number_took : (n : ℕ) (bytes : List ℕ) (x : ℕ × List ℕ) → number_at n bytes ≡ Ok x → Took (Number n x.0 ∷ []) bytes x.1
unfolding number_at
number_took n bytes x e =
    went_by _ e (λ t e1.
    let enough : n ≤ length bytes = ltb-false _ _ t in
    let counted : length (take n bytes) ≡ n = omega (arith, length-take n bytes) in
    subst (λ (y : ℕ × List ℕ). Took (Number n y.0 ∷ []) bytes y.1) (ok_is e1)
    (one_part (Number n (little_number n bytes)) (take n bytes) (drop n bytes) bytes (counted, sym (little_from-take 0 n n bytes (omega arith))) (sym (take-append-drop n bytes))))

pub list_took : (n : ℕ) (bytes : List ℕ) (x : List ℕ × List ℕ) → list_at n bytes ≡ Ok x → Took (Bytes x.0 ∷ []) bytes x.1 × (length x.0 ≡ n)
unfolding list_at
list_took n bytes x e =
    went_by _ e (λ t e1.
    let enough : n ≤ length bytes = ltb-false _ _ t in
    let counted : length (take n bytes) ≡ n = omega (arith, length-take n bytes) in
    subst (λ (y : List ℕ × List ℕ). Took (Bytes y.0 ∷ []) bytes y.1 × (length y.0 ≡ n)) (ok_is e1)
    (one_part (Bytes (take n bytes)) (take n bytes) (drop n bytes) bytes refl (sym (take-append-drop n bytes)), counted))

pub sized_took : (n : ℕ) (bytes : List ℕ) (x : List ℕ × List ℕ) → list_at n bytes ≡ Ok x → Took (Sized n x.0 ∷ []) bytes x.1
unfolding list_at
sized_took n bytes x e =
    went_by _ e (λ t e1.
    let enough : n ≤ length bytes = ltb-false _ _ t in
    let counted : length (take n bytes) ≡ n = omega (arith, length-take n bytes) in
    subst (λ (y : List ℕ × List ℕ). Took (Sized n y.0 ∷ []) bytes y.1) (ok_is e1)
    (one_part (Sized n (take n bytes)) (take n bytes) (drop n bytes) bytes (refl, counted) (sym (take-append-drop n bytes))))

pub many_took : {A : Type 0} (item_at : List ℕ → Field A) (parts : A → List Part) → ((bytes : List ℕ) (x : A × List ℕ) → item_at bytes ≡ Ok x → Took (parts x.0) bytes x.1)
    → (count : ℕ) (bytes : List ℕ) (x : List A × List ℕ) → many_at item_at count bytes ≡ Ok x → Took (flat_map parts x.0) bytes x.1 × (length x.0 ≡ count)
unfolding many_at
many_took {A = A} item_at parts took zero bytes x e =
    subst (λ (y : List A × List ℕ). Took (flat_map parts y.0) bytes y.1 × (length y.0 ≡ 0)) (ok_is e) (record { here = []; stand = refl; split = refl }, refl)
many_took {A = A} item_at parts took (suc count) bytes x e =
    stepped e (took bytes) (λ first t1 e1.
    stepped e1 (many_took item_at parts took count first.1) (λ others t2 e2.
    subst (λ (y : List A × List ℕ). Took (flat_map parts y.0) bytes y.1 × (length y.0 ≡ suc count)) (ok_is e2) (and_then_took t1 t2.0, ap suc t2.1)))

-- each field that stands at the front is read, and the others then stand at the front of the rest

pub record Reads {A : Type 0} (read : Field A) (a : A) (parts : List Part) (rest : List ℕ) : Type 0 where
  pub next : List ℕ
  pub is : read ≡ Ok (a, next)
  pub left : Took parts next rest

pub byte_reads : (b : ℕ) (ps : List Part) (bytes rest : List ℕ) → Took (Byte b ∷ ps) bytes rest → Reads (byte_at bytes) b ps rest
unfolding byte_at
byte_reads b ps bytes rest t =
    let s = t.stand in
    let front : bytes ≡ b ∷ (s.1 ++ rest) = t.split ∙ ap (λ (l : List ℕ). l ++ rest) (s.4 ∙ ap (λ (l : List ℕ). l ++ s.1) s.2) in
    record { next = s.1 ++ rest; is = rw front refl; left = record { here = s.1; stand = s.3; split = refl } }

pub number_reads : (n x : ℕ) (ps : List Part) (bytes rest : List ℕ) → Took (Number n x ∷ ps) bytes rest → Reads (number_at n bytes) x ps rest
unfolding number_at
number_reads n x ps bytes rest t =
    let s = t.stand in
    let front : bytes ≡ s.0 ++ (s.1 ++ rest) = t.split ∙ ap (λ (l : List ℕ). l ++ rest) s.4 ∙ append_assoc s.0 s.1 rest in
    let long : ltb (length (s.0 ++ (s.1 ++ rest))) n ≡ false = le-ltb _ _ (omega (arith, length-append s.0 (s.1 ++ rest), s.2.0)) in
    let number : little_number n (s.0 ++ (s.1 ++ rest)) ≡ x = little_from-append n s.0 (s.1 ++ rest) (omega (arith, s.2.0)) ∙ sym s.2.1 in
    record {
      next = s.1 ++ rest;
      is = ap (number_at n) front ∙ goes_by _ long (rw (number, drop_at s.0 (s.1 ++ rest) n s.2.0) refl);
      left = record { here = s.1; stand = s.3; split = refl };
    }

pub list_reads : (n : ℕ) (text : List ℕ) (ps : List Part) (bytes rest : List ℕ) → length text ≡ n → Took (Bytes text ∷ ps) bytes rest → Reads (list_at n bytes) text ps rest
unfolding list_at
list_reads n text ps bytes rest count t =
    let s = t.stand in
    let front : bytes ≡ text ++ (s.1 ++ rest) = t.split ∙ ap (λ (l : List ℕ). l ++ rest) (s.4 ∙ ap (λ (l : List ℕ). l ++ s.1) s.2) ∙ append_assoc text s.1 rest in
    let long : ltb (length (text ++ (s.1 ++ rest))) n ≡ false = le-ltb _ _ (omega (arith, length-append text (s.1 ++ rest), count)) in
    record {
      next = s.1 ++ rest;
      is = ap (list_at n) front ∙ goes_by _ long (rw (take_at text (s.1 ++ rest) n count, drop_at text (s.1 ++ rest) n count) refl);
      left = record { here = s.1; stand = s.3; split = refl };
    }

pub sized_reads : (n : ℕ) (text : List ℕ) (ps : List Part) (bytes rest : List ℕ) → Took (Sized n text ∷ ps) bytes rest → Reads (list_at n bytes) text ps rest
sized_reads n text ps bytes rest t =
    let s = t.stand in
    let count : length text ≡ n = ap length (sym s.2.0) ∙ s.2.1 in
    list_reads n text ps bytes rest count (record { here = t.here; stand = (s.0, s.1, s.2.0, s.3, s.4); split = t.split })

-- a field that is read, and what is read after it

pub then_reads : {A B : Type 0} {read : Field A} {a : A} {b : B} {ps qs : List Part} {rest : List ℕ} (f : A × List ℕ → Field B) → Reads read a ps rest
    → ((next : List ℕ) → Took ps next rest → Reads (f (a, next)) b qs rest) → Reads (and_then read f) b qs rest
then_reads f r after =
    let others = after r.next r.left in
    record { next = others.next; is = goes_on f r.is others.is; left = others.left }

pub all_read : {A : Type 0} {a : A} {ps : List Part} {rest next : List ℕ} → Took ps next rest → Reads (Ok (a, next)) a ps rest
all_read {next = next} t = record { next = next; is = refl; left = t }

pub then_is : {A B : Type 0} {read : Field A} {a : A} {b : Result B PackageFault} {ps : List Part} {rest : List ℕ} (f : A × List ℕ → Result B PackageFault) → Reads read a ps rest
    → ((next : List ℕ) → Took ps next rest → f (a, next) ≡ b) → and_then read f ≡ b
then_is f r after = goes_on f r.is (after r.next r.left)

abbrev pub ItemReads : {A : Type 0} → (List ℕ → Field A) → (A → List Part) → Type 0
ItemReads {A = A} item_at parts = (a : A) (ps : List Part) (bytes rest : List ℕ) → Took (parts a ++ ps) bytes rest → Reads (item_at bytes) a ps rest

pub many_reads : {A : Type 0} (item_at : List ℕ → Field A) (parts : A → List Part) → ItemReads item_at parts
    → (items : List A) (ps : List Part) (bytes rest : List ℕ) → Took (flat_map parts items ++ ps) bytes rest → Reads (many_at item_at (length items) bytes) items ps rest
unfolding many_at
many_reads item_at parts reads [] ps bytes rest t = record { next = bytes; is = refl; left = t }
many_reads item_at parts reads (a ∷ items) ps bytes rest t =
    let one = reads a (flat_map parts items ++ ps) bytes rest (subst (λ (l : List Part). Took l bytes rest) (append_assoc (parts a) (flat_map parts items) ps) t) in
    let others = many_reads item_at parts reads items ps one.next rest one.left in
    record { next = others.next; is = goes_on _ one.is (goes_on _ others.is refl); left = others.left }

-- no part is left

pub none_took : (bytes rest : List ℕ) → Took [] bytes rest → bytes ≡ rest
none_took bytes rest t = t.split ∙ ap (λ (l : List ℕ). l ++ rest) t.stand

pub all_took : (ps : List Part) (bytes rest : List ℕ) → length rest ≡ 0 → Took ps bytes rest → PartsIn ps bytes
all_took ps bytes [] h t = subst (λ (l : List ℕ). PartsIn ps l) (sym (t.split ∙ append-nil _)) t.stand
all_took ps bytes (b ∷ rest) h t = absurd (omega (arith, h))

pub took_all : (ps : List Part) (bytes : List ℕ) → PartsIn ps bytes → Took ps bytes []
took_all ps bytes h = record { here = bytes; stand = h; split = sym (append-nil _) }

-- parts have as many bytes as they are written as

part_length : (part : Part) (here : List ℕ) → PartIn part here → length here ≡ length (part_bytes part)
part_length (Byte b) here p = ap length p
part_length (Number n x) here p = p.0 ∙ sym (length-bytes_low_first 0 n x)
part_length (Bytes text) here p = ap length p
part_length (Sized n text) here p = ap length p.0

pub parts_length : (ps : List Part) (bytes : List ℕ) → PartsIn ps bytes → length bytes ≡ length (parts_bytes ps)
parts_length [] bytes h = ap length h
parts_length (part ∷ ps) bytes h =
    omega (arith, ap length h.4, length-append h.0 h.1, part_length part h.0 h.2, parts_length ps h.1 h.3, length-append (part_bytes part) (parts_bytes ps))

-- parts stand in the bytes that they are written as

part_written : (part : Part) → IsPart part → PartIn part (part_bytes part)
part_written (Byte b) h = refl
part_written (Number n x) h = stands n x h
part_written (Bytes text) h = refl
part_written (Sized n text) h = (refl, h)

pub parts_written : (ps : List Part) → Each IsPart ps → PartsIn ps (parts_bytes ps)
parts_written [] h = refl
parts_written (part ∷ ps) h = (part_bytes part, parts_bytes ps, part_written part h.0, parts_written ps h.1, refl)

-- bytes in which parts stand are what these are written as, and each part is in its range

first_byte : (b : ℕ) (here : List ℕ) → b < 256 → IsBytes here → IsBytes (b ∷ here)
first_byte b here h small zero = h
first_byte b here h small (suc i) = small i

bytes_front : (here rest bytes : List ℕ) → bytes ≡ here ++ rest → IsBytes bytes → IsBytes here × IsBytes rest
bytes_front [] rest bytes e small = (λ i. omega arith, subst (λ (l : List ℕ). IsBytes l) e small)
bytes_front (b ∷ here) rest bytes e small =
    let own : IsBytes (b ∷ (here ++ rest)) = subst (λ (l : List ℕ). IsBytes l) e small in
    let both = bytes_front here rest (here ++ rest) refl (λ i. own (suc i)) in
    (first_byte b here (own 0) both.0, both.1)

part_is : (part : Part) (here : List ℕ) → IsBytes here → PartIn part here → (here ≡ part_bytes part) × IsPart part
part_is (Byte b) here small p = (p, subst (λ (l : List ℕ). slice_index l 0 < 256) p (small 0))
part_is (Number n x) here small p =
    let same : little_bytes n (little_number n here) ≡ take n here = written_again n here small (omega (arith, p.0)) in
    (sym (ap (little_bytes n) p.1 ∙ same ∙ take_all n here (omega (arith, p.0))), subst (λ (m : ℕ). m < 256 ^ n) (sym p.1) (little_from-lt 0 n here small))
part_is (Bytes text) here small p = (p, tt)
part_is (Sized n text) here small p = (p.0, ap length (sym p.0) ∙ p.1)

pub parts_are : (ps : List Part) (bytes : List ℕ) → IsBytes bytes → PartsIn ps bytes → (bytes ≡ parts_bytes ps) × Each IsPart ps
parts_are [] bytes small h = (h, tt)
parts_are (part ∷ ps) bytes small h =
    let both = bytes_front h.0 h.1 bytes h.4 small in
    let one = part_is part h.0 both.0 h.2 in
    let others = parts_are ps h.1 both.1 h.3 in
    (h.4 ∙ ap (λ (l : List ℕ). l ++ h.1) one.0 ∙ ap (λ (l : List ℕ). part_bytes part ++ l) others.0, (one.1, others.1))
