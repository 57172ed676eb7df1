-- A step over what is open on one key answers and leaves what looking back over the packets of that key says.
use Rattle.std.proofs.Common.{◌≡◌, ℕ, suc, ◌+◌, Bool, true, false, cond, not, ◌&&◌, ◌==◌, nat_lt, nat_le, List, [], ◌∷◌, ◌++◌, length, Option, Some, None, refl, sym, ap, ◌∙◌, subst, add-one, arith, eqb-true}
use Rattle.std.specs.Option.{option_map, option_and_then}
use Rattle.std.proofs.lemmas.Bool.Decides.{nat_tests}
use Rattle.mctp_packet.specs.Packets.{Packet}
use Rattle.mctp_packet.specs.declared.reason.Reason.TheVariants.{UnexpectedMiddleOrEnd, OutOfSequence, TooLong, WrongUnit}
use Rattle.mctp_assembly.specs.Opened.{Opened}
use Rattle.mctp_assembly.specs.Rows.{unit_of, follows, joined, dropped_after, given, next_within}
use Rattle.mctp_assembly.specs.Steps.{answer_alone, answer_to, begun_by, carried_on, stays_open}
use Rattle.mctp_assembly.specs.Histories.{opened, left_open_within}
use Rattle.mctp_assembly.specs.declared.fed.Fed.{Fed}
use Rattle.mctp_assembly.specs.declared.fed.Fed.TheVariants.{Whole, Partial, Dropped}
use Rattle.mctp_assembly.proofs.RowsByStep.{in_front, row_in, message_in, shorter_than, rows_by_step, messages_by_step, rows_shorter, row_headed}

-- ---- what p gives by tests: s for SOM, e for EOM, f that its number follows, l that the row is at the limit, le that
-- it is no longer than the unit, eq that it has the unit's length
abbrev alone : Bool → Bool → Packet → Fed
alone s e p = cond s (cond e (Whole (record { items = p.payload })) Partial) (Dropped UnexpectedMiddleOrEnd)

abbrev refused : Bool → Bool → Fed
refused f l = cond (not f) (Dropped OutOfSequence) (cond l (Dropped TooLong) (Dropped WrongUnit))

abbrev answered : Bool → Bool → Bool → Bool → Bool → Bool → Packet → List ℕ → Fed
answered s e f l le eq p bytes =
    cond s (alone s e p) (cond (not f) (Dropped OutOfSequence) (cond l (Dropped TooLong) (cond (cond e (not le) (not eq)) (Dropped WrongUnit) (cond e (Whole (record { items = bytes ++ p.payload })) Partial))))

abbrev chosen : Option (List Packet) → Option (List Packet) → Fed → Fed
chosen (Some message) row fed = Whole (record { items = joined message })
chosen None (Some row) fed = Partial
chosen None None fed = fed

chosen_is : (limit : ℕ) (m r b : Option (List Packet)) (p : Packet) → given limit m r b p ≡ chosen m r (dropped_after limit b p)
chosen_is limit (Some message) r b p = refl
chosen_is limit None (Some row) b p = refl
chosen_is limit None None b p = refl

abbrev ended : Bool → Bool → Bool → Bool → Packet → Option (List Packet) → Option (List Packet)
ended s e f le p row = cond (s && e) (Some (p ∷ [])) (in_front (not s && e && f && le) p row)

abbrev begun : Bool → Bool → Bool → Bool → Packet → Option (List Packet) → Option (List Packet)
begun s e f eq p row = cond (s && not e) (Some (p ∷ [])) (in_front (not s && not e && f && eq) p row)

answers_alone : (s e f le eq : Bool) (p : Packet) → alone s e p ≡ chosen (ended s e f le p None) (begun s e f eq p None) (Dropped UnexpectedMiddleOrEnd)
answers_alone true true f le eq p = refl
answers_alone true false f le eq p = refl
answers_alone false true true true eq p = refl
answers_alone false true true false eq p = refl
answers_alone false true false le eq p = refl
answers_alone false false true le true p = refl
answers_alone false false true le false p = refl
answers_alone false false false le eq p = refl

leaves_alone : (s e f eq : Bool) (p : Packet) → cond (stays_open (alone s e p)) (Some (begun_by p)) None ≡ option_and_then opened (begun s e f eq p None)
leaves_alone true true f eq p = refl
leaves_alone true false f eq p = refl
leaves_alone false true f eq p = refl
leaves_alone false false true true p = refl
leaves_alone false false true false p = refl
leaves_alone false false false eq p = refl

answers_after : (s e f l le eq : Bool) (p : Packet) (row : List Packet)
    → answered s e f l le eq p (joined row) ≡ chosen (ended s e f le p (cond l None (Some row))) (begun s e f eq p (cond l None (Some row))) (refused f l)
answers_after true true f l le eq p row = refl
answers_after true false f l le eq p row = refl
answers_after false true false l le eq p row = refl
answers_after false true true true true eq p row = refl
answers_after false true true true false eq p row = refl
answers_after false true true false true eq p row = refl
answers_after false true true false false eq p row = refl
answers_after false false false l le eq p row = refl
answers_after false false true true le true p row = refl
answers_after false false true true le false p row = refl
answers_after false false true false le true p row = refl
answers_after false false true false le false p row = refl

abbrev going : Bool → ℕ → Packet → List Packet → Opened
going s unit p row = cond s (begun_by p) (record { unit = unit; last = p.seq; count = length row + 1; bytes = joined row ++ p.payload })

made : Packet → List Packet → ℕ → ℕ → Option Opened
made p row unit count = Some (record { unit = unit; last = p.seq; count = count; bytes = joined row ++ p.payload })

goes_on : (unit : ℕ) (p : Packet) (row : List Packet) → unit_of p ≡ unit → Some (going false unit p row) ≡ opened (p ∷ row)
unfolding made
goes_on unit p row same = ap (λ n. made p row n (length row + 1)) (sym same) ∙ ap (made p row (unit_of p)) (add-one (length row))

leaves_after : (s e f l le eq : Bool) (unit : ℕ) (p : Packet) (row : List Packet) → (eq ≡ true → unit_of p ≡ unit)
    → cond (stays_open (answered s e f l le eq p (joined row))) (Some (going s unit p row)) None ≡ option_and_then opened (begun s e f eq p (cond l None (Some row)))
leaves_after true true f l le eq unit p row same = refl
leaves_after true false f l le eq unit p row same = refl
leaves_after false true false l le eq unit p row same = refl
leaves_after false true true true le eq unit p row same = refl
leaves_after false true true false true eq unit p row same = refl
leaves_after false true true false false eq unit p row same = refl
leaves_after false false false l le eq unit p row same = refl
leaves_after false false true true le true unit p row same = refl
leaves_after false false true true le false unit p row same = refl
leaves_after false false true false le true unit p row same = goes_on unit p row (same refl)
leaves_after false false true false le false unit p row same = refl

-- ---- one packet after the packets of its key
longer : (a b : ℕ) → nat_lt b a ≡ not (nat_le a b)
longer a b = grind (arith, nat_tests)

-- the tests of a step, where this row is open
tested : (n : ℕ) (p q : Packet) (rest : List Packet)
    → answer_to (suc n) (opened (q ∷ rest)) p ≡ answered p.start p.end (follows p q.seq) (length (q ∷ rest) == suc n) (nat_le (unit_of p) (unit_of q)) (unit_of p == unit_of q) p (joined (q ∷ rest))
tested n p q rest =
    ap (λ w. cond p.start (answer_alone p) (cond (not (follows p q.seq)) (Dropped OutOfSequence) (cond (length (q ∷ rest) == suc n) (Dropped TooLong) (cond (cond p.end w (not (unit_of p == unit_of q))) (Dropped WrongUnit) (cond p.end (Whole (record { items = joined (q ∷ rest) ++ p.payload })) Partial)))))
    (longer (unit_of p) (unit_of q))

abbrev left : ℕ → Packet → Option (List Packet) → Option Opened
left n p row =
    cond (stays_open (answer_to (suc n) (option_and_then opened row) p)) (Some (carried_on (option_and_then opened row) p)) None

abbrev ended_after : Packet → Packet → Option (List Packet) → Option (List Packet)
ended_after p q row = ended p.start p.end (follows p q.seq) (nat_le (unit_of p) (unit_of q)) p row

abbrev begun_after : Packet → Packet → Option (List Packet) → Option (List Packet)
begun_after p q row = begun p.start p.end (follows p q.seq) (unit_of p == unit_of q) p row

-- the answer and what is left open, where q came before p and this is the newest row then
abbrev Matches : ℕ → Packet → Packet → Option (List Packet) → Type 0
Matches n p q row =
    (answer_to (suc n) (option_and_then opened row) p ≡ given (suc n) (ended_after p q (shorter_than (suc n) row)) (begun_after p q (shorter_than (suc n) row)) row p)
    × (left n p row ≡ option_and_then opened (begun_after p q (shorter_than (suc n) row)))

matches : (n : ℕ) (p q : Packet) (rest : Option (List Packet)) → Matches n p q (option_map (λ qs. q ∷ qs) rest)
matches n p q None =
    let s = p.start in let e = p.end in let f = follows p q.seq in
    let le = nat_le (unit_of p) (unit_of q) in let eq = unit_of p == unit_of q in
    (answers_alone s e f le eq p ∙ sym (chosen_is (suc n) (ended_after p q None) (begun_after p q None) None p), leaves_alone s e f eq p)
matches n p q (Some rest) =
    let s = p.start in let e = p.end in let f = follows p q.seq in let l = length (q ∷ rest) == suc n in
    let le = nat_le (unit_of p) (unit_of q) in let eq = unit_of p == unit_of q in
    let row = shorter_than (suc n) (Some (q ∷ rest)) in (
      tested n p q rest ∙ answers_after s e f l le eq p (q ∷ rest) ∙ sym (chosen_is (suc n) (ended_after p q row) (begun_after p q row) (Some (q ∷ rest)) p),
      ap (λ fed. cond (stays_open fed) (Some (going s (unit_of q) p (q ∷ rest))) None) (tested n p q rest) ∙ leaves_after s e f l le eq (unit_of q) p (q ∷ rest) (λ h. eqb-true (unit_of p) (unit_of q) h),
    )

first_answers : (s e : Bool) (p : Packet) → alone s e p ≡ chosen (cond (s && e) (Some (p ∷ [])) None) (cond (s && not e) (Some (p ∷ [])) None) (Dropped UnexpectedMiddleOrEnd)
first_answers true true p = refl
first_answers true false p = refl
first_answers false e p = refl

first_leaves : (s e : Bool) (p : Packet) → cond (stays_open (alone s e p)) (Some (begun_by p)) None ≡ option_and_then opened (cond (s && not e) (Some (p ∷ [])) None)
first_leaves true true p = refl
first_leaves true false p = refl
first_leaves false e p = refl

by_step : (n : ℕ) (ps : List Packet) (p : Packet)
    → (answer_to (suc n) (option_and_then opened (row_in (suc n) ps)) p ≡ given (suc n) (message_in n p ps) (row_in (suc n) (p ∷ ps)) (row_in (suc n) ps) p)
    × (left n p (row_in (suc n) ps) ≡ option_and_then opened (row_in (suc n) (p ∷ ps)))
by_step n [] p =
    (first_answers p.start p.end p ∙ sym (chosen_is (suc n) (message_in n p []) (row_in (suc n) (p ∷ [])) None p), first_leaves p.start p.end p)
by_step n (q ∷ qs) p =
    let row = row_in (suc n) (q ∷ qs) in
    let headed = row_headed (suc n) q qs in
    let shorter = rows_shorter n (q ∷ qs) in
    let matched : Matches n p q row = subst (λ r. Matches n p q r) (sym headed.1) (matches n p q headed.0) in (
      matched.0 ∙ ap (λ r. given (suc n) (ended_after p q r) (begun_after p q r) row p) (sym shorter),
      matched.1 ∙ ap (λ r. option_and_then opened (begun_after p q r)) (sym shorter),
    )

-- what a packet gives is what looking back says
pub answer_looks_back : (n : ℕ) (ps : List Packet) (p : Packet) → answer_to (suc n) (left_open_within (suc n) ps) p ≡ next_within (suc n) ps p
answer_looks_back n ps p =
    ap (λ r. answer_to (suc n) (option_and_then opened r) p) (rows_by_step (suc n) ps) ∙ (by_step n ps p).0
    ∙ (λ i. given (suc n) (sym (messages_by_step n p ps) i) (sym (rows_by_step (suc n) (p ∷ ps)) i) (sym (rows_by_step (suc n) ps) i) p)

-- what it leaves open is the newest row with it
pub leaves_row : (n : ℕ) (ps : List Packet) (p : Packet)
    → cond (stays_open (answer_to (suc n) (left_open_within (suc n) ps) p)) (Some (carried_on (left_open_within (suc n) ps) p)) None ≡ left_open_within (suc n) (p ∷ ps)
leaves_row n ps p =
    ap (left n p) (rows_by_step (suc n) ps) ∙ (by_step n ps p).1 ∙ ap (option_and_then opened) (sym (rows_by_step (suc n) (p ∷ ps)))
