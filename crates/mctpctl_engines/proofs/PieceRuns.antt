-- A run over pieces, one piece further, and what it says of all that a reader gives.
use Rattle.std.proofs.Common.{◌≡◌, inl, inr, ℕ, ◌+◌, ◌-◌, ◌<◌, ◌≤◌, Bool, true, false, List, [], ◌++◌, length, take, drop, nat_lt, Option, Some, None, Result, Ok, Err, IfSome, refl, sym, ap, ◌∙◌, append_assoc, append-nil, length-append, length-take, take-append-drop, take-take, arith}
use Rattle.std.specs.Io.KnownBytes.{Appends, Consumes, IsAtEnd, prepend_known}
use Rattle.std.proofs.KnownBytes.{Appends-trans, Appends-nil, Consumes-trans, Consumes-nil}
use lib.Seq.{take-append-add}
use Rattle.std.specs.Prelude.{IsErrOf}
use Rattle.mctpctl_engines.specs.BoundedRead.{ReadUpTo}
use Rattle.mctpctl_engines.specs.LineRuns.{Written, stops_at, after_text, Writes}
use Rattle.mctpctl_input.specs.OutsideFaults.{no_memory}
use Rattle.mctpctl_engines.specs.Pieces.{Gives, GoesOn, StopsWith, TakesTo, FinishesTo, WroteOfFront}
use Rattle.mctpctl_input.specs.declared.faults.EngineFault.{EngineFault}
use Rattle.mctpctl_engines.proofs.KnownInputs.{known_all_read, known_cut}
use Rattle.mctpctl_engines.proofs.RunsOverLines.{after_after, Writes-after}

pub goes_nowhere : (f : Gives) → GoesOn f [] [] f
goes_nowhere f = λ is_cut later. refl

pub goes_after : (f g h : Gives) (a b s t : List ℕ) → GoesOn f a s g → GoesOn g b t h → GoesOn f (a ++ b) (s ++ t) h
goes_after f g h a b s t p q =
    λ is_cut later. ap (f is_cut) (append_assoc a b later) ∙ p is_cut (b ++ later) ∙ ap (after_text s) (q is_cut later) ∙ after_after s t (h is_cut later)

pub stops_after : (f g : Gives) (a b s t : List ℕ) (fault : EngineFault) → GoesOn f a s g → StopsWith g b t fault → StopsWith f (a ++ b) (s ++ t) fault
stops_after f g a b s t fault p q =
    λ is_cut later. ap (f is_cut) (append_assoc a b later) ∙ p is_cut (b ++ later) ∙ ap (after_text s) (q is_cut later) ∙ after_after s t (stops_at fault)

-- the text of a run that is cut off after the bytes
pub front_text : (f g : Gives) (a s : List ℕ) → GoesOn f a s g → (g true []).text ≡ [] → (f true a).text ≡ s
front_text f g a s p none =
    ap (λ l. (f true l).text) (sym (append-nil a)) ∙ ap (λ (w : Written). w.text) (p true []) ∙ ap (λ l. s ++ l) none ∙ append-nil s

pub front_after : (f g : Gives) (a front s t : List ℕ) → GoesOn f a s g → t ≡ (g true front).text → s ++ t ≡ (f true (a ++ front)).text
front_after f g a front s t p e = ap (λ l. s ++ l) e ∙ sym (ap (λ (w : Written). w.text) (p true front))

-- of what was consumed, a front was
pub consumes_front : (old new : Option (List ℕ)) (front back : List ℕ) → Consumes old new (front ++ back) → Consumes old (prepend_known back new) front
consumes_front None new front back p = tt
consumes_front (Some xs) None front back p = absurd p
consumes_front (Some xs) (Some ys) front back p = p ∙ append_assoc front back ys

take_past : (limit : ℕ) (bytes more : List ℕ) → length bytes ≤ limit → take limit (bytes ++ more) ≡ bytes ++ take (limit - length bytes) more
take_past limit bytes more within =
    let same : limit ≡ length bytes + (limit - length bytes) = omega arith in
    ap (λ n. take n (bytes ++ more)) same ∙ take-append-add bytes more (limit - length bytes)

-- a fault after bytes within the limit is the fault of all
pub known_stop : (f : Gives) (limit : ℕ) (all now old new : Option (List ℕ)) (bytes text : List ℕ) (fault : EngineFault) → Consumes all now bytes → length bytes ≤ limit → StopsWith f bytes text fault → Appends old new text → IfSome all (λ xs. Writes (f (nat_lt limit (length xs)) (take limit xs)) old new (Err fault))
known_stop f limit None now old new bytes text fault read within stops written = tt
known_stop f limit (Some xs) None old new bytes text fault read within stops written = absurd read
known_stop f limit (Some xs) (Some ys) old new bytes text fault read within stops written =
    let front : take limit xs ≡ bytes ++ take (limit - length bytes) ys = ap (take limit) read ∙ take_past limit bytes ys within in
    let whole = ap (f (nat_lt limit (length xs))) front ∙ stops (nat_lt limit (length xs)) (take (limit - length bytes) ys) in
    Writes-after _ (stops_at fault) old new new text (Err fault) written whole (inr (refl, Appends-nil new))

finishes : (rest : Written) (old new : Option (List ℕ)) (result : Result Unit EngineFault) → FinishesTo rest old new result → Writes rest old new result
finishes rest old new (Ok unit) end = end
finishes rest old new (Err fault) (inl write) = inl (inr (inl write))
finishes rest old new (Err fault) (inr (inl (memory, kept))) = inl (inr (inr memory))
finishes rest old new (Err fault) (inr (inr (apart, reported, added))) = inr (reported, added)

finished : (f g : Gives) (old now new : Option (List ℕ)) (bytes text : List ℕ) (is_cut : Bool) (result : Result Unit EngineFault) → GoesOn f bytes text g → Appends old now text → FinishesTo (g is_cut []) now new result → Writes (f is_cut bytes) old new result
finished f g old now new bytes text is_cut result goes written end =
    Writes-after _ (g is_cut []) old now new text result written (ap (f is_cut) (sym (append-nil bytes)) ∙ goes is_cut []) (finishes _ now new result end)

-- the end of a run is the end over all that was read, where the limit cut it off as is said
pub known_finish : (f g : Gives) (limit : ℕ) (all old now new : Option (List ℕ)) (bytes text : List ℕ) (is_cut : Bool) (result : Result Unit EngineFault) → IfSome all (λ xs. ReadUpTo limit xs bytes is_cut) → GoesOn f bytes text g → Appends old now text → FinishesTo (g is_cut []) now new result → IfSome all (λ xs. Writes (f (nat_lt limit (length xs)) (take limit xs)) old new result)
known_finish f g limit None old now new bytes text is_cut result read goes written end = tt
known_finish f g limit (Some xs) old now new bytes text is_cut result read goes written end =
    rw (← read.bytes_are, ← read.cut) (finished f g old now new bytes text is_cut result goes written end)

outside : {P : List ℕ → Type 0} (all : Option (List ℕ)) → ((xs : List ℕ) → P xs) → IfSome all P
outside None p = tt
outside (Some xs) p = p xs

-- the piece that is taken is a front of the bytes that were read
pub piece_consumed : (now new : Option (List ℕ)) (buffer : List ℕ) (count taken : ℕ) → Consumes now new (take count buffer) → taken ≤ count → Consumes now (prepend_known (drop taken (take count buffer)) new) (take taken buffer)
piece_consumed now new buffer count taken read within =
    let front : take taken (take count buffer) ≡ take taken buffer = take-take taken count buffer within in
    consumes_front now new (take taken buffer) (drop taken (take count buffer)) (rw (← front, take-append-drop taken (take count buffer)) read)

-- as a whole, if no more was read
pub piece_all_consumed : (now new : Option (List ℕ)) (buffer : List ℕ) (count taken : ℕ) → Consumes now new (take count buffer) → taken ≡ count → Consumes now new (take taken buffer)
piece_all_consumed now new buffer count taken read same = rw same read

pub known_end : (all now new : Option (List ℕ)) (limit : ℕ) (bytes buffer : List ℕ) (count : ℕ) → count ≡ 0 → Consumes all now bytes → Consumes now new (take count buffer) → IsAtEnd new → length bytes ≤ limit → IfSome all (λ xs. ReadUpTo limit xs bytes false)
known_end all now new limit bytes buffer count none before read end within = known_all_read all now new bytes limit before (rw none at read) end within

pub known_past : (all now new : Option (List ℕ)) (limit : ℕ) (bytes buffer : List ℕ) (count taken : ℕ) → Consumes all now bytes → Consumes now new (take count buffer) → taken + length bytes ≡ limit → taken < count → count ≤ length buffer → IfSome all (λ xs. ReadUpTo limit xs (bytes ++ take taken buffer) true)
known_past all now new limit bytes buffer count taken before read at past within =
    let all_of = known_cut all new (bytes ++ take count buffer) limit (Consumes-trans all now new bytes (take count buffer) before read) (omega (arith, length-append {A = ℕ}, length-take {A = ℕ})) in
    let front : take limit (bytes ++ take count buffer) ≡ bytes ++ take taken buffer =
    take_past limit bytes (take count buffer) (omega arith) ∙ ap (λ n. bytes ++ take n (take count buffer)) (omega arith) ∙ ap (λ l. bytes ++ l) (take-take taken count buffer (omega arith)) in
    rw (← front) all_of

abbrev IsFault : Result Unit EngineFault → EngineFault → Type 0
IsFault result fault = IsErrOf result fault

err_same : (f h : EngineFault) → IsFault (Err f) h → f ≡ h
err_same f h is = cc

-- want of memory within a piece
memory_reported : (f g : Gives) (all now new c0 c1 c2 : Option (List ℕ)) (bytes piece text : List ℕ) → Consumes all now bytes → Consumes now new piece → Appends c0 c1 text → GoesOn f bytes text g → TakesTo g piece g c1 c2 (Err no_memory) → WroteOfFront f all c0 c2
memory_reported f g all now new c0 c1 c2 bytes piece text before read written goes (inl wrong) = cc
memory_reported f g all now new c0 c1 c2 bytes piece text before read written goes (inr (more, added, inl (memory, (front, back, parts, is)))) = (
  bytes ++ front,
  prepend_known back new,
  Consumes-trans all now (prepend_known back new) bytes front before (consumes_front now new front back (rw parts at read)),
  rw (← front_after f g bytes front text more goes is) (Appends-trans c0 c1 c2 text more written added),
)
memory_reported f g all now new c0 c1 c2 bytes piece text before read written goes (inr (more, added, inr (apart, stops))) = absurd (apart refl)

pub memory_within : (f g : Gives) (all now new c0 c1 c2 : Option (List ℕ)) (bytes piece text : List ℕ) (fault : EngineFault) → IsFault (Err fault) no_memory → Consumes all now bytes → Consumes now new piece → Appends c0 c1 text → GoesOn f bytes text g → TakesTo g piece g c1 c2 (Err fault) → WroteOfFront f all c0 c2
memory_within f g all now new c0 c1 c2 bytes piece text fault is before read written goes reported =
    memory_reported f g all now new c0 c1 c2 bytes piece text before read written goes (rw (err_same fault no_memory is) at reported)

-- want of memory at the end
memory_ended : (f g : Gives) (is_cut : Bool) (all now c0 c1 c2 : Option (List ℕ)) (bytes text : List ℕ) → Consumes all now bytes → Appends c0 c1 text → GoesOn f bytes text g → (g true []).text ≡ [] → FinishesTo (g is_cut []) c1 c2 (Err no_memory) → WroteOfFront f all c0 c2
memory_ended f g is_cut all now c0 c1 c2 bytes text before written goes none (inl wrong) = cc
memory_ended f g is_cut all now c0 c1 c2 bytes text before written goes none (inr (inl (memory, added))) = (
  bytes,
  now,
  before,
  rw (front_text f g bytes text goes none, ← append-nil text) (Appends-trans c0 c1 c2 text [] written added),
)
memory_ended f g is_cut all now c0 c1 c2 bytes text before written goes none (inr (inr (apart, reported, added))) = absurd (apart refl)

pub memory_at_end : (f g : Gives) (is_cut : Bool) (all now c0 c1 c2 : Option (List ℕ)) (bytes text : List ℕ) (result : Result Unit EngineFault) → IsErrOf result no_memory → Consumes all now bytes → Appends c0 c1 text → GoesOn f bytes text g → (g true []).text ≡ [] → FinishesTo (g is_cut []) c1 c2 result → WroteOfFront f all c0 c2
memory_at_end f g is_cut all now c0 c1 c2 bytes text (Ok unit) is before written goes none reported = cc
memory_at_end f g is_cut all now c0 c1 c2 bytes text (Err fault) is before written goes none reported =
    memory_ended f g is_cut all now c0 c1 c2 bytes text before written goes none (rw (err_same fault no_memory is) at reported)

-- a fault within a piece
pub fault_within : (f g : Gives) (limit : ℕ) (all now new c0 c1 c2 : Option (List ℕ)) (bytes piece text : List ℕ) (fault : EngineFault) → Consumes all now bytes → Consumes now new piece → length (bytes ++ piece) ≤ limit → Appends c0 c1 text → GoesOn f bytes text g → TakesTo g piece g c1 c2 (Err fault) → IfSome all (λ xs. Writes (f (nat_lt limit (length xs)) (take limit xs)) c0 c2 (Err fault))
fault_within f g limit all now new c0 c1 c2 bytes piece text fault before read within written goes (inl write) = outside all (λ xs. inl (inr (inl write)))
fault_within f g limit all now new c0 c1 c2 bytes piece text fault before read within written goes (inr (more, added, inl (memory, front))) = outside all (λ xs. inl (inr (inr memory)))
fault_within f g limit all now new c0 c1 c2 bytes piece text fault before read within written goes (inr (more, added, inr (apart, stops))) =
    known_stop f limit all new c0 c2 (bytes ++ piece) (text ++ more) fault (Consumes-trans all now new bytes piece before read) within (stops_after f g bytes piece text more fault goes stops) (Appends-trans c0 c1 c2 text more written added)

-- before anything is read, nothing is written
pub nothing_written : (f : Gives) (all c : Option (List ℕ)) → (f true []).text ≡ [] → WroteOfFront f all c c
nothing_written f all c none = ([], all, Consumes-nil all, rw none (Appends-nil c))
