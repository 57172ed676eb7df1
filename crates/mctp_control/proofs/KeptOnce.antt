-- Copies of the assignments that are kept, and when one is accepted again.
use Rattle.std.proofs.Common.{◌≡◌, ℕ, zero, suc, ◌+◌, ◌<◌, ◌≤◌, ◌==◌, nat_lt, Bool, true, false, ◌⊎◌, inl, inr, List, [], ◌∷◌, ◌++◌, length, take, drop, Option, None, Some, is_some, option_map, Result, Ok, Err, if◌then◌else◌, refl, ap, sym, ◌∙◌, arith, eqb-true}
use Rattle.std.specs.Prelude.{find, bytes_eq}
use Rattle.std.proofs.lemmas.Bool.Decides.{nat_tests}
use Rattle.std.proofs.lemmas.Bool.{eq-eqb}
use Rattle.std.proofs.lemmas.Slice.Eq.{bytes_eq-Decides}
use Rattle.mctp_packet.specs.declared.TheConstants.{HEADER}
use Rattle.mctp_control.specs.Assignments.{assignment, is_copy_of}
use Rattle.mctp_control.specs.CommandReading.{command_of}
use Rattle.mctp_control.specs.Histories.{AreAlike, IsAnsweredAsBefore, TimedPacket, after, answering_message, assigning, assigns, is_copy}
use Rattle.mctp_control.specs.Messages.{Request, request_of}
use Rattle.mctp_control.specs.Packets.{assigned_by, assigned_in, comes_to, copied_by, message_of, request_in, source_of}
use Rattle.mctp_control.specs.Responding.{assignment_by, left_with}
use Rattle.mctp_control.specs.Settings.{accepted_of_read, answer_of_read}
use Rattle.mctp_control.specs.Written.{answer_message}
use Rattle.mctp_control.specs.declared.answer.Answer.TheVariants.{EndpointIdSet}
use Rattle.mctp_control.specs.declared.answer.Assignment.TheVariants.{Accepted}
use Rattle.mctp_control.specs.declared.command.Command.{Command}
use Rattle.mctp_control.specs.declared.command.Command.TheVariants.{SetEndpointId, GetEndpointId, GetEndpointUuid, GetVersionSupport, GetMessageTypeSupport}
use Rattle.mctp_control.specs.declared.control_responder.ControlResponder.{ControlResponder}
use Rattle.mctp_control.specs.declared.kept_assignments.KeptAssignment.{KeptAssignment}
use Rattle.mctp_control.specs.declared.kept_assignments.TheConstants.{KEPT_ASSIGNMENTS}

-- ---- options and look-ups
none_some : {X : Type 0} {x : X} → None ≡ Some x → ⊥
none_some {X} {x} h = grind (arith, h)

some_same : {X : Type 0} {x y : X} → Some x ≡ Some y → x ≡ y
some_same {X} {x} {y} h = grind (arith, h)

some_of : {X : Type 0} (o : Option X) → is_some o ≡ true → (x : X) × (o ≡ Some x)
some_of None h = absurd (grind (arith, h))
some_of (Some x) h = (x, refl)

mapped : {X Y : Type 0} (f : X → Y) (o : Option X) (y : Y) → option_map f o ≡ Some y → (x : X) × (o ≡ Some x) × (y ≡ f x)
mapped f None y h = absurd (none_some h)
mapped f (Some x) y h = (x, refl, sym (some_same h))

cond_none : {X : Type 0} (t : Bool) (x : X) (rest : Option X) → (if t then Some x else rest) ≡ None → (t ≡ false) × (rest ≡ None)
cond_none true x rest h = absurd (none_some (sym h))
cond_none false x rest h = (refl, h)

found_in : {X : Type 0} (P : X → Type 0) (t : Bool) (x k : X) (rest : Option X) (test : X → Bool) → test x ≡ t → P x → (rest ≡ Some k → P k × (test k ≡ true)) → (if t then Some x else rest) ≡ Some k → P k × (test k ≡ true)
found_in P true x k rest test is here later h = (rw (sym (some_same h)) here, rw (sym (some_same h)) is)
found_in P false x k rest test is here later h = later h

abbrev Each : {X : Type 0} → (X → Type 0) → List X → Type 0
Each P [] = Unit {0}
Each P (x ∷ xs) = P x × Each P xs

each_taken : {X : Type 0} (P : X → Type 0) (n : ℕ) (xs : List X) → Each P xs → Each P (take n xs)
each_taken P zero xs all = tt
each_taken P (suc n) [] all = tt
each_taken P (suc n) (x ∷ xs) all = (all.0, each_taken P n xs all.1)

-- what is found passes the test, and is one of them
found : {X : Type 0} (P : X → Type 0) (test : X → Bool) (xs : List X) (k : X) → Each P xs → find test xs ≡ Some k → P k × (test k ≡ true)
found P test [] k all h = absurd (none_some h)
found P test (x ∷ xs) k all h = found_in P (test x) x k (find test xs) test refl all.0 (found P test xs k all.1) h

every : {X : Type 0} (P Q : X → Type 0) → ((x : X) → P x → Q x) → (xs : List X) → Each P xs → Each Q xs
every P Q f [] all = tt
every P Q f (x ∷ xs) all = (f x all.0, every P Q f xs all.1)

-- ---- where an assignment stands among those that are kept: so many newer ones are before it
abbrev StandsAt : KeptAssignment → ℕ → List KeptAssignment → Type 0
StandsAt k n [] = ⊥
StandsAt k zero (x ∷ xs) = x ≡ k
StandsAt k (suc n) (x ∷ xs) = StandsAt k n xs

taken : (k : KeptAssignment) (n m : ℕ) (xs : List KeptAssignment) → StandsAt k n xs → n < m → StandsAt k n (take m xs)
taken k n m [] at few = absurd at
taken k n zero (x ∷ xs) at few = absurd (omega (arith, few))
taken k zero (suc m) (x ∷ xs) at few = at
taken k (suc n) (suc m) (x ∷ xs) at few = taken k n m xs at (omega (arith, few))

-- one that stands there is found, or does not pass the test
missed : (test : KeptAssignment → Bool) (k : KeptAssignment) (n : ℕ) (xs : List KeptAssignment) → StandsAt k n xs → find test xs ≡ None → test k ≡ false
missed test k n [] at none = absurd at
missed test k zero (x ∷ xs) at none = rw (sym at) (cond_none (test x) x (find test xs) none).0
missed test k (suc n) (x ∷ xs) at none = missed test k n xs at (cond_none (test x) x (find test xs) none).1

-- ---- what packets leave
left_keep : (e : ControlResponder) (o : Option KeptAssignment) → (left_with e o).keep ≡ e.keep
left_keep e None = refl
left_keep e (Some new) = refl

after_keep : (e : ControlResponder) (packets : List TimedPacket) → (after e packets).keep ≡ e.keep
after_keep e [] = refl
after_keep e (p ∷ packets) =
    left_keep (after e packets) (assigned_in (after e packets) p.moment p.bytes) ∙ after_keep e packets

after_both : (e : ControlResponder) (later before : List TimedPacket) → after e (later ++ before) ≡ after (after e before) later
after_both e [] before = refl
after_both e (p ∷ later) before =
    ap (λ left. left_with left (assigned_in left p.moment p.bytes)) (after_both e later before)

stands_after : (k : KeptAssignment) (e : ControlResponder) (o : Option KeptAssignment) (p : TimedPacket) (ps : List TimedPacket)
    → (length ps < 8 → StandsAt k (length ps) e.kept)
    → length (if is_some o then p ∷ ps else ps) < 8
    → StandsAt k (length (if is_some o then p ∷ ps else ps)) (left_with e o).kept
stands_after k e None p ps at few = at few
stands_after k e (Some new) p ps at few =
    let fewer : length ps < 7 = omega (arith, few) in
    taken k (length ps) 7 e.kept (at (omega (arith, fewer))) fewer

-- as many newer ones are before it as were accepted since
stands : (k : KeptAssignment) (e : ControlResponder) (later : List TimedPacket) → StandsAt k 0 e.kept → length (assigning e later) < 8 → StandsAt k (length (assigning e later)) (after e later).kept
stands k e [] at few = at
stands k e (p ∷ later) at few =
    stands_after k (after e later) (assigned_in (after e later) p.moment p.bytes) p (assigning e later) (stands k e later at) few

-- ---- an assignment that is accepted
record IsMade (e : ControlResponder) (now : ℕ) (bytes : List ℕ) (k : KeptAssignment) : Type 0 where
  request : Request
  brought : request_in e bytes ≡ Some request
  fresh : copied_by e now bytes ≡ None
  eid : ℕ
  accepted : accepted_of_read e (command_of request.command request.rest) ≡ Some eid
  made : k ≡ assignment (source_of bytes) (message_of bytes) now eid

made_from : (e : ControlResponder) (now : ℕ) (bytes : List ℕ) (copy : Option KeptAssignment) (r : Request) (k : KeptAssignment) → copied_by e now bytes ≡ copy → request_in e bytes ≡ Some r → assignment_by e now (source_of bytes) (message_of bytes) copy r ≡ Some k → IsMade e now bytes k
made_from e now bytes (Some c) r k copies brings h = absurd (none_some h)
made_from e now bytes None r k copies brings h =
    let m = mapped (assignment (source_of bytes) (message_of bytes) now) (accepted_of_read e (command_of r.command r.rest)) k h in
    record { request = r; brought = brings; fresh = copies; eid = m.0; accepted = m.1; made = m.2 }

made_of : (e : ControlResponder) (now : ℕ) (bytes : List ℕ) (q : Option Request) (k : KeptAssignment) → request_in e bytes ≡ q → assigned_by e now bytes q ≡ Some k → IsMade e now bytes k
made_of e now bytes None k brings h = absurd (none_some h)
made_of e now bytes (Some r) k brings h = made_from e now bytes (copied_by e now bytes) r k refl brings h

made_by : (e : ControlResponder) (now : ℕ) (bytes : List ℕ) (k : KeptAssignment) → assigned_in e now bytes ≡ Some k → IsMade e now bytes k
made_by e now bytes k h = made_of e now bytes (request_in e bytes) k refl h

-- it is answered as accepted
accepted_answer : (e : ControlResponder) (read : Result Command ℕ) (eid : ℕ) → accepted_of_read e read ≡ Some eid → answer_of_read e read ≡ EndpointIdSet Accepted eid
accepted_answer e (Err code) eid h = absurd (none_some h)
accepted_answer e (Ok (SetEndpointId operation wanted)) eid h = rw h refl
accepted_answer e (Ok GetEndpointId) eid h = absurd (none_some h)
accepted_answer e (Ok GetEndpointUuid) eid h = absurd (none_some h)
accepted_answer e (Ok (GetVersionSupport t)) eid h = absurd (none_some h)
accepted_answer e (Ok GetMessageTypeSupport) eid h = absurd (none_some h)

-- ---- between two that are alike
late : (keep now source : ℕ) (message : List ℕ) (k : KeptAssignment) → source ≡ k.source → message ≡ k.message → is_copy_of keep now source message k ≡ false → k.moment + keep ≤ now
late keep now source message k from same h =
    let one : (source == k.source) ≡ true = eq-eqb _ _ from in
    let bytes : bytes_eq message k.message ≡ true = grind (arith, bytes_eq-Decides message k.message, same) in
    grind (arith, nat_tests, one, bytes, h)

module _ (e : ControlResponder) (before later : List TimedPacket) (first again : TimedPacket) (k : KeptAssignment) where
  -- where fewer were accepted since, it still stands among those that are kept
  apart_few : IsMade (after e before) first.moment first.bytes k → AreAlike again first
      → assigned_in (after e before) first.moment first.bytes ≡ Some k
      → (now_made : (x : KeptAssignment) × IsMade (after (after e (first ∷ before)) later) again.moment again.bytes x)
      → length (assigning (after e (first ∷ before)) later) < 8
      → first.moment + e.keep ≤ again.moment
  apart_few m alike made now_made few =
      let front : StandsAt k 0 (after e (first ∷ before)).kept = rw made refl in
      let there = stands k (after e (first ∷ before)) later front few in
      let left : ControlResponder = after (after e (first ∷ before)) later in
      let test = missed (is_copy_of left.keep again.moment (source_of again.bytes) (message_of again.bytes)) k _ left.kept there now_made.1.fresh in
      let source : source_of again.bytes ≡ k.source = alike.0 ∙ sym (ap (λ x. x.source) m.made) in
      let message : message_of again.bytes ≡ k.message = alike.1 ∙ sym (ap (λ x. x.message) m.made) in
      let keeps : left.keep ≡ e.keep = after_keep (after e (first ∷ before)) later ∙ after_keep e (first ∷ before) in
      let moment : k.moment ≡ first.moment = ap (λ x. x.moment) m.made in
      let passed = late left.keep again.moment (source_of again.bytes) (message_of again.bytes) k source message test in
      omega (arith, keeps, moment, passed)

  apart_by : (few : Bool) → nat_lt (length (assigning (after e (first ∷ before)) later)) 8 ≡ few
      → (nat_lt (length (assigning (after e (first ∷ before)) later)) 8 ≡ true → first.moment + e.keep ≤ again.moment)
      → (first.moment + e.keep ≤ again.moment) ⊎ (KEPT_ASSIGNMENTS ≤ length (assigning (after e (first ∷ before)) later))
  apart_by true is early = inl (early is)
  apart_by false is early = inr (grind (arith, nat_tests, is))

pub apart : (e : ControlResponder) (before later : List TimedPacket) (first again : TimedPacket)
    → assigns (after e before) first ≡ true
    → assigns (after e (later ++ first ∷ before)) again ≡ true
    → AreAlike again first
    → (first.moment + e.keep ≤ again.moment) ⊎ (KEPT_ASSIGNMENTS ≤ length (assigning (after e (first ∷ before)) later))
apart e before later first again was is alike =
    let one = some_of (assigned_in (after e before) first.moment first.bytes) was in
    let is_now : assigns (after (after e (first ∷ before)) later) again ≡ true = rw (after_both e later (first ∷ before)) at is in
    let two = some_of (assigned_in (after (after e (first ∷ before)) later) again.moment again.bytes) is_now in
    let made = made_by (after e before) first.moment first.bytes one.0 one.1 in
    let now_made = made_by (after (after e (first ∷ before)) later) again.moment again.bytes two.0 two.1 in
    apart_by e before later first again one.0 (nat_lt (length (assigning (after e (first ∷ before)) later)) 8) refl
    (λ few. apart_few e before later first again one.0 made alike one.1 (two.0, now_made) (grind (arith, nat_tests, few)))

-- ---- what is kept was accepted
record HasOrigin (e : ControlResponder) (packets : List TimedPacket) (k : KeptAssignment) : Type 0 where
  before : List TimedPacket
  first : TimedPacket
  later : List TimedPacket
  place : packets ≡ later ++ first ∷ before
  made : assigned_in (after e before) first.moment first.bytes ≡ Some k

older : (e : ControlResponder) (packets : List TimedPacket) (p : TimedPacket) (k : KeptAssignment) → HasOrigin e packets k → HasOrigin e (p ∷ packets) k
older e packets p k h = record { before = h.before; first = h.first; later = p ∷ h.later; place = ap (λ ps. p ∷ ps) h.place; made = h.made }

origins_left : (e : ControlResponder) (packets : List TimedPacket) (p : TimedPacket) (o : Option KeptAssignment) → assigned_in (after e packets) p.moment p.bytes ≡ o → Each (HasOrigin e packets) (after e packets).kept → Each (HasOrigin e (p ∷ packets)) (left_with (after e packets) o).kept
origins_left e packets p None is all = every (HasOrigin e packets) (HasOrigin e (p ∷ packets)) (older e packets p) (after e packets).kept all
origins_left e packets p (Some k) is all =
    each_taken (HasOrigin e (p ∷ packets)) KEPT_ASSIGNMENTS (k ∷ (after e packets).kept) (
      record { before = packets; first = p; later = []; place = refl; made = is },
      every (HasOrigin e packets) (HasOrigin e (p ∷ packets)) (older e packets p) (after e packets).kept all,
    )

origins : (e : ControlResponder) (packets : List TimedPacket) → e.kept ≡ [] → Each (HasOrigin e packets) (after e packets).kept
origins e [] none = rw none tt
origins e (p ∷ packets) none =
    origins_left e packets p (assigned_in (after e packets) p.moment p.bytes) refl (origins e packets none)

-- ---- a copy is answered as what it repeats
request_by : (e : ControlResponder) (bytes : List ℕ) (r : Request) (comes : Bool) → (if comes then request_of (drop HEADER bytes) else None) ≡ Some r → request_of (drop HEADER bytes) ≡ Some r
request_by e bytes r true h = h
request_by e bytes r false h = absurd (none_some h)

same_request : (e other : ControlResponder) (bytes old : List ℕ) (r was : Request) → message_of bytes ≡ message_of old → request_in e bytes ≡ Some r → request_in other old ≡ Some was → r ≡ was
same_request e other bytes old r was same h g =
    let now : request_of (message_of bytes) ≡ Some r = request_by e bytes r (comes_to e bytes) h in
    let then_ : request_of (message_of old) ≡ Some was = request_by other old was (comes_to other old) g in
    some_same (sym now ∙ ap request_of same ∙ then_)

copy_message : (e : ControlResponder) (p : TimedPacket) (r : Request) (k : KeptAssignment) → request_in e p.bytes ≡ Some r → copied_by e p.moment p.bytes ≡ Some k → answering_message e p ≡ Some (answer_message r.id r.command (EndpointIdSet Accepted k.eid))
copy_message e p r k brings copies = rw (brings, copies) refl

first_message : (e : ControlResponder) (p : TimedPacket) (k : KeptAssignment) (m : IsMade e p.moment p.bytes k) → answering_message e p ≡ Some (answer_message m.request.id m.request.command (EndpointIdSet Accepted m.eid))
first_message e p k m =
    let answer = accepted_answer e (command_of m.request.command m.request.rest) m.eid m.accepted in
    rw (m.brought, m.fresh, answer) refl

repeats : (keep now source : ℕ) (message : List ℕ) (k : KeptAssignment) → is_copy_of keep now source message k ≡ true → (source ≡ k.source) × (message ≡ k.message) × (now < k.moment + keep)
repeats keep now source message k h =
    let one : (source == k.source) ≡ true = grind (arith, h) in
    let bytes : bytes_eq message k.message ≡ true = grind (arith, h) in
    (eqb-true _ _ one, grind (arith, bytes_eq-Decides message k.message, bytes), grind (arith, nat_tests, h))

alike_by : (e : ControlResponder) (packets : List TimedPacket) (p : TimedPacket) (r : Request) (k : KeptAssignment)
    → request_in (after e packets) p.bytes ≡ Some r → copied_by (after e packets) p.moment p.bytes ≡ Some k
    → (o : HasOrigin e packets k) → IsMade (after e o.before) o.first.moment o.first.bytes k
    → (source_of p.bytes ≡ k.source) × (message_of p.bytes ≡ k.message) × (p.moment < k.moment + (after e packets).keep)
    → IsAnsweredAsBefore e packets p
alike_by e packets p r k brings copies o m same =
    let message : message_of p.bytes ≡ message_of o.first.bytes = same.1 ∙ ap (λ x. x.message) m.made in
    let keeps : (after e packets).keep ≡ e.keep = after_keep e packets in
    let moment : k.moment ≡ o.first.moment = ap (λ x. x.moment) m.made in
    let request : r ≡ m.request = same_request (after e packets) (after e o.before) p.bytes o.first.bytes r m.request message brings m.brought in
    let eid : k.eid ≡ m.eid = ap (λ x. x.eid) m.made in
    record {
      before = o.before;
      first = o.first;
      later = o.later;
      place = o.place;
      assigned = ap is_some o.made;
      alike = (same.0 ∙ ap (λ x. x.source) m.made, message);
      within = omega (arith, keeps, moment, same.2);
      answered = copy_message (after e packets) p r k brings copies
          ∙ ap (λ q. Some (answer_message q.id q.command (EndpointIdSet Accepted k.eid))) request
          ∙ ap (λ n. Some (answer_message m.request.id m.request.command (EndpointIdSet Accepted n))) eid
          ∙ sym (first_message (after e o.before) o.first k m);
    }

pub alike : (e : ControlResponder) (packets : List TimedPacket) (p : TimedPacket) → e.kept ≡ [] → is_copy (after e packets) p ≡ true → IsAnsweredAsBefore e packets p
alike e packets p none copy =
    let left : ControlResponder = after e packets in
    let asked : is_some (request_in left p.bytes) ≡ true = grind (arith, copy) in
    let copies : is_some (copied_by left p.moment p.bytes) ≡ true = grind (arith, copy) in
    let one = some_of (request_in left p.bytes) asked in
    let two = some_of (copied_by left p.moment p.bytes) copies in
    let kept = found (HasOrigin e packets) (is_copy_of left.keep p.moment (source_of p.bytes) (message_of p.bytes)) left.kept two.0 (origins e packets none) two.1 in
    let o = kept.0 in
    alike_by e packets p one.0 two.0 one.1 two.1 o
    (made_by (after e o.before) o.first.moment o.first.bytes two.0 o.made)
    (repeats left.keep p.moment (source_of p.bytes) (message_of p.bytes) two.0 kept.1)
