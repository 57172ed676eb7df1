-- What came to an open request are the packets of its tag that came to assembly since its opening.
use Rattle.std.proofs.Common.{◌≡◌, ◌⊎◌, ℕ, ◌+◌, ◌<◌, ◌≤◌, Bool, true, false, cond, List, [], ◌∷◌, Option, Some, None, Result, Ok, Err, refl, sym, ap, ◌∙◌, inl, inr, arith, eqb-true}
use Rattle.std.specs.Prelude.{◌==◌, not, is_some}
use Rattle.std.specs.Ordering.{eq_by_cmp}
use Rattle.std.proofs.lemmas.Bool.{and_parts, not-true, cases_Bool, cases_eq, cond-true, cond-false}
use Rattle.mctp_packet.specs.Packets.{Packet}
use Rattle.mctp_packet.specs.Passing.{passed as where_expected}
use Rattle.mctp_packet.specs.Reading.{reading}
use Rattle.mctp_packet.specs.declared.reason.Reason.{Reason}
use Rattle.mctp_packet.specs.declared.reason.Reason.TheVariants.{BadTag}
use Rattle.mctp_assembly.specs.Histories as assembly
use Rattle.mctp_assembly.specs.Keys.{key_cmp, key_of}
use Rattle.mctp_assembly.specs.declared.key.Key.{Key}
use Rattle.pldm_requester.specs.Asks.{Ask}
use Rattle.pldm_requester.specs.Arrivals.{passed_arrival}
use Rattle.pldm_requester.specs.Calls.{Call, OpenRequest, Tick, Receive, Request, Requests, request_with, put, opened_for, is_open_at, accepts, open_on, answer_key, is_from_device, goes_to, passed, gives, is_mine, fed_to, fed_by, after_call, requests, with_packet, assembled}
use Rattle.pldm_requester.specs.Courses.{is_open}
use Rattle.pldm_requester.specs.Laws.{FedSinceItsOpening, BeginsWithNone}
use Rattle.pldm_requester.specs.Numbering.{tag_of}
use Rattle.pldm_requester.specs.declared.pace.Pace.{Pace}
use Rattle.pldm_requester.specs.declared.timing.Timing.{Timing}
use Rattle.pldm_requester.proofs.KeyOrder.{same_key, other_key}
use Rattle.pldm_requester.proofs.OpenRequests.{put_here, put_other, shut_stays, Recent, within, recent, recent_opened, accepted_tag, answered_fed, came_by, came_by_shut}
use Rattle.pldm_requester.proofs.TagSearch.{open_on_some}

-- ---- a packet that passed
pub expected : (test : Packet → Bool) (read : Result Packet Reason) (p : Packet) → where_expected test read ≡ Ok p → (test p ≡ true) × (read ≡ Ok p)
expected test (Err reason) p e = absurd (cc)
expected test (Ok q) p e = go (test q) refl e
  where
    here : test q ≡ true → ◌≡◌ {A = Result Packet Reason} (Ok q) (Ok p) → (test p ≡ true) × ◌≡◌ {A = Result Packet Reason} (Ok q) (Ok p)
    here t same = let is : q ≡ p = cc in (ap test (sym is) ∙ t, same)

    go : (b : Bool) → test q ≡ b → ◌≡◌ {A = Result Packet Reason} (cond b (Ok q) (Err BadTag)) (Ok p) → (test p ≡ true) × ◌≡◌ {A = Result Packet Reason} (Ok q) (Ok p)
    go true t e = here t e
    go false t e = absurd (cc)

some_is : (o : Option ℕ) → is_some o ≡ true → (n : ℕ) × (o ≡ Some n)
some_is None e = absurd (cc)
some_is (Some n) e = (n, refl)

-- it comes to an open request with its tag
pub record ComesTo (own device : ℕ) (timing : Timing) (a : Requests) (p : Packet) (n : ℕ) : Type 0 where
  pub is_open : is_open_at a n ≡ true
  pub key : key_of p ≡ answer_key device (tag_of n)

key_is : (device : ℕ) (p : Packet) (tag : ℕ) → is_from_device device p ≡ true → tag ≡ p.route.tag → key_of p ≡ answer_key device tag
key_is device p tag from same =
    let parts = and_parts (not p.route.owner) (p.route.source == device) from in
    let source = eqb-true p.route.source device parts.1 in
    let owner = not-true p.route.owner parts.0 in
    λ i. record { source = source i; tag = sym same i; owner = owner i }

pub comes_to : (own device : ℕ) (timing : Timing) (a : Requests) (p : Packet) (n : ℕ) → goes_to own device timing a p ≡ Some n → ComesTo own device timing a p n
comes_to own device timing a p n e = go (is_from_device device p) refl e
  where
    there : is_from_device device p ≡ true → open_on (is_open_at a) a.count p.route.tag ≡ Some n → ComesTo own device timing a p n
    there from e = let f = open_on_some (is_open_at a) a.count p.route.tag n e in record { is_open = f.0; key = key_is device p (tag_of n) from f.1 }

    go : (b : Bool) → is_from_device device p ≡ b → cond b (open_on (is_open_at a) a.count p.route.tag) None ≡ Some n → ComesTo own device timing a p n
    go true from e = there from e
    go false from e = absurd (cc)

pub goes_where : (own device : ℕ) (timing : Timing) (a : Requests) (bytes : List ℕ) (p : Packet) → passed own device timing a bytes ≡ Ok p → (n : ℕ) × (goes_to own device timing a p ≡ Some n)
goes_where own device timing a bytes p e =
    some_is (goes_to own device timing a p) (expected (λ q. is_some (goes_to own device timing a q)) (reading (Some own) bytes) p e).0

-- ---- the packets of a tag
since_fed_here : (key : Key) (p : Packet) (calls : List assembly.Call) (device tag : ℕ) → key ≡ answer_key device tag → key_of p ≡ answer_key device tag → assembly.since key (assembly.feed p ∷ calls) ≡ p ∷ assembly.since key calls
since_fed_here key p calls device tag e f =
    cond-true (eq_by_cmp key_cmp key (key_of p)) _ _ (ap (eq_by_cmp key_cmp key) f ∙ ap (λ k. eq_by_cmp key_cmp k (answer_key device tag)) e ∙ same_key device tag)

since_fed_other : (p : Packet) (calls : List assembly.Call) (device tag other : ℕ) → (tag ≡ other → ⊥) → key_of p ≡ answer_key device other
    → assembly.since (answer_key device tag) (assembly.feed p ∷ calls) ≡ assembly.since (answer_key device tag) calls
since_fed_other p calls device tag other apart f =
    cond-false (eq_by_cmp key_cmp (answer_key device tag) (key_of p)) _ _ (ap (eq_by_cmp key_cmp (answer_key device tag)) f ∙ other_key device tag other apart)

since_forgotten : (calls : List assembly.Call) (device tag : ℕ) → assembly.since (answer_key device tag) (assembly.forget (answer_key device tag) ∷ calls) ≡ []
since_forgotten calls device tag = cond-true (eq_by_cmp key_cmp (answer_key device tag) (answer_key device tag)) _ _ (same_key device tag)

since_other_forgotten : (calls : List assembly.Call) (device tag other : ℕ) → (tag ≡ other → ⊥) → assembly.since (answer_key device tag) (assembly.forget (answer_key device other) ∷ calls) ≡ assembly.since (answer_key device tag) calls
since_other_forgotten calls device tag other apart =
    cond-false (eq_by_cmp key_cmp (answer_key device tag) (answer_key device other)) _ _ (other_key device tag other apart)

still_open : (a b : Requests) (n : ℕ) → (is_open_at a n ≡ false → is_open_at b n ≡ false) → is_open_at b n ≡ true → is_open_at a n ≡ true
still_open a b n shut now = go (cases_Bool (is_open_at a n))
  where
    go : (is_open_at a n ≡ true) ⊎ (is_open_at a n ≡ false) → is_open_at a n ≡ true
    go (inl e) = e
    go (inr e) = let wrong : true ≡ false = sym now ∙ shut e in absurd (cc)

module _ (own device : ℕ) (timing : Timing) where
  abbrev Fed : Requests → List assembly.Call → Type 0
  Fed a packets = (n : ℕ) → is_open_at a n ≡ true → assembly.since (answer_key device (tag_of n)) packets ≡ (a.each n).fed

  fed_opened : (pace : Pace) (a : Requests) (packets : List assembly.Call) (moment : ℕ) (ask : Ask) → Recent a → accepts timing.keep pace a moment ≡ true → Fed a packets
      → Fed (opened_for a moment ask) (assembly.forget (answer_key device (tag_of a.count)) ∷ packets)
  fed_opened pace a packets moment ask f ok fed n now = go (cases_eq n a.count)
    where
      new : Recent (opened_for a moment ask)
      new = recent_opened a moment ask f (accepted_tag timing.keep pace a moment ok)

      go : (n ≡ a.count) ⊎ (n ≡ a.count → ⊥) → assembly.since (answer_key device (tag_of n)) (assembly.forget (answer_key device (tag_of a.count)) ∷ packets) ≡ (put a.each a.count (request_with moment ask) n).fed
      go (inl same) =
          ap (λ k. assembly.since (answer_key device (tag_of k)) (assembly.forget (answer_key device (tag_of a.count)) ∷ packets)) same
          ∙ since_forgotten packets device (tag_of a.count)
          ∙ sym (ap (λ (r : Request). r.fed) (put_here a.each a.count (request_with moment ask) n same))
      go (inr other) =
          let b = within (opened_for a moment ask) n new now in
          let low : n < a.count = omega (arith, b.0, other) in
          let near : a.count ≤ n + 7 = omega (arith, b.1) in
          since_other_forgotten packets device (tag_of n) (tag_of a.count) (λ e. absurd (omega arith))
          ∙ fed n (sym (ap (λ (r : Request). is_open r.course) (put_other a.each a.count (request_with moment ask) n other)) ∙ now)
          ∙ sym (ap (λ (r : Request). r.fed) (put_other a.each a.count (request_with moment ask) n other))

  fed_came : (a : Requests) (packets : List assembly.Call) (p : Packet) (m : ℕ) → Recent a → goes_to own device timing a p ≡ Some m → Fed a packets
      → (n : ℕ) → is_open_at a n ≡ true → assembly.since (answer_key device (tag_of n)) (assembly.feed p ∷ packets) ≡ ((fed_to own device timing a p (Some m)).each n).fed
  fed_came a packets p m f e fed n now = go (cases_eq n m)
    where
      comes : ComesTo own device timing a p m
      comes = comes_to own device timing a p m e

      go : (n ≡ m) ⊎ (n ≡ m → ⊥) → assembly.since (answer_key device (tag_of n)) (assembly.feed p ∷ packets) ≡ ((fed_to own device timing a p (Some m)).each n).fed
      go (inl same) =
          since_fed_here (answer_key device (tag_of n)) p packets device (tag_of m) (ap (λ k. answer_key device (tag_of k)) same) comes.key
          ∙ ap (λ xs. p ∷ xs) (fed n now ∙ ap (λ k. (a.each k).fed) same)
          ∙ sym (ap (λ (r : Request). r.fed) (put_here a.each m _ n same))
      go (inr other) =
          let b = within a n f now in
          let c = within a m f comes.is_open in
          since_fed_other p packets device (tag_of n) (tag_of m) (λ tags. absurd (other (omega (arith, b.0, b.1, c.0, c.1, tags)))) comes.key
          ∙ fed n now
          ∙ sym (ap (λ (r : Request). r.fed) (put_other a.each m _ n other))

  fed_received : (a : Requests) (packets : List assembly.Call) (read : Result Packet Reason) → Recent a → ((p : Packet) → read ≡ Ok p → (m : ℕ) × (goes_to own device timing a p ≡ Some m)) → Fed a packets
      → Fed (came_by own device timing a read) (with_packet own device timing read packets)
  fed_received a packets (Err reason) f goes fed n now = fed n now
  fed_received a packets (Ok p) f goes fed n now =
      let at = goes p refl in
      let was = still_open a (came_by own device timing a (Ok p)) n (came_by_shut own device timing a (Ok p) n) now in
      fed_came a packets p at.0 f at.1 fed n was
      ∙ sym (ap (λ o. ((fed_to own device timing a p o).each n).fed) at.1)
      ∙ sym (answered_fed own device timing (fed_by own device timing a (Ok p)) (passed_arrival (goes_to own device timing a) (gives own device timing a) (is_mine own device timing a) (Ok p)) n)

module _ (own device : ℕ) (timing : Timing) (pace : Pace) where
  pub fed_since : (calls : List Call) → Fed own device timing (requests own device timing pace calls) (assembled own device timing pace calls)
  fed_since [] = λ n now. absurd (cc)
  fed_since (OpenRequest moment ask ∷ calls) = go (accepts timing.keep pace (requests own device timing pace calls) moment) refl (fed_since calls)
    where
      go : (b : Bool) → accepts timing.keep pace (requests own device timing pace calls) moment ≡ b → Fed own device timing (requests own device timing pace calls) (assembled own device timing pace calls)
          → Fed own device timing (cond b (opened_for (requests own device timing pace calls) moment ask) (requests own device timing pace calls)) (cond b (assembly.forget (answer_key device (tag_of (requests own device timing pace calls).count)) ∷ assembled own device timing pace calls) (assembled own device timing pace calls))
      go true ok fed = fed_opened own device timing pace (requests own device timing pace calls) (assembled own device timing pace calls) moment ask (recent own device timing pace calls) ok fed
      go false ok fed = fed
  fed_since (Tick moment ∷ calls) =
      let a = requests own device timing pace calls in
      λ n now. fed_since calls n (still_open a (after_call own device timing pace a (Tick moment)) n (λ shut. ap is_open (shut_stays timing moment (a.each n).course shut) ∙ shut) now)
  fed_since (Receive moment bytes ∷ calls) =
      let a = requests own device timing pace calls in
      fed_received own device timing a (assembled own device timing pace calls) (passed own device timing a bytes) (recent own device timing pace calls) (λ p e. goes_where own device timing a bytes p e) (fed_since calls)

pub fed_since_its_opening : FedSinceItsOpening
fed_since_its_opening own device timing pace calls number now = fed_since own device timing pace calls number now

pub begins_with_none : BeginsWithNone
begins_with_none own device timing pace calls moment ask ok =
    let tag = tag_of (requests own device timing pace calls).count in
    ap (assembly.since (answer_key device tag)) (cond-true (accepts timing.keep pace (requests own device timing pace calls) moment) _ _ ok)
    ∙ since_forgotten (assembled own device timing pace calls) device tag
