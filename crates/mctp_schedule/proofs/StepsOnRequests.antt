-- What one more call of a requester leaves of the requests of the log: it keeps all but the one that a packet comes to.
use Rattle.std.proofs.Common.{◌≡◌, ◌≢◌, ℕ, ◌+◌, ◌≤◌, List, ◌∷◌, Some, Bool, true, false, Ok, refl, sym, ap, ◌∙◌, subst, inl, inr, ⊎_elim, arith, eq-eqb}
use Rattle.std.specs.Prelude.{◌==◌, if◌then◌else◌}
use Rattle.std.proofs.lemmas.Bool.{and_parts, ne_eqb, cases_Bool, cases_eq, cond-true, cond-false}
use Rattle.mctp_packet.specs.Packets.{Packet}
use Rattle.mctp_packet.specs.Reading.{reading}
use Rattle.mctp_packet.specs.declared.TheConstants.{TAGS}
use Rattle.pldm_requester.specs.Asks.{Ask}
use Rattle.pldm_requester.specs.Arrivals.{Arrival}
use Rattle.pldm_requester.specs.Calls.{Call, OpenRequest, Tick, Receive, Request, Requests, accepts, after_call, arrived, is_from_device, is_open_at, request_with, opened_for, requests}
use Rattle.pldm_requester.specs.Courses.{Course, Progress, Waiting, Answered, GaveUp, given_up, is_given_up, is_open, is_over, is_sent_again, is_waiting as waits, sent_again, ticked}
use Rattle.pldm_requester.specs.Laws.{FoundOnItsTag}
use Rattle.pldm_requester.specs.Numbering.{tag_of}
use Rattle.pldm_requester.specs.declared.timing.Timing.{Timing}
use Rattle.mctp_schedule.specs.Logs.{Asked, Happening, endpoint_of}
use Rattle.mctp_schedule.specs.Worlds.{BothEnds, World, requests_of, timing_of, with_call}
use Rattle.mctp_schedule.proofs.AnswerPacketsAtRequester.{IsOf, Moved, nothing_moves, one_moves, put_here, put_other, with_arrival}
use Rattle.mctp_schedule.proofs.KnownRequests.{Known}
use Rattle.mctp_schedule.proofs.UntouchedRequests.{Kept, same_kept}

pub waits_so : (x : Progress) → waits x ≡ true → x ≡ Waiting
waits_so Waiting e = refl
waits_so (Answered message) e = cc
waits_so GaveUp e = cc

-- a tick keeps a request, or gives it up where it was open
ticked_kept : (timing : Timing) (moment : ℕ) (x y : Request) → y.fed ≡ x.fed → y.course ≡ ticked timing moment x.course → Kept x y
ticked_kept timing moment x y fed course = go (is_given_up timing moment x.course) refl (is_sent_again timing moment x.course) refl
  where
    go : (b : Bool) → is_given_up timing moment x.course ≡ b → (c : Bool) → is_sent_again timing moment x.course ≡ c → Kept x y
    go true up c e =
        let opens = (and_parts (is_open x.course) (is_over timing moment x.course) up).0 in
        let now : y.course ≡ given_up x.course = course ∙ cond-true (is_given_up timing moment x.course) _ _ up in
        record { fed = fed; progress = inr (waits_so x.course.progress opens, ap (λ (c : Course). c.progress) now) }
    go false stays true again =
        let now : y.course ≡ sent_again moment x.course = course ∙ cond-false (is_given_up timing moment x.course) _ _ stays ∙ cond-true (is_sent_again timing moment x.course) _ _ again in
        record { fed = fed; progress = inl (ap (λ (c : Course). c.progress) now) }
    go false stays false e =
        let now : y.course ≡ x.course = course ∙ cond-false (is_given_up timing moment x.course) _ _ stays ∙ cond-false (is_sent_again timing moment x.course) _ _ e in
        record { fed = fed; progress = inl (ap (λ (c : Course). c.progress) now) }

module _ {S : Type 0} (setting : BothEnds S) (w : World) (log : List Happening) where
  abbrev at : ℕ → List Call → Requests
  at d calls = requests (endpoint_of d) setting.eid (timing_of setting d) setting.pace calls

  abbrev pub called : ℕ → Call → World
  called e call = record { calls = with_call w.calls e call; log = log }

  pub called_here : (e : ℕ) (call : Call) → requests_of setting (called e call) e ≡ after_call (endpoint_of e) setting.eid (timing_of setting e) setting.pace (requests_of setting w e) call
  called_here e call = ap (at e) (cond-true (e == e) (call ∷ w.calls e) (w.calls e) (eq-eqb e e refl))

  pub called_other : (e : ℕ) (call : Call) (d : ℕ) → d ≢ e → requests_of setting (called e call) d ≡ requests_of setting w d
  called_other e call d ne = ap (at d) (cond-false (d == e) (call ∷ w.calls d) (w.calls d) (ne_eqb d e ne))

  -- an open
  pub open_keeps : (moment e : ℕ) (ask : Ask) (r : Asked) → Known setting w r → Kept ((requests_of setting w r.source).each r.own) ((requests_of setting (called e (OpenRequest moment ask)) r.source).each r.own)
  open_keeps moment e ask r known = go (r.source == e)
    where
      a : Requests
      a = requests_of setting w r.source

      accepted : (b : Bool) → Kept (a.each r.own) ((if b then opened_for a moment ask else a).each r.own)
      accepted true = same_kept (a.each r.own) _ (put_other a.each a.count (request_with moment ask) r.own (λ e. let below = known.within in absurd (omega (arith, e, below))))
      accepted false = same_kept (a.each r.own) (a.each r.own) refl

      go : (b : Bool) → Kept (a.each r.own) ((at r.source (if b then OpenRequest moment ask ∷ w.calls r.source else w.calls r.source)).each r.own)
      go true = accepted (accepts (timing_of setting r.source).keep setting.pace a moment)
      go false = same_kept (a.each r.own) (a.each r.own) refl

  pub opens_new : (moment e : ℕ) (ask : Ask) → accepts (timing_of setting e).keep setting.pace (requests_of setting w e) moment ≡ true → (requests_of setting (called e (OpenRequest moment ask)) e).each (requests_of setting w e).count ≡ request_with moment ask
  opens_new moment e ask ok =
      let a = requests_of setting w e in
      ap (λ (b : Requests). b.each a.count) (called_here e (OpenRequest moment ask) ∙ cond-true (accepts (timing_of setting e).keep setting.pace a moment) (opened_for a moment ask) a ok)
      ∙ put_here a.each a.count (request_with moment ask) a.count refl

  -- a tick
  pub tick_keeps : (moment e : ℕ) (r : Asked) → Kept ((requests_of setting w r.source).each r.own) ((requests_of setting (called e (Tick moment)) r.source).each r.own)
  tick_keeps moment e r = go (r.source == e)
    where
      a : Requests
      a = requests_of setting w r.source

      go : (b : Bool) → Kept (a.each r.own) ((at r.source (if b then Tick moment ∷ w.calls r.source else w.calls r.source)).each r.own)
      go true = ticked_kept (timing_of setting r.source) moment (a.each r.own) _ refl refl
      go false = same_kept (a.each r.own) (a.each r.own) refl

  -- ---- a packet on the way of the answers to request q, whose tag was not used again; it brings this where q is open
  module _ (found : FoundOnItsTag) (q : Asked) (moment : ℕ) (known : Known setting w q) (near : (requests_of setting w q.source).count ≤ q.own + TAGS) (p : Packet) (bytes : List ℕ) (reads : reading (Some (endpoint_of q.source)) bytes ≡ Ok p) (from : is_from_device setting.eid p ≡ true) (tag : p.route.tag ≡ tag_of q.own) (arrival : Arrival) (own : IsOf q.own arrival) (brings : is_open_at (requests_of setting w q.source) q.own ≡ true → arrived (endpoint_of q.source) setting.eid (timing_of setting q.source) (requests_of setting w q.source) bytes ≡ arrival) where
    abbrev then_at : World
    then_at = called q.source (Receive moment bytes)

    abbrev before : Requests
    before = requests_of setting w q.source

    abbrev timing : Timing
    timing = timing_of setting q.source

    moves : is_open_at before q.own ≡ true → Moved before (requests_of setting then_at q.source) q.own (with_arrival (before.each q.own) p arrival)
    moves opens =
        subst (λ (b : Requests). Moved before b q.own (with_arrival (before.each q.own) p arrival)) (sym (called_here q.source (Receive moment bytes)))
        (one_moves (endpoint_of q.source) setting.eid timing setting.pace (w.calls q.source) found q.own known.within near p bytes reads from tag opens arrival own (brings opens))

    rests : is_open_at before q.own ≡ false → requests_of setting then_at q.source ≡ before
    rests shut = called_here q.source (Receive moment bytes) ∙ nothing_moves (endpoint_of q.source) setting.eid timing setting.pace (w.calls q.source) found q.own known.within near p bytes reads from tag shut

    pub comes_to_it : is_open_at before q.own ≡ true → (requests_of setting then_at q.source).each q.own ≡ with_arrival (before.each q.own) p arrival
    comes_to_it opens = (moves opens).here

    pub comes_to_none : is_open_at before q.own ≡ false → (requests_of setting then_at q.source).each q.own ≡ before.each q.own
    comes_to_none shut = ap (λ (b : Requests). b.each q.own) (rests shut)

    pub others_rest : (r : Asked) → (r.source ≡ q.source → r.own ≡ q.own → ⊥) → (requests_of setting then_at r.source).each r.own ≡ (requests_of setting w r.source).each r.own
    others_rest r other =
        ⊎_elim
        (λ (s : r.source ≡ q.source). subst (λ d. (requests_of setting then_at d).each r.own ≡ (requests_of setting w d).each r.own) (sym s) (beside (other s)))
        (λ (ne : r.source ≡ q.source → ⊥). ap (λ (b : Requests). b.each r.own) (called_other q.source (Receive moment bytes) r.source ne))
        (cases_eq r.source q.source)
      where
        beside : (r.own ≡ q.own → ⊥) → (requests_of setting then_at q.source).each r.own ≡ before.each r.own
        beside ne =
            ⊎_elim
            (λ (opens : is_open_at before q.own ≡ true). (moves opens).others r.own ne)
            (λ (shut : is_open_at before q.own ≡ false). ap (λ (b : Requests). b.each r.own) (rests shut))
            (cases_Bool (is_open_at before q.own))
