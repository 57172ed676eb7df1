-- What is open after a packet is of requests from other endpoints, and within the bound.
use Rattle.std.specs.FinMap as finite
use Rattle.std.proofs.Common.{◌≡◌, ◌≤◌, ℕ, Bool, true, false, cond, not, ◌&&◌, Option, Some, None, is_some, if◌then◌else◌, refl, sym, ◌∙◌, ap, arith}
use Rattle.std.proofs.lemmas.Grind.{common_steps}
use Rattle.mctp_packet.specs.Packets.{Packet}
use Rattle.mctp_packet.specs.declared.TheConstants.{MAX_PACKETS}
use Rattle.mctp_assembly.specs.Keys.{key_of}
use Rattle.mctp_assembly.specs.Opened.{Opened}
use Rattle.mctp_assembly.specs.Steps.{OpenMessages, after, after_without_ending, answer, answer_to, carried_on, stays_open, unless_whole}
use Rattle.mctp_assembly.specs.declared.fed.Fed.{Fed}
use Rattle.mctp_assembly.specs.declared.fed.Fed.TheVariants.{Whole, Partial, Dropped}
use Rattle.mctp_assembly.specs.declared.key.Key.{Key}
use Rattle.pldm_responder.specs.Ends.{IsAsked, AreAsked}
use Rattle.pldm_responder.specs.OpenOrder.{begins}
use Rattle.pldm_responder.proofs.AskedKeys.{asked_with, asked_without}
use Rattle.pldm_responder.proofs.OpenBounds.{len_after_packet}

-- ---- a packet that begins a message gives Partial, and where its key is not open no other does
begins_by : (start end : Bool) (message dropped : Fed) → (message ≡ Partial → ⊥) → (dropped ≡ Partial → ⊥) → (if start then (if end then message else Partial) else dropped) ≡ Partial → (start && not end) ≡ true
begins_by true true message dropped one other h = absurd (one h)
begins_by true false message dropped one other h = refl
begins_by false end message dropped one other h = absurd (other h)

begins_where : (o : Option Opened) (p : Packet) → is_some o ≡ false → answer_to MAX_PACKETS o p ≡ Partial → begins p ≡ true
begins_where None p none partial = begins_by p.start p.end _ _ (λ h. cc h) (λ h. cc h) partial
begins_where (Some o) p none partial = cc

starts_by : (start end : Bool) → (start && not end) ≡ true → (start ≡ true) × (end ≡ false)
starts_by true false h = (refl, refl)
starts_by true true h = cc
starts_by false end h = cc

partial_by : (o : Option Opened) (p : Packet) → p.start ≡ true → p.end ≡ false → answer_to MAX_PACKETS o p ≡ Partial
partial_by None p start end = grind (arith, common_steps, start, end)
partial_by (Some o) p start end = grind (arith, common_steps, start, end)

pub begins_partial : (held : OpenMessages) (p : Packet) → begins p ≡ true → answer held p ≡ Partial
begins_partial held p begin =
    let is = starts_by p.start p.end begin in partial_by (finite.get held (key_of p)) p is.0 is.1

pub starts : (p : Packet) → begins p ≡ true → p.start ≡ true
starts p begin = (starts_by p.start p.end begin).0

pub goes_on_by : (start end : Bool) → end ≡ true → (start && not end) ≡ false
goes_on_by true true is = refl
goes_on_by false true is = refl
goes_on_by start false is = cc

-- ---- a packet that begins none: where it gives Partial, its key was open
not_begun : (t : Bool) → t ≡ true → t ≡ false → ⊥
not_begun t a b = cc (sym a ∙ b)

asked_by : (own : ℕ) (fed : Fed) (held : OpenMessages) (k : Key) (o : Opened) → (fed ≡ Partial → IsAsked own k) → AreAsked own held
    → AreAsked own (unless_whole fed held (cond (stays_open fed) (finite.insert held k o) (finite.remove held k)))
asked_by own (Whole body) held k o new asked = asked
asked_by own Partial held k o new asked = asked_with own held k o (new refl) asked
asked_by own (Dropped reason) held k o new asked = asked_without own held k asked

was_open : (t : Bool) → (t ≡ false → ⊥) → t ≡ true
was_open true h = refl
was_open false h = absurd (h refl)

pub still_closed : (held : OpenMessages) (p : Packet) → begins p ≡ false → answer held p ≡ Partial → finite.contains_key held (key_of p) ≡ true
still_closed held p goes_on partial =
    was_open (finite.contains_key held (key_of p))
    (λ closed. not_begun (begins p) (begins_where (finite.get held (key_of p)) p closed partial) goes_on)

pub open_going_on : (own bound : ℕ) (held : OpenMessages) (p : Packet) (new : OpenMessages) → AreAsked own held → finite.len held ≤ bound
    → begins p ≡ false → new ≡ after_without_ending held p → AreAsked own new × (finite.len new ≤ bound)
open_going_on own bound held p new asked within goes_on left =
    let closed : answer held p ≡ Partial → finite.contains_key held (key_of p) ≡ false → ⊥ =
    λ partial closed. not_begun (begins p) (begins_where (finite.get held (key_of p)) p closed partial) goes_on in (
      rw left (asked_by own (answer held p) held (key_of p) (carried_on (finite.get held (key_of p)) p)
          (λ partial. asked (key_of p) (was_open (finite.contains_key held (key_of p)) (closed partial))) asked),
      rw left (len_after_packet held p bound within (λ partial shut. absurd (closed partial shut))),
    )

-- ---- a packet that begins one
pub opened_by : (held : OpenMessages) (p : Packet) → begins p ≡ true → after held p ≡ finite.insert held (key_of p) (carried_on (finite.get held (key_of p)) p)
opened_by held p begin =
    ap (λ fed. cond (stays_open fed) (finite.insert held (key_of p) (carried_on (finite.get held (key_of p)) p)) (finite.remove held (key_of p))) (begins_partial held p begin)
