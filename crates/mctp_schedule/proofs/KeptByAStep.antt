-- What a step leaves of what a run holds.
use Rattle.std.proofs.Common.{◌≡◌, ℕ, ◌≤◌, List, [], ◌∷◌, ◌++◌, length, Option, Some, None, refl, sym, ap, subst, ◌∙◌, arith, eq-eqb, length-append}
use Rattle.std.specs.Prelude.{◌==◌, option_and_then, option_map, slice_get}
use Rattle.std.proofs.lemmas.Bool.{cond-true, cond-false, ne_eqb}
use Rattle.pldm_responder.specs.ResponderViews as responder_stations
use Rattle.pldm_responder.specs.declared.outcome.Outcome.{Outcome}
use Rattle.pldm_requester.specs.Calls as requester
use Rattle.pldm_requester.specs.Calls.{requests}
use Rattle.pldm_requester.specs.Laws.{IsLeftBy}
use Rattle.pldm_requester.specs.Slots.{held_of}
use Rattle.mctp_schedule.specs.Askers.{Side}
use Rattle.mctp_schedule.specs.Entries.{numbers_of}
use Rattle.mctp_schedule.specs.Deliveries.{packets_of_outcome}
use Rattle.mctp_schedule.specs.EntryColumns.{outcomes_in, outcomes_in_entry}
use Rattle.mctp_schedule.specs.FirstArrivals.{has_arrived}
use Rattle.mctp_schedule.specs.Journals.{Carried, packets_in}
use Rattle.mctp_schedule.specs.Logs.{Asked, asked_at, endpoint_of}
use Rattle.mctp_schedule.specs.OncePerformed.{given, was_busy}
use Rattle.mctp_schedule.specs.Running.{IsBefore, IsCarried, IsDevice, IsOpened, IsSide, busy_packets}
use Rattle.mctp_schedule.specs.Worlds.{BothEnds, World, answer_packets, requests_of, timing_of, with_call}
use Rattle.mctp_schedule.specs.declared.entry.Entry.{Entry}
use Rattle.mctp_schedule.proofs.EntriesSpelled.{column_more}
use Rattle.mctp_schedule.proofs.ListPlaces.{get_before}

-- ---- one more call of a requester
pub call_here : (calls : ℕ → List requester.Call) (e : ℕ) (call : requester.Call) → with_call calls e call e ≡ call ∷ calls e
call_here calls e call = cond-true (e == e) (call ∷ calls e) (calls e) (eq-eqb e e refl)

pub call_other : (calls : ℕ → List requester.Call) (e : ℕ) (call : requester.Call) (d : ℕ) → (d ≡ e → ⊥) → with_call calls e call d ≡ calls d
call_other calls e call d other = cond-false (d == e) (call ∷ calls d) (calls d) (ne_eqb d e other)

-- ---- deliveries that stand are not moved by one more entry
pub packets_stay : (entries : List Entry) (x : Entry) (place : Option ℕ) → IsBefore (length (outcomes_in entries)) place → packets_in (entries ++ x ∷ []) place ≡ packets_in entries place
packets_stay entries x None within = refl
packets_stay entries x (Some i) within =
    ap (option_and_then packets_of_outcome) (ap (λ os. slice_get os i) (column_more outcomes_in_entry entries x) ∙ get_before (outcomes_in entries) (outcomes_in_entry x) i within)

pub before_more : (entries : List Entry) (x : Entry) (place : Option ℕ) → IsBefore (length (outcomes_in entries)) place → IsBefore (length (outcomes_in (entries ++ x ∷ []))) place
before_more entries x None within = tt
before_more entries x (Some i) within =
    let l = ap (λ (os : List Outcome). length os) (column_more outcomes_in_entry entries x) ∙ length-append (outcomes_in entries) (outcomes_in_entry x) in
    omega (arith, within, l)

module _ {S : Type 0} (setting : BothEnds S) where
  pub still_opened : (w v : World) (k : ℕ) (r : Asked) → (requests_of setting w r.source).count ≤ (requests_of setting v r.source).count
      → (slice_get (numbers_of w.log r.source) r.own ≡ Some k → slice_get (numbers_of v.log r.source) r.own ≡ Some k) → IsOpened setting w k r → IsOpened setting v k r
  still_opened w v k r grows stays o = record {
    source = o.source;
    within = let x = o.within in omega (arith, x, grows);
    number = stays o.number;
    readable = o.readable;
    some = o.some;
    few = o.few;
  }

  pub still_side : (w v : World) (now moment e : ℕ) (side : Side) → v.calls e ≡ w.calls e → numbers_of v.log e ≡ numbers_of w.log e → ((k : ℕ) (r : Asked) → asked_at w.log k ≡ Some r → asked_at v.log k ≡ Some r) → now ≤ moment
      → IsSide setting w now e side → IsSide setting v moment e side
  still_side w v now moment e side calls numbers asked later s = record {
    endpoint = s.endpoint;
    other = s.other;
    left = subst (IsLeftBy (endpoint_of e) setting.eid (timing_of setting e) setting.pace (held_of side.station)) (sym calls) s.left;
    numbers = s.numbers ∙ sym numbers;
    counted = ap (λ (xs : List ℕ). length xs) numbers ∙ s.counted ∙ ap (λ cs. (requests (endpoint_of e) setting.eid (timing_of setting e) setting.pace cs).count) (sym calls);
    numbered = λ own k here.
        let q = s.numbered own k (sym (ap (λ xs. slice_get xs own) numbers) ∙ here) in
        (q.0, asked k q.0 q.1, q.2, q.3);
    called = let x = s.called in omega (arith, x, later);
  }

  pub still_carried : (w v : World) (entries : List Entry) (x : Entry) (k : ℕ) (r : Asked) (c : Carried) → given setting.device setting.window setting.keep setting.start v.log k ≡ given setting.device setting.window setting.keep setting.start w.log k
      → was_busy S setting.keep v.log k ≡ was_busy S setting.keep w.log k → has_arrived S setting.keep v.log k ≡ has_arrived S setting.keep w.log k → IsCarried setting w entries k r c → IsCarried setting v (entries ++ x ∷ []) k r c
  still_carried w v entries x k r c gives busy came s = record {
    packet = s.packet;
    reply = packets_stay entries x c.reply s.reply_place ∙ s.reply ∙ ap (option_map (answer_packets setting.eid r)) (sym gives);
    busy = packets_stay entries x c.busy s.busy_place ∙ s.busy ∙ ap (busy_packets setting.eid r) (sym busy);
    arrived = s.arrived ∙ sym came;
    reply_place = before_more entries x c.reply s.reply_place;
    busy_place = before_more entries x c.busy s.busy_place;
  }

  pub still_device : {P : Type 0} (w v : World) (now moment : ℕ) (station : responder_stations.ResponderView P S) → v.log ≡ w.log → now ≤ moment → IsDevice setting w now station → IsDevice setting v moment station
  still_device w v now moment station same later d =
      subst (λ log. IsDevice setting (record { calls = v.calls; log = log }) moment station) (sym same)
      (record { endpoint = d.endpoint; left = d.left; events = d.events; called = let x = d.called in omega (arith, x, later) })
