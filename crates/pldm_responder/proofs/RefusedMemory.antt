-- Where memory was refused for a packet, it needed memory, and all is as before.
use Rattle.std.proofs.Common.{◌≡◌, ℕ, Bool, true, List, [], None, Result, Ok, Err, refl, sym, ap, subst}
use Rattle.mctp_packet.specs.Packets.{Packet}
use Rattle.mctp_packet.specs.declared.reason.Reason.{Reason}
use Rattle.mctp_assembly.specs.Steps as assembly
use Rattle.pldm_wire.specs.declared.command.Command.{Command}
use Rattle.pldm_responder.specs.Arrivals.{Arrival, Drop, Part, Whole, passed_arrival, request_packet}
use Rattle.pldm_responder.specs.Ends.{End, IsSameEnd, held_by, held_over}
use Rattle.pldm_responder.specs.Events.{Message}
use Rattle.pldm_responder.specs.ResponderStates.{ResponderState, IsHeld}
use Rattle.pldm_responder.specs.Looking.{message_at}
use Rattle.pldm_responder.specs.Needs.{ArrivalNeeds, KeepsNone, NeedsMemory, PassedNeeds}
use Rattle.pldm_responder.specs.Receiving.{IsRefusedMemory}
use Rattle.pldm_responder.specs.Requested.{Requested}
use Rattle.pldm_responder.specs.Rooms.{ArrivalLacksRow}
use Rattle.pldm_responder.specs.Serving.{IsNotServed}
use Rattle.pldm_responder.specs.Slots.{Rows, answers_in, kept_in, row_of}
use Rattle.pldm_responder.specs.ResponderViews.{ResponderView, held_of}
use Rattle.pldm_responder.specs.Steps.{performs, received_arrival}

-- ---- what needs memory over a steady platform does over any
arrival_needs : {S : Type 0} (held : ResponderState S) (steady start : Bool) (a : Arrival) → ArrivalNeeds held true start a → ArrivalNeeds held steady start a
arrival_needs held steady start (Drop reason) needs = needs
arrival_needs held steady start Part needs = needs
arrival_needs held steady start (Whole m) needs = (needs.0, λ is. needs.1 refl)

passed_needs : {S : Type 0} (held : ResponderState S) (steady : Bool) (moment : ℕ) (read : Result Packet Reason) → PassedNeeds held true moment read → PassedNeeds held steady moment read
passed_needs held steady moment (Ok p) needs = arrival_needs held steady p.start (passed_arrival (assembly.answer held.open_messages) moment (Ok p)) needs
passed_needs held steady moment (Err reason) needs = needs

-- ---- a fresh request whose source has no row
pub whole_needs : {S : Type 0} (held : ResponderState S) (steady : Bool) (moment : ℕ) (read : Result Packet Reason) (m : Message)
    → Whole m ≡ passed_arrival (assembly.answer held.open_messages) moment read → performs held m ≡ true → (steady ≡ true → KeepsNone held steady m.source)
    → PassedNeeds held steady moment read
whole_needs held steady moment (Ok p) m is fresh none = subst (ArrivalNeeds held steady p.start) is (fresh, none)
whole_needs held steady moment (Err reason) m is fresh none = cc

-- ---- what is held by the same end
pub same_end_holds : {S : Type 0} (state state1 : S) (new old : End) → IsSameEnd new old → state1 ≡ state → IsHeld (held_over state1 new) (held_over state old)
same_end_holds state state1 new old same is = record {
  own = ap (λ (e : End). e.own) same.same;
  busy = ap (λ (e : End). e.busy) same.same;
  window = same.rows.window;
  keep = ap (λ (e : End). e.keep) same.same;
  open_messages = ap (λ (e : End). e.open_messages) same.same;
  kept = λ source. ap answers_in (same.rows.rows source);
  state = is;
  serves_from = ap (λ (e : End). e.serves_from) same.same;
  last = ap (λ (e : End). e.last) same.same;
}

no_row_keeps_none : (rows : Rows) (source : ℕ) → row_of rows source ≡ None → kept_in rows source ≡ []
no_row_keeps_none rows source none = ap answers_in none

module _ {P S : Type 0} (performing : P → List Command → P → Type 0) (before old : ResponderView P S) (moment : ℕ) (bytes : List ℕ) (steady : Bool) (view : before ≡ old) where
  -- a part of a message for which there is no room
  part_before : received_arrival (held_by before.end) moment bytes ≡ Part → NeedsMemory (held_by before.end) true moment bytes
      → performing before.platform [] before.platform → IsRefusedMemory performing before moment bytes before steady
  part_before part needs none = record {
    needs = passed_needs (held_of before) steady moment (request_packet before.end.own bytes) needs;
    lacks_row = λ is. subst (ArrivalLacksRow before.end.rows) (sym part) tt;
    held = record { own = refl; busy = refl; window = refl; keep = refl; open_messages = refl; kept = λ source. refl; state = refl; serves_from = refl; last = refl };
    none_performed = none;
    room = record { window = refl; rows = λ source. refl; sources = refl };
    bounds = refl;
  }

  pub refused_part : (new : ResponderView P S) → received_arrival (held_by before.end) moment bytes ≡ Part → NeedsMemory (held_by before.end) true moment bytes → new ≡ before
      → performing before.platform [] before.platform → IsRefusedMemory performing old moment bytes new steady
  refused_part new part needs same none =
      subst (λ s. IsRefusedMemory performing s moment bytes new steady) view
      (subst (λ s. IsRefusedMemory performing before moment bytes s steady) (sym same) (part_before part needs none))

  -- a fresh request for which there is none
  request_before : (new : ResponderView P S) (r : Requested) → Whole (message_at moment r) ≡ received_arrival (held_by before.end) moment bytes
      → IsNotServed performing before moment r new steady → IsRefusedMemory performing before moment bytes new steady
  request_before new r is refused = record {
    needs = whole_needs (held_of before) steady moment (request_packet before.end.own bytes) (message_at moment r) is refused.fresh (λ s. no_row_keeps_none before.end.rows r.source (refused.not_performed.lacks_row s));
    lacks_row = λ s. subst (ArrivalLacksRow before.end.rows) is (refused.not_performed.lacks_row s);
    held = same_end_holds before.state new.state new.end before.end refused.not_performed.same refused.not_performed.state;
    none_performed = refused.not_performed.none_performed;
    room = refused.not_performed.same.rows;
    bounds = ap (λ (e : End). e.bounds) refused.not_performed.same.same;
  }

  pub refused_request : (taken new : ResponderView P S) (r : Requested) → taken ≡ before → Whole (message_at moment r) ≡ received_arrival (held_by before.end) moment bytes
      → IsNotServed performing taken moment r new steady → IsRefusedMemory performing old moment bytes new steady
  refused_request taken new r same is refused =
      subst (λ s. IsRefusedMemory performing s moment bytes new steady) view
      (request_before new r is (subst (λ s. IsNotServed performing s moment r new steady) same refused))
