-- A packet of the kept answer is the one that stands in its place.
use Rattle.std.proofs.Common.{◌≡◌, ◌⊎◌, ℕ, ◌<◌, ◌≤◌, Bool, true, false, List, Option, Some, None, slice_get, inl, inr, refl, sym, ap, ◌∙◌}
use Rattle.std.specs.Prelude.{◌↔◌, IsSome, IfSome, option_map}
use Rattle.std.proofs.lemmas.Bool.{cases_lt}
use Rattle.mctp_packet.specs.Packets.{Packet, written}
use Rattle.mctp_packet.specs.Pieces.{packet_at, piece_count, written_packets}
use Rattle.mctp_packet.specs.declared.packet.Route.{Route}
use Rattle.pldm_responder.specs.Answering.{answering}
use Rattle.pldm_responder.specs.declared.outcome.Outcome.{Outcome}
use Rattle.pldm_responder.specs.declared.outcome.MessageOutcome.{MessageOutcome}
use Rattle.pldm_responder.specs.declared.outcome.MessageOutcome.TheVariants.{Answered}
use Rattle.mctp_schedule.specs.Deliveries.{packet_of_outcome}
use Rattle.mctp_schedule.proofs.WrittenPlaces.{packet_past, packet_stands}
use Rattle.mctp_schedule.proofs.delivery.Delivery.answer_packet.Goals as goal

place_is : (outcome : Outcome) (reply : List ℕ) (taken : MessageOutcome) (fresh changed : Bool) (route : Route) (i : ℕ)
    → answering reply taken ≡ outcome → taken ≡ Answered fresh changed route
    → packet_of_outcome outcome i ≡ slice_get (written_packets route reply) i
place_is outcome reply taken fresh changed route i is answered =
    ap (λ o. packet_of_outcome o i) (sym is ∙ ap (answering reply) answered)

not_below : (i n : ℕ) → (i < n → false ≡ true) → n ≤ i
not_below i n none = go (cases_lt i n)
  where
    go : (i < n) ⊎ (n ≤ i) → n ≤ i
    go (inl below) = let wrong = none below in cc
    go (inr past) = past

stands : (route : Route) (reply : List ℕ) (i : ℕ) (packet : Option Packet)
    → (IsSome packet ↔ (i < piece_count reply)) → IfSome packet (λ p. p ≡ packet_at route reply i)
    → option_map written packet ≡ slice_get (written_packets route reply) i
stands route reply i None some value = sym (packet_past route reply i (not_below i (piece_count reply) some.1))
stands route reply i (Some packet) some value = ap Some (ap written value) ∙ sym (packet_stands route reply i (some.0 refl))

pub returns : goal.returns
returns c =
    let reply = c.parts.result.1.now in
    let route = c.in-Answered.route in
    stands route reply c.args.index c.packet_at.result c.packet_at.ensures.some c.packet_at.ensures.value
    ∙ sym (place_is c.args.self.now reply c.parts.result.0.now c.in-Answered.fresh c.in-Answered.changed route c.args.index c.parts.ensures c.in-Answered.is)
