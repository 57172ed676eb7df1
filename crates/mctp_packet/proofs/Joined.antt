-- The pieces of a message, one after another, are the message.
use Rattle.std.proofs.Common.{◌≡◌, ℕ, zero, suc, ◌+◌, ◌-◌, ◌*◌, ◌<◌, List, [], ◌∷◌, ◌++◌, length, map, take, drop, min, refl, sym, ap, zero-add, append-nil, ◌∙◌, arith, add-one, length-drop}
use Rattle.std.specs.List.{flat_map, range_with_len}
use Rattle.std.proofs.Math.Seq.{take-add}
use Rattle.std.proofs.lemmas.Grind.{flat_map-append}
use Rattle.std.proofs.lemmas.List.{length-take, map-append, take_all}
use Rattle.std.proofs.lemmas.List.FromFn.{map-range_with_len_more}
use Rattle.mctp_packet.specs.Packets.{Packet, IsPacket, HasPayloadSize}
use Rattle.mctp_packet.specs.Laws.{IsRoute}
use Rattle.mctp_packet.specs.Pieces.{piece_count, piece, packet_at, packets}
use Rattle.mctp_packet.specs.declared.packet.Route.{Route}
use Rattle.mctp_packet.specs.declared.TheConstants.{BASELINE_UNIT}

-- a piece has its bytes, up to a unit of them
length-piece : (message : List ℕ) (i : ℕ) → length (piece message i) ≡ min BASELINE_UNIT (length message - BASELINE_UNIT * i)
length-piece message i = length-take BASELINE_UNIT (drop (BASELINE_UNIT * i) message) ∙ ap (min BASELINE_UNIT) (length-drop (BASELINE_UNIT * i) message)

pub piece_size : (message : List ℕ) (i : ℕ) → i < piece_count message → HasPayloadSize (piece message i)
piece_size message i h = (omega (arith, length-piece message i), omega (arith, length-piece message i))

pub piece_is_full : (message : List ℕ) (i : ℕ) → i + 1 < piece_count message → length (piece message i) ≡ BASELINE_UNIT
piece_is_full message i h = omega (arith, length-piece message i)

pub each_is_packet : (route : Route) (message : List ℕ) (i : ℕ) → IsRoute route → i < piece_count message → IsPacket (packet_at route message i)
each_is_packet route message i in_range h = record {
  destination = in_range.0;
  source = in_range.1;
  tag = in_range.2;
  seq = omega arith;
  payload = piece_size message i h;
}

abbrev payload_of : Packet → List ℕ
payload_of p = p.payload

-- the first n packets carry the front of the message
joined_front : (route : Route) (message : List ℕ) (n : ℕ) → flat_map payload_of (map (packet_at route message) (range_with_len 0 n)) ≡ take (BASELINE_UNIT * n) message
joined_front route message zero = refl
joined_front route message (suc n) =
    let f = packet_at route message in
    let more = map-range_with_len_more f 0 n n (zero-add n) in
    let size : BASELINE_UNIT * n + BASELINE_UNIT ≡ BASELINE_UNIT * suc n = omega arith in
    ap (λ k. flat_map payload_of (map f (range_with_len 0 k))) (sym (add-one n))
    ∙ ap (flat_map payload_of) more
    ∙ flat_map-append payload_of (map f (range_with_len 0 n)) (f n ∷ [])
    ∙ ap (λ front. front ++ (piece message n ++ [])) (joined_front route message n)
    ∙ ap (λ last. take (BASELINE_UNIT * n) message ++ last) (append-nil (piece message n))
    ∙ sym (take-add (BASELINE_UNIT * n) BASELINE_UNIT message)
    ∙ ap (λ k. take k message) size

pub packets_join : (route : Route) (message : List ℕ) → flat_map payload_of (packets route message) ≡ message
packets_join route message =
    joined_front route message (piece_count message) ∙ take_all (BASELINE_UNIT * piece_count message) message (omega arith)

-- one item more, and one place more
pub map_more : {A B : Type 0} (g : A → B) (f : ℕ → B) (old new : List A) (x : A) (i : ℕ) → map g old ≡ map f (range_with_len 0 i) → new ≡ old ++ x ∷ [] → g x ≡ f i → map g new ≡ map f (range_with_len 0 (i + 1))
map_more g f old new x i so_far e here =
    ap (map g) e
    ∙ map-append g old (x ∷ [])
    ∙ ap (λ front. front ++ g x ∷ []) so_far
    ∙ ap (λ last. map f (range_with_len 0 i) ++ last ∷ []) here
    ∙ sym (map-range_with_len_more f 0 i i (zero-add i))
