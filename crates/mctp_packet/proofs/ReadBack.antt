-- What a message was split into reads back, packet by packet.
use Rattle.std.proofs.Common.{◌≡◌, ℕ, ◌<◌, List, [], ◌∷◌, map, slice_get, Some, refl, sym, ap, ◌∙◌, arith, zero-add}
use Rattle.std.specs.List.{range_with_len}
use Rattle.std.proofs.lemmas.List.{length-map}
use Rattle.std.proofs.lemmas.List.FromFn.{get_or-map-range_with_len, length-range_with_len}
use Rattle.std.proofs.lemmas.Option.{slice_get_within, get_or_from_slice_get}
use Rattle.mctp_packet.specs.Packets.{Packet, Spells, written}
use Rattle.mctp_packet.specs.Laws.{SpelledIsRead, SpelledIsReadFor, SplitsToWritten, SplitsReadBack}
use Rattle.mctp_packet.specs.Pieces.{piece_count, packet_at, written_packets}
use Rattle.mctp_packet.specs.declared.packet.Route.{Route}
use Rattle.mctp_packet.proofs.Joined.{each_is_packet}

map_written : (f : ℕ → Packet) (ns : List ℕ) → map (λ i. written (f i)) ns ≡ map written (map f ns)
map_written f [] = refl
map_written f (n ∷ ns) = ap (λ rest. written (f n) ∷ rest) (map_written f ns)

pub written_are_packets : SplitsToWritten
written_are_packets route message = map_written (packet_at route message) (range_with_len 0 (piece_count message))

-- there is a packet i only below the count of pieces
below_count : (route : Route) (message : List ℕ) (i : ℕ) (bytes : List ℕ) → slice_get (written_packets route message) i ≡ Some bytes → i < piece_count message
below_count route message i bytes here =
    let f : ℕ → List ℕ = λ k. written (packet_at route message k) in
    let n = piece_count message in
    omega (arith, slice_get_within (written_packets route message) i bytes here, length-map (range_with_len 0 n) f, length-range_with_len 0 n)

-- and its bytes are its spelling
bytes_at : (route : Route) (message : List ℕ) (i : ℕ) (bytes : List ℕ) → slice_get (written_packets route message) i ≡ Some bytes → bytes ≡ written (packet_at route message i)
bytes_at route message i bytes here =
    let f : ℕ → List ℕ = λ k. written (packet_at route message k) in
    sym (get_or_from_slice_get (written_packets route message) i bytes bytes here)
    ∙ get_or-map-range_with_len f 0 (piece_count message) i i bytes (below_count route message i bytes here) (zero-add i)

pub split_reads_back : SpelledIsRead → SpelledIsReadFor → SplitsReadBack
split_reads_back read read_for route message i bytes in_range here =
    let p = packet_at route message i in
    let spelled : Spells p bytes = record {
      parts = each_is_packet route message i in_range (below_count route message i bytes here);
      reserved = 0;
      small = omega arith;
      bytes_are = bytes_at route message i bytes here;
    } in
    (read p bytes spelled, λ other. read_for route.destination p bytes spelled (refl, λ same. other (sym same)))
