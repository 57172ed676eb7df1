-- The packets of a message, place by place.
use Rattle.std.proofs.Common.{◌≡◌, ℕ, ◌<◌, ◌≤◌, [], List, length, slice_get, Some, None, ap, ◌∙◌, zero-add, arith}
use Rattle.std.proofs.lemmas.List.FromFn.{get_or-map-range_with_len, length-map-range_with_len}
use Rattle.std.proofs.lemmas.Option.{slice_get-get_or, slice_get_past}
use Rattle.mctp_packet.specs.Packets.{written}
use Rattle.mctp_packet.specs.Pieces.{packet_at, piece_count, written_packets}
use Rattle.mctp_packet.specs.declared.packet.Route.{Route}

module _ (route : Route) (message : List ℕ) where
  abbrev bytes_at : ℕ → List ℕ
  bytes_at i = written (packet_at route message i)

  pub as_many : length (written_packets route message) ≡ piece_count message
  as_many = length-map-range_with_len bytes_at 0 (piece_count message)

  pub packet_stands : (i : ℕ) → i < piece_count message → slice_get (written_packets route message) i ≡ Some (bytes_at i)
  packet_stands i within =
      slice_get-get_or (written_packets route message) i [] (omega (arith, within, as_many))
      ∙ ap Some (get_or-map-range_with_len bytes_at 0 (piece_count message) i i [] within (zero-add i))

  pub packet_past : (i : ℕ) → piece_count message ≤ i → slice_get (written_packets route message) i ≡ None
  packet_past i past = slice_get_past (written_packets route message) i (omega (arith, past, as_many))
