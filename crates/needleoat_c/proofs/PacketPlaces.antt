-- The packet of a message at a place, where it has one there.
use Rattle.std.proofs.Common.{◌≡◌, ℕ, suc, ◌+◌, ◌<◌, ◌≤◌, Bool, true, false, nat_lt, List, [], ◌∷◌, ◌++◌, length, take, drop, Some, None, refl, sym, ap, ◌∙◌, subst, arith}
use Rattle.std.specs.Prelude.{slice_get}
use Rattle.std.proofs.lemmas.List.FromFn.{length-map-range_with_len, get_or-map-range_with_len}
use Rattle.std.proofs.lemmas.Option.{slice_get-get_or, slice_get_past}
use borrow.Author.Tests.{ltb-true, ltb-false}
use Rattle.mctp_packet.specs.Packets.{Packet, written}
use Rattle.mctp_packet.specs.Pieces.{packet_at, piece_count, written_packets}
use Rattle.mctp_packet.specs.declared.TheConstants.{HEADER}
use Rattle.mctp_packet.specs.declared.packet.Route.{Route}
use Rattle.needleoat_c.specs.Endpoints.{IsInFront}

take_front : (xs ys : List ℕ) → take (length xs) (xs ++ ys) ≡ xs
take_front [] ys = refl
take_front (x ∷ xs) ys = ap (λ l. x ∷ l) (take_front xs ys)

pub packets_counted : (route : Route) (message : List ℕ) → length (written_packets route message) ≡ piece_count message
packets_counted route message = length-map-range_with_len (λ place. written (packet_at route message place)) 0 (piece_count message)

module _ (route : Route) (message : List ℕ) (i : ℕ) where
  there : i < piece_count message → slice_get (written_packets route message) i ≡ Some (written (packet_at route message i))
  there lt =
      let bytes = λ (place : ℕ). written (packet_at route message place) in
      slice_get-get_or (written_packets route message) i (bytes i) (subst (λ n. i < n) (sym (length-map-range_with_len bytes 0 (piece_count message))) lt)
      ∙ ap Some (get_or-map-range_with_len bytes 0 (piece_count message) i i (bytes i) lt (omega arith))

  past_by : (b : Bool) → nat_lt i (piece_count message) ≡ b → (i < piece_count message → ⊥) → slice_get (written_packets route message) i ≡ None
  past_by true e past = absurd (past (ltb-true i (piece_count message) e))
  past_by false e past =
      let bytes = λ (place : ℕ). written (packet_at route message place) in
      slice_get_past (written_packets route message) i (subst (λ n. n ≤ i) (sym (length-map-range_with_len bytes 0 (piece_count message))) (ltb-false i (piece_count message) e))

  -- a packet that is written to its room is in front of it
  pub in_front : (packet : Packet) (count : ℕ) (old room : List ℕ) → i < piece_count message → packet ≡ packet_at route message i
      → count ≡ HEADER + length packet.payload → room ≡ written packet ++ drop (HEADER + length packet.payload) old
      → IsInFront (slice_get (written_packets route message) i) count room
  in_front packet count old room lt is counted put =
      let long : suc (suc (suc (suc (length packet.payload)))) ≡ HEADER + length packet.payload = omega arith in
      let size : count ≡ length (written packet) = counted ∙ sym long in
      let bytes : take count room ≡ written packet =
      ap (λ n. take n room) size ∙ ap (take (length (written packet))) put ∙ take_front (written packet) (drop (HEADER + length packet.payload) old) in
      subst (λ o. IsInFront o count room) (sym (there lt)) (subst (λ p. IsInFront (Some (written p)) count room) is (size, bytes))

  pub none_in_front : (count : ℕ) (room : List ℕ) → (i < piece_count message → ⊥) → count ≡ 0
      → IsInFront (slice_get (written_packets route message) i) count room
  none_in_front count room past zero =
      subst (λ o. IsInFront o count room) (sym (past_by (nat_lt i (piece_count message)) refl past)) zero
