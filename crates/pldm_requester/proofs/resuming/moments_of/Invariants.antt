use Rattle.std.proofs.Common.{◌≡◌, ℕ, ◌<◌, length}
use Rattle.std.specs.List.{All}
use Rattle.std.specs.Prelude.{option_map, slice_get}
use Rattle.mctp_packet.specs.Ids.{IsMoment}
use Rattle.pldm_requester.proofs.resuming.moments_of.Given as goal

abbrev pub invariant-loop-place : goal.invariant-loop-place
invariant-loop-place l = record {
  count : length l.moments.items ≡ l.place;
  each : (k : ℕ) → k < l.place → slice_get l.moments.items k ≡ option_map (λ memo. memo.course.opening) (slice_get l.slots k);
  ranges : All IsMoment l.moments.items;
  end : l.place-end ≡ length l.slots;
}
