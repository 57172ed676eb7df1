use Rattle.std.proofs.Common.{◌≡◌, ℕ, ◌<◌, length}
use Rattle.std.specs.Prelude.{not, option_map, slice_get}
use Rattle.pldm_requester.specs.Resuming.{last_with, shut_memo}
use Rattle.pldm_requester.specs.Steps.{is_kept, outline_if}
use Rattle.pldm_requester.proofs.resuming.shut_slots.Given as goal

abbrev pub invariant-loop-id : goal.invariant-loop-id
invariant-loop-id l = record {
  count : length l.slots.items ≡ l.id;
  slots : (k : ℕ) → k < l.id → slice_get l.slots.items k ≡ outline_if (not (is_kept l.pace l.count (last_with l.count k))) (option_map (shut_memo l.own l.device k) (slice_get l.openings.moments.items k));
  end : l.id-end ≡ length l.openings.moments.items;
}
