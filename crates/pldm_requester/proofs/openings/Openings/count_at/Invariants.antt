use Rattle.std.proofs.Common.{◌≡◌, ℕ, ◌<◌, length}
use Rattle.pldm_requester.specs.Resuming.{IsKnown, count_after}
use Rattle.pldm_requester.proofs.openings.Openings.count_at.Given as goal

abbrev pub invariant-loop-id : goal.invariant-loop-id
invariant-loop-id l = record {
  known : (id : ℕ) → id < l.id → IsKnown l.self id;
  count : l.count ≡ count_after l.self;
  end : l.id-end ≡ length l.self.moments.items;
}
