-- The moments so far have passed.
use Rattle.std.proofs.Common.{◌≡◌, ◌≤◌, All, IfSome, length, map, take, unwrap_or}
use Rattle.mctpctl_state.proofs.kept.Kept.known.Given as goal

abbrev pub invariant-loop-place : goal.invariant-loop-place
invariant-loop-place l = record {
  moments : l.moments.items ≡ map (λ moment. unwrap_or moment l.now) (take l.place l.self.moments.items);
  passed : All (λ moment. IfSome moment (λ m. m ≤ l.now)) (take l.place l.self.moments.items);
  end : l.place-end ≡ length l.self.moments.items;
}
