-- The first records.
use Rattle.std.proofs.Common.{◌≡◌, length, map}
use Rattle.std.specs.Prelude.{take}
use Rattle.mctpctl.proofs.walking.records_of.Given as goal

abbrev pub invariant-loop-place : goal.invariant-loop-place
invariant-loop-place l = record {
  copied : map (λ pdr. pdr.items) l.records.items ≡ take l.place l.walk.records;
  end : l.place-end ≡ length l.walk.records;
}
