-- What the records of the first ones say.
use Rattle.std.proofs.Common.{◌≡◌, map, take}
use Rattle.mctpctl.specs.WalkedTexts.{described_at}
use Rattle.mctpctl.proofs.walking.described_of.Given as goal

abbrev pub invariant-loop-found : goal.invariant-loop-found
invariant-loop-found l = record {
  described : l.described.items ≡ map (described_at l.walk) (take l.found-index l.walk.found);
  records : map (λ pdr. pdr.items) l.records.items ≡ l.walk.records;
}
