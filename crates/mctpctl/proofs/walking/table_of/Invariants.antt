-- The rows of what was found at the first places.
use Rattle.std.proofs.Common.{◌≡◌, length}
use Rattle.mctpctl.specs.WalkedTexts.{first_rows}
use Rattle.mctpctl.proofs.walking.table_of.Given as goal

abbrev pub invariant-loop-place : goal.invariant-loop-place
invariant-loop-place l = record {
  rows : l.table ≡ first_rows l.walk l.place;
  end : l.place-end ≡ length l.walk.found;
}
