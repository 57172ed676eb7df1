-- What was found at the first places was read.
use Rattle.std.proofs.Common.{◌≡◌, ◌≤◌, false, length}
use Rattle.mctpctl.specs.WatchedTexts.{ReadsFirst}
use Rattle.mctpctl.specs.declared.statuses.TheConstants.{FAILED}
use Rattle.pldm_line.specs.Asked.{shown}
use Rattle.mctpctl.proofs.watching.read_all.Given as goal

abbrev pub invariant-loop-place : goal.invariant-loop-place
invariant-loop-place g l = record {
  read : ReadsFirst l.walk l.place
      (shown g.C.Ticks.to_come g.R.Read.remaining g.W.Write.contents l.initial.line l.initial.reader l.initial.writer)
      (shown g.C.Ticks.to_come g.R.Read.remaining g.W.Write.contents l.line l.reader l.writer) l.table l.status;
  range : l.status ≤ FAILED;
  reads : l.reader.failed ≡ false;
  writes : l.writer.failed ≡ false;
  end : l.place-end ≡ length l.walk.found;
}
