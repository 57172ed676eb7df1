-- The text so far, and then that of the requests to come, is that of all requests.
use Rattle.std.proofs.Common.{◌≡◌, ℕ, List, ◌++◌, drop, length, slice_get, IfSome}
use Rattle.pldm_requester.specs.RequestProgress.{progress_in_status}
use Rattle.std.specs.Io.KnownBytes.{Appends}
use Rattle.mctpctl_texts.specs.Gathering.{in_all}
use Rattle.mctpctl_texts.specs.ReportTexts.{requests_text}
use Rattle.mctpctl_texts.proofs.report_text.gather_requests.Given as goal

abbrev pub invariant-loop-i : goal.invariant-loop-i
invariant-loop-i g l = record {
  text : List ℕ;
  written : Appends (in_all g.O.TextWriter.contents l.initial.out l.initial.page) (in_all g.O.TextWriter.contents l.out l.page) text;
  works : g.O.TextWriter.failed l.out ≡ g.O.TextWriter.failed l.initial.out;
  whole : text ++ requests_text l.i (drop l.i l.requests) ≡ requests_text 0 l.requests;
  stands : IfSome (slice_get l.requests l.i) (λ request. progress_in_status l.next ≡ request.progress);
  end : l.i-end ≡ length l.requests;
}
