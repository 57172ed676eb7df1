-- A request further, its line is gathered.
use Rattle.std.proofs.Common.{◌++◌, refl, rules, ◌∙◌}
use Rattle.std.proofs.KnownBytes.{Appends-trans}
use Rattle.mctpctl_texts.specs.ReportTexts.{request_line}
use Rattle.mctpctl_texts.proofs.ItemTexts.{requests_step}
use Rattle.mctpctl_texts.proofs.report_text.gather_requests.Goals as goal

pub loop-i-preserved : goal.loop-i-preserved
loop-i-preserved g c =
    let i = c.loop-i.invariant in
    let line = request_line c.loop-i.i c.index-requests-i.result in
    record {
      text = i.text ++ line;
      written = Appends-trans _ _ _ _ _ i.written c.in_ok-gather_request_line.ensures.text;
      works = c.in_ok-gather_request_line.ensures.ok ∙ i.works;
      whole = requests_step i.text (i.text ++ line) c.args.requests.now c.loop-i.i c.index-requests-i.result c.loop-i-test.true c.index-requests-i.is refl
          ∙ i.whole;
      stands = search rules;
      end = refl;
    }
