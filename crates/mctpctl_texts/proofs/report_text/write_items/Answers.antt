-- The steps, then the requests and the order, and what is left on the page.
use Rattle.std.proofs.Common.{ap, rules, subst}
use Rattle.std.specs.Io.KnownBytes.{Appends}
use Rattle.std.proofs.KnownBytes.{Appends-trans}
use Rattle.mctpctl_texts.specs.ReportTexts.{order_line, requests_text}
use Rattle.mctpctl_texts.proofs.GatheredParts.{and_flushed}
use Rattle.mctpctl_texts.proofs.report_text.write_items.Goals as goal

pub returns : goal.returns
returns g c = record {
  text = and_flushed _ _ _ _ _ _ _ c.new-page.ensures
      (Appends-trans _ _ _ _ _ c.in_ok-gather_entries.ensures.text
      (Appends-trans _ _ _ _ _ (subst (Appends _ _) (ap (requests_text 0) c.deref.ensures.value) c.in_ok-gather_requests.ensures.text)
      (subst (Appends _ _) (ap order_line c.deref-2.ensures.value) c.in_ok-gather_order.ensures.text))) c.flush.ensures.wrote.text;
  ok = search rules;
  err = search rules;
}
