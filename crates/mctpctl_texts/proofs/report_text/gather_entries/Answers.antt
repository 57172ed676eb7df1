-- A step further, its line is gathered.
use Rattle.std.proofs.Common.{◌≡◌, ◌∷◌, ◌++◌, [], arith, rules, length, refl, sym, subst, ap, ◌∙◌}
use Rattle.std.proofs.lemmas.List.{length-map}
use Rattle.std.specs.Io.KnownBytes.{Appends}
use Rattle.std.proofs.KnownBytes.{Appends-trans}
use Rattle.mctp_schedule.specs.EntryColumns.{borrowed_entry}
use Rattle.schedule_text.specs.StepColumns.{moment_of_step}
use Rattle.mctpctl_texts.specs.EntryTexts.{entry_line}
use Rattle.mctpctl_texts.proofs.ItemTexts.{by_moments, entries_at, entries_step, gives_first, gives_one, line_of_parts, none_left, none_to_come}
use Rattle.mctpctl_texts.proofs.report_text.gather_entries.Goals as goal

pub loop-line-init : goal.loop-line-init
loop-line-init g c = record {
  text = [];
  written = search rules;
  works = refl;
  whole = ap (λ moments. entries_at moments c.iter-rest.result) c.moments-moments.ensures ∙ ap (entries_at _) c.iter-rest.ensures ∙ by_moments c.args.steps.now c.args.entries.now;
  moments_left = omega (arith, ap length c.moments-moments.ensures, length-map c.args.steps.now moment_of_step);
  entries_left = omega (arith, ap length c.iter-rest.ensures);
}

pub unwrap-requires : goal.unwrap-requires
unwrap-requires g c =
    let i = c.loop-line.invariant in
    gives_one (λ moment. moment) c.loop-line.moments c.next.new.self c.next.result c.next.ensures.steps
    (omega (arith, i.moments_left, c.loop-line-test.true, c.min-line-end.ensures, c.len.ensures))

pub unwrap-requires-in-loop-line : goal.unwrap-requires-in-loop-line
unwrap-requires-in-loop-line g c =
    let i = c.loop-line.invariant in
    gives_one borrowed_entry c.loop-line.rest c.next-in-loop-line.new.self c.next-in-loop-line.result c.next-in-loop-line.ensures.steps
    (omega (arith, i.entries_left, c.loop-line-test.true, c.min-line-end.ensures, c.len-2.ensures))

pub loop-line-preserved : goal.loop-line-preserved
loop-line-preserved g c =
    let i = c.loop-line.invariant in
    let entry = borrowed_entry c.unwrap-in-loop-line.result in
    let moment = c.set.new.self in
    let line = entry_line moment entry in
    let moments = gives_first (λ moment. moment) c.loop-line.moments c.next.new.self c.next.result c.unwrap.result c.next.ensures.steps c.unwrap.ensures in
    let entries = gives_first borrowed_entry c.loop-line.rest c.next-in-loop-line.new.self c.next-in-loop-line.result c.unwrap-in-loop-line.result c.next-in-loop-line.ensures.steps c.unwrap-in-loop-line.ensures in
    let in_all : moment ≡ c.unwrap.result = c.set.ensures ∙ c.get.ensures.value in
    record {
      text = i.text ++ line;
      written = Appends-trans _ _ _ _ _ i.written (subst (Appends _ _) (line_of_parts moment entry)
          (Appends-trans _ _ _ _ _ c.in_ok-gather_moment.ensures.gathered.text c.in_ok-gather_entry.ensures.text));
      works = c.in_ok-gather_entry.ensures.ok ∙ c.in_ok-gather_moment.ensures.gathered.ok ∙ i.works;
      whole = entries_step i.text c.loop-line.moments c.next.new.self c.loop-line.rest c.next-in-loop-line.new.self moment entry
          (moments ∙ ap (λ m. m ∷ c.next.new.self) (sym in_all)) entries ∙ i.whole;
      moments_left = omega (arith, ap length moments, i.moments_left);
      entries_left = omega (arith, ap length entries, i.entries_left);
    }

pub returns : goal.returns
returns g c =
    let i = c.loop-line.invariant in
    let none = none_to_come c.loop-line.moments c.loop-line.rest c.loop-line._line (length c.args.steps.now) (length c.args.entries.now)
    i.moments_left i.entries_left (omega (arith, c.loop-line-test.false, c.min-line-end.ensures, c.len.ensures, c.len-2.ensures)) in
    record {
      text = subst (Appends _ _) (none_left i.text _ _ none i.whole) i.written;
      ok = i.works;
      err = tt;
    }
