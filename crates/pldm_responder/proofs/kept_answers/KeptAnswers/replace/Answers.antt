use Rattle.std.proofs.Common.{◌≡◌, rules, ℕ, Some, refl, ap, sym, subst, ◌∙◌, if◌then◌else◌, ◌==◌, arith, is_some}
use Rattle.std.specs.Prelude.{slice_set}
use Rattle.mctp_assembly.specs.NumberLists.{NumberList, Changes, IsAt, Rises, at}
use Rattle.mctp_assembly.proofs.NumberPlaces.{here, none_in_gap, read_at, rises_changed, written_at}
use Rattle.pldm_responder.specs.Ends.{has_row}
use Rattle.pldm_responder.specs.ResponderStates.{Entry}
use Rattle.pldm_responder.specs.Slots.{Answers, AreKeptTo, IsKept, Rows, answers_in, in_place, kept_in, no_answers}
use Rattle.pldm_responder.proofs.KeptRows.{each_after, kept_after, kept_at, none_changes, replaced_to, rows_after}
use Rattle.pldm_responder.proofs.kept_answers.KeptAnswers.replace.Goals as goal

-- the row that was there, and the one in its place
module _ (c : goal.After-self-1) where
  abbrev entry : Entry
  entry = record { moment = c.args.moment; bytes = c.args.bytes.now; answer = c.args.answer.now }

  abbrev list : NumberList Answers
  list = c.self.inside.rows.items

  abbrev new_list : NumberList Answers
  new_list = slice_set list c.in-Ok.place (c.behind-self.inside.0.0, c.replace.new.self)

  abbrev before : Answers
  before = c.index_mut.result.now.1

  is : IsAt no_answers list c.args.source c.in-Ok.place
  is = subst (λ (rows : Rows). IsAt no_answers rows.list c.args.source c.in-Ok.place) (sym c.self.view_is) c.in-Ok.ensures.found

  before_is : at list c.args.source ≡ Some before
  before_is = read_at no_answers list c.self.invariant.rises c.args.source c.in-Ok.place is c.index_mut.result.now c.index_mut.ensures.value

  changes : Changes list new_list c.args.source (Some c.replace.new.self)
  changes =
      subst (λ n. Changes list (slice_set list c.in-Ok.place (n, c.replace.new.self)) c.args.source (Some c.replace.new.self)) (sym (ap (λ p. p.0) c.behind-self.view_is))
      (written_at no_answers list c.self.invariant.rises c.args.source c.in-Ok.place is c.index_mut.result.now c.replace.new.self c.index_mut.ensures.value)

  was_kept : AreKeptTo c.self.inside.window c.args.source before
  was_kept = kept_at c.self.inside.window list c.args.source before c.self.invariant.each before_is

  after_is : c.replace.new.self ≡ record { window = before.window; kept = in_place entry before.kept }
  after_is =
      c.replace.ensures
      ∙ ap (λ (row : Answers). record { window = row.window; kept = in_place entry row.kept }) (c.deref_mut.ensures.value ∙ ap (λ p. p.1) c.behind-self.view_is)

  is_kept : IsKept entry
  is_kept = record { instance = omega (arith, c.requires.id, c.requires.small); few = c.requires.few }

pub invariant_of-self : goal.invariant_of-self
invariant_of-self c = record {
  window = c.self.invariant.window;
  rises = subst (λ n. Rises no_answers (slice_set (list c) c.in-Ok.place (n, c.replace.new.self)))
      (sym (ap (λ p. p.0) c.behind-self.view_is ∙ here no_answers (list c) c.self.invariant.rises c.args.source c.in-Ok.place (is c) c.index_mut.result.now c.index_mut.ensures.value))
      (rises_changed no_answers (list c) c.self.invariant.rises c.args.source c.in-Ok.place (is c) c.replace.new.self);
  each = each_after c.self.inside.window (list c) (new_list c) c.args.source c.replace.new.self (changes c)
      (replaced_to c.self.inside.window c.args.source (before c) c.replace.new.self (entry c) (was_kept c) (is_kept c) (after_is c)) c.self.invariant.each;
}

pub returns-in-Ok : goal.returns-in-Ok
returns-in-Ok c = record {
  kept =
      subst (λ (rows : Rows). (other : ℕ) → answers_in (at (new_list c) other) ≡ (if c.args.source == other then in_place (entry c) (kept_in rows other) else kept_in rows other)) c.self.view_is
      (kept_after (list c) (new_list c) c.args.source (before c) c.replace.new.self (before_is c) (changes c) (in_place (entry c))
      (ap (λ (row : Answers). row.kept) (after_is c)));
  window = search rules;
  rows =
      subst (λ (rows : Rows). (other : ℕ) → is_some (at (new_list c) other) ≡ has_row rows other) c.self.view_is
      (rows_after (list c) (new_list c) c.args.source (before c) c.replace.new.self (before_is c) (changes c));
  sources = search rules;
}

pub returns-in_default : goal.returns-in_default
returns-in_default c =
    let e : Entry = record { moment = c.args.moment; bytes = c.args.bytes.now; answer = c.args.answer.now } in
    record {
      kept = none_changes c.args.self.now.list c.args.source (in_place e) (none_in_gap no_answers c.args.self.now.list c.args.source _ c.in_default.ensures.absent) refl;
      window = refl;
      rows = λ other. refl;
      sources = refl;
    }
