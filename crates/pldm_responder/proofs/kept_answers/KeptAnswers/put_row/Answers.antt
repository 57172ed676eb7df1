use Rattle.std.proofs.Common.{◌≡◌, ℕ, is_some, IsSome, Some, ap, sym, subst, ◌∙◌, rules}
use Rattle.std.specs.List.{insert}
use Rattle.std.specs.Vec.{vec_capacity}
use Rattle.mctp_assembly.specs.NumberLists.{IsGapFor, Rises}
use Rattle.mctp_assembly.proofs.NumberPlaces.{open_at}
use Rattle.pldm_responder.specs.Ends.{GetsRow}
use Rattle.pldm_responder.specs.Reserving.{IsRoomFor}
use Rattle.pldm_responder.specs.Slots.{AreKept, Rows, no_answers, row_of}
use Rattle.pldm_responder.proofs.KeptRows.{added, added_kept, added_row, added_some, has_row_already}
use Rattle.pldm_responder.proofs.kept_answers.KeptAnswers.put_row.Goals as goal

module _ (c : goal.After-self-1) where
  abbrev inside : Rows
  inside = record { window = c.self.inside.window; places = vec_capacity c.self.inside.rows; list = c.self.inside.rows.items }

  gap : IsGapFor no_answers inside.list c.args.source c.in-Err.place
  gap = subst (λ (rows : Rows). IsGapFor no_answers rows.list c.args.source c.in-Err.place) (sym c.self.view_is) c.in-Err.ensures.absent

  room : IsRoomFor inside c.args.source (Some c.in-Some.row)
  room = search rules

  list_is : c.insert_reserved.new.rows.items ≡ insert inside.list c.in-Err.place (c.args.source, c.in-Some.row)
  list_is = c.insert_reserved.ensures ∙ (λ i. insert inside.list c.in-Err.place (c.get.ensures.value i, c.in-Some.row-is i))

  abbrev more : ℕ
  more = vec_capacity c.insert_reserved.new.rows

  abbrev now : Rows
  now = record { window = c.self.inside.window; places = more; list = c.insert_reserved.new.rows.items }

  now_is : added inside c.args.source c.in-Err.place more c.in-Some.row gap room.1 ≡ now
  now_is = ap (λ l. record { window = c.self.inside.window; places = more; list = l }) (sym list_is)

pub invariant_of-self : goal.invariant_of-self
invariant_of-self c =
    subst AreKept (now_is c) (added_kept (inside c) c.args.source c.in-Err.place (more c) c.in-Some.row (gap c) (room c).1 c.get.ensures.range c.self.invariant)

pub returns-in-Err-clause-gets : goal.returns-in-Err-clause-gets
returns-in-Err-clause-gets c =
    subst (λ (rows : Rows). GetsRow c.args.source (now c) rows) c.self.view_is
    (subst (λ (rows : Rows). GetsRow c.args.source rows (inside c)) (now_is c) (added_row (inside c) c.args.source c.in-Err.place (more c) c.in-Some.row (gap c) (room c).1))

pub returns-in-Err-clause-some : goal.returns-in-Err-clause-some
returns-in-Err-clause-some c =
    subst (λ (rows : Rows). IsSome (row_of rows c.args.source)) (now_is c) (added_some (inside c) c.args.source c.in-Err.place (more c) c.in-Some.row (gap c) (room c).1)

some_there : (c : goal.After-drop-row-inside) → IsSome (row_of c.args.self.now c.args.source)
some_there c =
    let rises = subst (λ (rows : Rows). Rises no_answers rows.list) c.self.view_is c.self.invariant.rises in
    ap is_some (open_at no_answers c.args.self.now.list rises c.args.source c.in_default-search.field-0 c.in_default-search.ensures.found (0, no_answers))

pub returns-in_default-search-clause-gets : goal.returns-in_default-search-clause-gets
returns-in_default-search-clause-gets c = has_row_already c.args.self.now c.args.source (some_there c)

pub returns-in_default-search-clause-some : goal.returns-in_default-search-clause-some
returns-in_default-search-clause-some c = some_there c
