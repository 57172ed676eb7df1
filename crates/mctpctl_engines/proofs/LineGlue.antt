-- The lines of a text that comes in pieces, and a run over them.
use Rattle.std.proofs.Common.{◌≡◌, inl, inr, ℕ, suc, ◌<◌, ◌==◌, Bool, true, false, List, [], ◌∷◌, ◌++◌, length, Result, Ok, Err, IfErr, refl, sym, ap, subst, ◌∙◌, append_assoc, append-nil, arith}
use Rattle.std.specs.List.{onto_first}
use Rattle.std.proofs.lemmas.List.Splits.{slice_split_at, slice_split-cons_no}
use Rattle.line_words.specs.TextLines.{HasNoFeed, lines_of}
use Rattle.mctpctl_engines.specs.LinePieces.{FrontStops, LineGoesOn, LineStops, LinesGive, TakesLine, glued, lines_after, pieces_give}
use Rattle.mctpctl_engines.specs.LineRuns.{Written, stops_at, after_text}
use Rattle.mctpctl_input.specs.OutsideFaults.{no_memory}
use Rattle.mctpctl_engines.specs.Pieces.{Gives, GoesOn, Takes}
use Rattle.mctpctl_input.specs.declared.faults.EngineFault.{EngineFault}
use Rattle.mctpctl_engines.proofs.PieceRuns.{goes_after, stops_after, front_after}
use Rattle.mctpctl_engines.proofs.RunsOverLines.{some_line}

pub glued_nil : (lines : List (List ℕ)) → 0 < length lines → glued [] lines ≡ lines
glued_nil [] some = absurd (omega arith)
glued_nil (line ∷ more) some = refl

glued_first : (b : ℕ) (front : List ℕ) (lines : List (List ℕ)) → onto_first b (glued front lines) ≡ glued (b ∷ front) lines
glued_first b front [] = refl
glued_first b front (line ∷ more) = refl

glued_glued : (a b : List ℕ) (lines : List (List ℕ)) → glued a (glued b lines) ≡ glued (a ++ b) lines
glued_glued a b [] = refl
glued_glued a b (line ∷ more) = ap (λ l. l ∷ more) (sym (append_assoc a b line))

later_bytes : (b : ℕ) (bytes : List ℕ) → HasNoFeed (b ∷ bytes) → HasNoFeed bytes
later_bytes b bytes none = λ k d within. none (suc k) d (omega arith)

first_byte : (b : ℕ) (bytes : List ℕ) → HasNoFeed (b ∷ bytes) → (b == 10) ≡ false
first_byte b bytes none = none 0 0 (omega arith)

-- the front of a line, before bytes that come later
lines_glued : (front later : List ℕ) → HasNoFeed front → lines_of (front ++ later) ≡ glued front (lines_of later)
lines_glued [] later none = sym (glued_nil (lines_of later) (some_line later))
lines_glued (b ∷ bytes) later none =
    slice_split-cons_no (λ x. x == 10) b (bytes ++ later) (first_byte b bytes none)
    ∙ ap (onto_first b) (lines_glued bytes later (later_bytes b bytes none))
    ∙ glued_first b bytes (lines_of later)

-- a line that a line feed ends, before bytes that come later
line_ended : (line later : List ℕ) → HasNoFeed line → lines_of ((line ++ 10 ∷ []) ++ later) ≡ line ∷ lines_of later
line_ended line later none = ap lines_of (append_assoc line (10 ∷ []) later) ∙ slice_split_at (λ x. x == 10) line 10 later none refl

-- a line feed ends the line
pub feed_split : (line after : List ℕ) → line ++ 10 ∷ after ≡ (line ++ 10 ∷ []) ++ after
feed_split line after = sym (append_assoc line (10 ∷ []) after)

-- where nothing was kept, the lines are those of the bytes
pub none_kept : (kept bytes : List ℕ) → kept ≡ [] → lines_after kept bytes ≡ lines_of bytes
none_kept kept bytes empty = ap (λ k. lines_after k bytes) empty ∙ glued_nil (lines_of bytes) (some_line bytes)

-- what one piece after others does, they do together
takes_after : (f g h : Gives) (taken piece text out0 out1 out2 : List ℕ) (result : Result Unit EngineFault) → GoesOn f taken text g → out1 ≡ out0 ++ text → Takes g piece h out1 out2 result → Takes f (taken ++ piece) h out0 out2 result
takes_after f g h taken piece text out0 out1 out2 (Ok unit) goes before (more, added, on) =
    (text ++ more, added ∙ ap (λ l. l ++ more) before ∙ append_assoc out0 text more, goes_after f g h taken piece text more goes on)
takes_after f g h taken piece text out0 out1 out2 (Err fault) goes before (more, added, inl (memory, (front, back, parts, is))) =
    (text ++ more, added ∙ ap (λ l. l ++ more) before ∙ append_assoc out0 text more, inl (memory, (taken ++ front, back, ap (λ l. taken ++ l) parts ∙ sym (append_assoc taken front back), front_after f g taken front text more goes is)))
takes_after f g h taken piece text out0 out1 out2 (Err fault) goes before (more, added, inr (apart, stops)) =
    (text ++ more, added ∙ ap (λ l. l ++ more) before ∙ append_assoc out0 text more, inr (apart, stops_after f g taken piece text more fault goes stops))

-- a piece that ends the run ends it with more bytes after it
ends_before : (f h k : Gives) (piece more out0 out1 : List ℕ) (fault : EngineFault) → Takes f piece h out0 out1 (Err fault) → Takes f (piece ++ more) k out0 out1 (Err fault)
ends_before f h k piece more out0 out1 fault (text, added, inl (memory, (front, back, parts, is))) =
    (text, added, inl (memory, (front, back ++ more, ap (λ l. l ++ more) parts ∙ append_assoc front back more, is)))
ends_before f h k piece more out0 out1 fault (text, added, inr (apart, stops)) =
    (text, added, inr (apart, λ is_cut later. ap (f is_cut) (append_assoc piece more later) ∙ stops is_cut (more ++ later)))

pub ends_after_split : (f g h : Gives) (taken piece after whole text out0 out1 out2 : List ℕ) (fault : EngineFault) → GoesOn f taken text g → out1 ≡ out0 ++ text → whole ≡ taken ++ (piece ++ after) → Takes g piece h out1 out2 (Err fault) → Takes f whole h out0 out2 (Err fault)
ends_after_split f g h taken piece after whole text out0 out1 out2 fault goes before parts reported =
    let P : List ℕ → Type 0 = λ l. Takes f l h out0 out2 (Err fault) in
    subst P (sym parts) (takes_after f g h taken (piece ++ after) text out0 out1 out2 (Err fault) goes before (ends_before g h h piece after out1 out2 fault reported))

module _ (f : LinesGive) where
  -- a line, and then the lines of the bytes after it
  goes_to : (g : LinesGive) (line text : List ℕ) (is_cut : Bool) (lines : List (List ℕ)) → 0 < length lines → LineGoesOn f line text g → f is_cut (line ∷ lines) ≡ after_text text (g is_cut lines)
  goes_to g line text is_cut [] some goes = absurd (omega arith)
  goes_to g line text is_cut (next ∷ more) some goes = goes is_cut next more

  stops_before : (line : List ℕ) (fault : EngineFault) (is_cut : Bool) (lines : List (List ℕ)) → 0 < length lines → LineStops f line fault → f is_cut (line ∷ lines) ≡ stops_at fault
  stops_before line fault is_cut [] some stops = absurd (omega arith)
  stops_before line fault is_cut (next ∷ more) some stops = stops is_cut next more

  whole_line : (kept line both : List ℕ) (is_cut : Bool) (later : List ℕ) → HasNoFeed line → both ≡ kept ++ line → pieces_give f kept is_cut ((line ++ 10 ∷ []) ++ later) ≡ f is_cut (both ∷ lines_of later)
  whole_line kept line both is_cut later none is =
      ap (λ lines. f is_cut (glued kept lines)) (line_ended line later none) ∙ ap (λ l. f is_cut (l ∷ lines_of later)) (sym is)

  -- the front of a line is kept
  front_kept : (kept front both : List ℕ) → HasNoFeed front → both ≡ kept ++ front → GoesOn (pieces_give f kept) front [] (pieces_give f both)
  front_kept kept front both none is =
      λ is_cut later. ap (λ lines. f is_cut (glued kept lines)) (lines_glued front later none)
      ∙ ap (f is_cut) (glued_glued kept front (lines_of later) ∙ ap (λ k. glued k (lines_of later)) (sym is))

  module _ (none_where_cut : (line : List ℕ) → (f true (line ∷ [])).text ≡ []) where
    -- want of memory at a piece of which nothing was done
    pub nothing_done : (kept piece old new : List ℕ) (h : Gives) (fault : EngineFault) → fault ≡ no_memory → new ≡ old → Takes (pieces_give f kept) piece h old new (Err fault)
    nothing_done kept piece old new h fault memory same =
        ([], same ∙ sym (append-nil old), inl (memory, ([], piece, refl, sym (none_where_cut (kept ++ [])))))

    -- a line that ends, as it was taken
    pub line_takes : (g : LinesGive) (kept line both left old new : List ℕ) (result : Result Unit EngineFault) → HasNoFeed line → both ≡ kept ++ line → left ≡ [] → TakesLine f both g old new result → Takes (pieces_give f kept) (line ++ 10 ∷ []) (pieces_give g left) old new result
    line_takes g kept line both left old new (Ok unit) none is empty (text, added, goes) = (
      text,
      added,
      λ is_cut later. whole_line kept line both is_cut later none is
          ∙ goes_to g both text is_cut (lines_of later) (some_line later) goes
          ∙ ap (λ lines. after_text text (g is_cut lines)) (sym (none_kept left later empty)),
    )
    line_takes g kept line both left old new (Err fault) none is empty (same, inl memory) =
        nothing_done kept (line ++ 10 ∷ []) old new (pieces_give g left) fault memory same
    line_takes g kept line both left old new (Err fault) none is empty (same, inr (apart, stops)) = (
      [],
      same ∙ sym (append-nil old),
      inr (
        apart,
        λ is_cut later. whole_line kept line both is_cut later none is
            ∙ stops_before both fault is_cut (lines_of later) (some_line later) stops,
      ),
    )

  -- a front that is kept, or too long
  pub front_takes : (kept front both reported : List ℕ) (result : Result Unit EngineFault) → HasNoFeed front → both ≡ kept ++ front → reported ≡ both → IfErr result (λ fault. FrontStops f reported fault) → Takes (pieces_give f kept) front (pieces_give f both) [] [] result
  front_takes kept front both reported (Ok unit) none is same long = ([], refl, front_kept kept front both none is)
  front_takes kept front both reported (Err fault) none is same long =
      let stops : FrontStops f both fault = subst (λ l. FrontStops f l fault) same long in
      ([], refl, inr (stops.0, λ is_cut later. front_kept kept front both none is is_cut later ∙ stops.1 is_cut (lines_of later)))

  -- the last line of all
  pub last_line : (is_cut : Bool) (kept : List ℕ) (W : Written → Type 0) → W (f is_cut (kept ∷ [])) → W (pieces_give f kept is_cut [])
  last_line is_cut kept W ends = subst (λ l. W (f is_cut (l ∷ []))) (sym (append-nil kept)) ends
