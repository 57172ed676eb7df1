-- The lines of a description, a line further.
use Rattle.std.proofs.Common.{◌≡◌, ◌≢◌, ◌⊎◌, inl, inr, ℕ, ◌+◌, ◌-◌, ◌<◌, ◌≤◌, ◌==◌, Bool, true, false, nat_lt, if◌then◌else◌, List, [], ◌∷◌, ◌++◌, length, take, slice_index, bytes_eq, codes, Option, Some, None, Result, Ok, Err, IfErr, refl, sym, ap, subst, ◌∙◌, append_assoc, append-nil, length-append, length-take, arith, rules}
use Rattle.std.specs.Io.KnownBytes.{Appends}
use Rattle.std.specs.List.{join_with_byte}
use Rattle.std.proofs.KnownBytes.{Appends-nil}
use Rattle.std.proofs.lemmas.List.Splits.{join_with_byte-slice_split}
use Rattle.std.proofs.lemmas.Bool.Decides.{nat_tests}
use Rattle.std.proofs.lemmas.Slice.Eq.{bytes_eq-Decides}
use Rattle.line_words.specs.Lines.{without_cr}
use Rattle.line_words.specs.TextLines.{lines_of}
use Rattle.mctpctl_engines.specs.AnswerText.{described_run, divided_run, run_of}
use Rattle.mctpctl_engines.specs.DescriptionLines.{Describes, EndsDescription, LinesPast, run_described, description_writes, begun, device_begun}
use Rattle.mctpctl_engines.specs.LinePieces.{EndsAt, FrontStops, LineGoesOn, LineStops, LinesGive, TakesLine, glued}
use Rattle.mctpctl_engines.specs.LineRuns.{Written, stops_at}
use Rattle.mctpctl_input.specs.OutsideFaults.{no_memory}
use Rattle.mctpctl_engines.specs.Pieces.{FinishesTo}
use Rattle.mctpctl_input.specs.TextLines.{is_divider, capture_lines, description_of}
use Rattle.mctpctl_input.specs.declared.faults.EngineFault.{EngineFault}
use Rattle.mctpctl_input.specs.declared.faults.EngineFault.TheVariants as faults
use Rattle.mctpctl_input.specs.declared.limits.TheConstants.{MAX_DIVIDER, MAX_DESCRIPTION}
use Rattle.pldm_device.specs.Descriptions.{stated}
use Rattle.pldm_device.specs.declared.description.Description.{Description}
use Rattle.pldm_device.specs.declared.description_fault.FileFault.{FileFault}

pub description_more : (line : List ℕ) (more : List (List ℕ)) → 0 < length more → is_divider line ≡ false → description_of (line ∷ more) ≡ (line ++ 10 ∷ []) ++ description_of more
description_more line [] some stays = absurd (omega arith)
description_more line (next ∷ more) some stays = rw stays (sym (append_assoc line (10 ∷ []) (description_of (next ∷ more))))

capture_more : (line : List ℕ) (more : List (List ℕ)) → is_divider line ≡ false → capture_lines (line ∷ more) ≡ capture_lines more
capture_more line more stays = rw stays refl

divides : (line : List ℕ) (more : List (List ℕ)) → is_divider line ≡ true → (description_of (line ∷ more) ≡ []) × (capture_lines (line ∷ more) ≡ Some more)
divides line [] here = (rw here refl, rw here refl)
divides line (next ∷ more) here = (rw here refl, rw here refl)

-- a line that divides is `%%`, with a carriage return or without
divider_is_short : (line : List ℕ) → is_divider line ≡ true → length line ≤ MAX_DIVIDER
divider_is_short line here = by_cr (slice_index line (length line - 1) == 13) refl where
  two : (text : List ℕ) → bytes_eq text (codes "%%") ≡ true → length text ≡ 2
  two text e = ap length ((bytes_eq-Decides text (codes "%%")).0 e)

  by_cr : (cr : Bool) → (slice_index line (length line - 1) == 13) ≡ cr → length line ≤ MAX_DIVIDER
  by_cr true e =
      let cut : without_cr line ≡ take (length line - 1) line = rw e refl in
      omega (arith, two (without_cr line) here, ap length cut, length-take (length line - 1) line)
  by_cr false e =
      let same : without_cr line ≡ line = rw e refl in
      omega (arith, two (without_cr line) here, ap length same)

-- a line that does not divide is of the description
described_at_least : (line : List ℕ) (more : List (List ℕ)) → is_divider line ≡ false → length line ≤ length (description_of (line ∷ more))
described_at_least line [] stays = rw stays (omega arith)
described_at_least line (next ∷ more) stays = rw stays (omega (arith, length-append line (10 ∷ description_of (next ∷ more))))

module _ (past : LinesPast) where
  -- a line that does not divide is of the description
  description_goes_on : (text line : List ℕ) → is_divider line ≡ false → LineGoesOn (description_writes past text) line [] (description_writes past (text ++ (line ++ 10 ∷ [])))
  description_goes_on text line stays =
      λ is_cut next more. ap (λ d. run_described past is_cut (text ++ d) (capture_lines (line ∷ next ∷ more))) (description_more line (next ∷ more) (omega arith) stays)
      ∙ ap (λ d. run_described past is_cut d (capture_lines (line ∷ next ∷ more))) (sym (append_assoc text (line ++ 10 ∷ []) (description_of (next ∷ more))))
      ∙ ap (run_described past is_cut ((text ++ (line ++ 10 ∷ [])) ++ description_of (next ∷ more))) (capture_more line (next ∷ more) stays)

  divided : (text line : List ℕ) (is_cut : Bool) (lines : List (List ℕ)) → is_divider line ≡ true → description_writes past text is_cut (line ∷ lines) ≡ run_described past is_cut text (Some lines)
  divided text line is_cut lines here =
      ap (λ d. run_described past is_cut (text ++ d) (capture_lines (line ∷ lines))) (divides line lines here).0
      ∙ ap (λ d. run_described past is_cut d (capture_lines (line ∷ lines))) (append-nil text)
      ∙ ap (run_described past is_cut text) (divides line lines here).1

  -- what is run over after the divider, by what the text before it begins
  begun_run : Bool → List (List ℕ) → Result Description EngineFault → Written
  begun_run is_cut lines (Ok device) = past device is_cut lines
  begun_run is_cut lines (Err fault) = stops_at fault

  by_begun : (is_cut : Bool) (lines : List (List ℕ)) (long : Bool) (said : Result Description FileFault)
      → (if long then stops_at faults.TooLarge else described_run past is_cut lines said) ≡ begun_run is_cut lines (if long then Err faults.TooLarge else device_begun said)
  unfolding begun_run
  by_begun is_cut lines true said = refl
  by_begun is_cut lines false (Ok device) = refl
  by_begun is_cut lines false (Err fault) = refl

  run_begun : (is_cut : Bool) (text : List ℕ) (lines : List (List ℕ)) → run_described past is_cut text (Some lines) ≡ begun_run is_cut lines (begun text)
  run_begun is_cut text lines = by_begun is_cut lines (nat_lt MAX_DESCRIPTION (length text)) (stated text)

  pub begun_device : (is_cut : Bool) (text : List ℕ) (lines : List (List ℕ)) (device : Description) → begun text ≡ Ok device
      → run_described past is_cut text (Some lines) ≡ past device is_cut lines
  unfolding begun_run
  begun_device is_cut text lines device e = run_begun is_cut text lines ∙ ap (begun_run is_cut lines) e

  pub begun_fault : (is_cut : Bool) (text : List ℕ) (lines : List (List ℕ)) (fault : EngineFault) → begun text ≡ Err fault
      → run_described past is_cut text (Some lines) ≡ stops_at fault
  unfolding begun_run
  begun_fault is_cut text lines fault e = run_begun is_cut text lines ∙ ap (begun_run is_cut lines) e

  -- after the line that divides the lines past it come, or the run ends there
  divider_stops : (text line : List ℕ) (fault : EngineFault) → is_divider line ≡ true → begun text ≡ Err fault → LineStops (description_writes past text) line fault
  divider_stops text line fault here e =
      λ is_cut next more. divided text line is_cut (next ∷ more) here ∙ begun_fault is_cut text (next ∷ more) fault e

  -- lines of a description that is too long end the run, whatever comes later
  past_limit : (is_cut : Bool) (text : List ℕ) (found : Option (List (List ℕ))) → MAX_DESCRIPTION < length text → run_described past is_cut text found ≡ stops_at faults.TooLarge
  past_limit is_cut text None long =
      let test : nat_lt MAX_DESCRIPTION (length text) ≡ true = search (rules, nat_tests) in
      rw test refl
  past_limit is_cut text (Some lines) long =
      let test : nat_lt MAX_DESCRIPTION (length text) ≡ true = search (rules, nat_tests) in
      rw test refl

  -- so does a line that is too long for it, since no longer one divides
  long_line : (is_cut : Bool) (text line : List ℕ) (more : List (List ℕ)) (here : Bool) → is_divider line ≡ here
      → MAX_DESCRIPTION + MAX_DIVIDER < length text + length line
      → run_described past is_cut (text ++ description_of (line ∷ more)) (capture_lines (line ∷ more)) ≡ stops_at faults.TooLarge
  long_line is_cut text line more true e long =
      let short : length line ≤ MAX_DIVIDER = divider_is_short line e in
      past_limit is_cut (text ++ description_of (line ∷ more)) (capture_lines (line ∷ more)) (omega (arith, length-append text (description_of (line ∷ more))))
  long_line is_cut text line more false e long =
      let grown : length line ≤ length (description_of (line ∷ more)) = described_at_least line more e in
      past_limit is_cut (text ++ description_of (line ∷ more)) (capture_lines (line ∷ more)) (omega (arith, length-append text (description_of (line ∷ more))))

  glued_long : (is_cut : Bool) (text front : List ℕ) (lines : List (List ℕ)) → MAX_DESCRIPTION + MAX_DIVIDER < length text + length front
      → run_described past is_cut (text ++ description_of (glued front lines)) (capture_lines (glued front lines)) ≡ stops_at faults.TooLarge
  glued_long is_cut text front [] long = long_line is_cut text front [] (is_divider front) refl long
  glued_long is_cut text front (line ∷ more) long =
      long_line is_cut text (front ++ line) more (is_divider (front ++ line)) refl (omega (arith, length-append front line))

  -- a front that is too long
  pub front_is_too_long : (text front : List ℕ) → MAX_DESCRIPTION + MAX_DIVIDER < length text + length front → FrontStops (description_writes past text) front faults.TooLarge
  front_is_too_long text front long = ((λ e. cc), λ is_cut lines. glued_long is_cut text front lines long)

  -- where no line divides, all is description
  all_described : (lines : List (List ℕ)) → capture_lines lines ≡ None → description_of lines ≡ join_with_byte 10 lines
  all_described [] none = refl
  all_described (line ∷ []) none = by_last (is_divider line) refl
    where
      by_last : (t : Bool) → is_divider line ≡ t → description_of (line ∷ []) ≡ join_with_byte 10 (line ∷ [])
      by_last true e = let wrong : capture_lines (line ∷ []) ≡ Some [] = rw e refl in cc
      by_last false e = rw e refl
  all_described (line ∷ next ∷ more) none = by_line (is_divider line) refl (λ e. all_described (next ∷ more) e)
    where
      by_line : (t : Bool) → is_divider line ≡ t → (capture_lines (next ∷ more) ≡ None → description_of (next ∷ more) ≡ join_with_byte 10 (next ∷ more)) → description_of (line ∷ next ∷ more) ≡ join_with_byte 10 (line ∷ next ∷ more)
      by_line true e rest = let wrong : capture_lines (line ∷ next ∷ more) ≡ Some (next ∷ more) = rw e refl in cc
      by_line false e rest = rw e (ap (λ l. line ++ 10 ∷ l) (rest (sym (capture_more line (next ∷ more) e) ∙ none)))

  same_divided : (is_cut : Bool) (text : List ℕ) (found : Option (List (List ℕ))) → capture_lines (lines_of text) ≡ found → divided_run past is_cut text found ≡ run_described past is_cut (description_of (lines_of text)) found
  same_divided is_cut text None e =
      ap (λ l. run_described past is_cut l None) (sym (all_described (lines_of text) e ∙ join_with_byte-slice_split 10 text))
  same_divided is_cut text (Some lines) e = refl

  -- before anything has come, the run is that over all of the input
  pub run_of_all : (is_cut : Bool) (text : List ℕ) → run_of past is_cut text ≡ description_writes past [] is_cut (lines_of text)
  run_of_all is_cut text =
      same_divided is_cut text (capture_lines (lines_of text)) refl

  -- a line stays a line of the description
  pub stays_described : (text line text_new : List ℕ) → is_divider line ≡ false → text_new ≡ (text ++ line) ++ 10 ∷ [] → LineGoesOn (description_writes past text) line [] (description_writes past text_new)
  stays_described text line text_new stays grown =
      subst (λ t. LineGoesOn (description_writes past text) line [] (description_writes past t)) (sym (grown ∙ append_assoc text line (10 ∷ []))) (description_goes_on text line stays)

  -- what the text begins at the divider, or why the run ends there
  pub divider_ends : (text reported line : List ℕ) (fault : EngineFault) → reported ≡ text → is_divider line ≡ true
      → (fault ≡ no_memory) ⊎ ((fault ≢ no_memory) × (begun reported ≡ Err fault)) → EndsAt (description_writes past text) line fault
  divider_ends text reported line fault same here (inl memory) = inl memory
  divider_ends text reported line fault same here (inr (apart, e)) = inr (apart, divider_stops text line fault here (ap begun (sym same) ∙ e))

  pub begins_past : (text reported line : List ℕ) (device : Description) → reported ≡ text → is_divider line ≡ true → begun reported ≡ Ok device
      → LineGoesOn (description_writes past text) line [] (past device)
  begins_past text reported line device same here e =
      λ is_cut next more. divided text line is_cut (next ∷ more) here ∙ begun_device is_cut text (next ∷ more) device (ap begun (sym same) ∙ e)

-- a line of the description, before whatever there was to write
pub line_described : (past : LinesPast) (whole f h : LinesGive) (line out : List ℕ) (found : Result (Option Description) EngineFault) → whole ≡ f → found ≡ Ok None
    → Describes past f line h found → TakesLine whole line h out out (Ok tt)
line_described past whole f h line out found same is meets =
    let goes : LineGoesOn f line [] h = subst (Describes past f line h) is meets in
    subst (λ w. TakesLine w line h out out (Ok tt)) (sym same) ([], sym (append-nil out), goes)

-- the line that divides, and what takes the lines past it
pub line_divides : (past : LinesPast) (whole f h p : LinesGive) (line out : List ℕ) (device : Description) (found : Result (Option Description) EngineFault)
    → whole ≡ f → found ≡ Ok (Some device) → Describes past f line h found
    → ((is_cut : Bool) (lines : List (List ℕ)) → p is_cut lines ≡ past device is_cut lines)
    → TakesLine whole line p out out (Ok tt)
line_divides past whole f h p line out device found same is meets begins =
    let goes : LineGoesOn f line [] (past device) = subst (Describes past f line h) is meets in
    subst (λ w. TakesLine w line p out out (Ok tt)) (sym same)
    ([], sym (append-nil out), λ is_cut next more. goes is_cut next more ∙ sym (begins is_cut (next ∷ more)))

-- a line that ends the run before one has divided
pub line_stops : (past : LinesPast) (whole f h k : LinesGive) (line out : List ℕ) (fault : EngineFault) (found : Result (Option Description) EngineFault)
    → whole ≡ f → found ≡ Err fault → Describes past f line h found → TakesLine whole line k out out (Err fault)
line_stops past whole f h k line out fault found same is meets =
    subst (λ w. TakesLine w line k out out (Err fault)) (sym same) (refl, subst (Describes past f line h) is meets)

-- a front that is too long before a line has divided
pub front_stops : (past : LinesPast) (whole : LinesGive) (text front : List ℕ) (result : Result Unit EngineFault) → whole ≡ description_writes past text
    → IfErr result (λ fault. (past : LinesPast) → FrontStops (description_writes past text) front fault) → IfErr result (λ fault. FrontStops whole front fault)
front_stops past whole text front (Ok unit) same stops = tt
front_stops past whole text front (Err fault) same stops = subst (λ w. FrontStops w front fault) (sym same) (stops past)

-- the end of the input before a line has divided
pub end_stops : (past : LinesPast) (whole f : LinesGive) (is_cut : Bool) (last : List ℕ) (fault : EngineFault) (found : Result Description EngineFault) (out : Option (List ℕ))
    → whole ≡ f → found ≡ Err fault → EndsDescription past f last found → FinishesTo (whole is_cut (last ∷ [])) out out (Err fault)
end_stops past whole f is_cut last fault found out same is meets =
    subst (λ w. FinishesTo (w is_cut (last ∷ [])) out out (Err fault)) (sym same) (stops (subst (EndsDescription past f last) is meets)) where
      stops : EndsDescription past f last (Err fault) → FinishesTo (f is_cut (last ∷ [])) out out (Err fault)
      stops (inl memory) = inr (inl (memory, Appends-nil out))
      stops (inr (apart, ends)) =
          inr (inr (apart, ap (λ (w : Written). w.fault) (ends is_cut), subst (λ t. Appends out out t) (sym (ap (λ (w : Written). w.text) (ends is_cut))) (Appends-nil out)))
