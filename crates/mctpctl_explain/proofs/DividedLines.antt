-- An input, line by line, up to its divider.
use Rattle.std.proofs.Common.{◌≡◌, ℕ, suc, ◌+◌, ◌-◌, ◌<◌, ◌==◌, true, false, List, [], ◌∷◌, ◌++◌, length, Some, None, refl, slice_get, sym, ap, ◌∙◌, append_assoc, append-nil, arith}
use Rattle.std.proofs.lemmas.Grind.{common_steps}
use Rattle.std.proofs.lemmas.List.Splits.{length-slice_split}
use Rattle.line_words.specs.TextLines.{lines_of}
use Rattle.mctpctl_input.specs.TextLines.{capture_lines, description_of, is_divider}
use Rattle.mctpctl_explain.specs.Divisions.{AreLines, lines_to_divider}

-- the input, but for the lines that were looked at, of which none divides
pub record LeftToDivide (input rest : List ℕ) (count : ℕ) : Type 0 where
  pub done : List ℕ
  pub split : input ≡ done ++ rest
  pub description : description_of (lines_of input) ≡ done ++ description_of (lines_of rest)
  pub capture : capture_lines (lines_of input) ≡ capture_lines (lines_of rest)
  pub lines : lines_to_divider (lines_of input) ≡ count + lines_to_divider (lines_of rest)

some_line : (text : List ℕ) → 0 < length (lines_of text)
some_line text = omega (arith, length-slice_split (λ b. b == 10) text)

description_more : (line : List ℕ) (more : List (List ℕ)) → 0 < length more → is_divider line ≡ false → description_of (line ∷ more) ≡ (line ++ 10 ∷ []) ++ description_of more
description_more line [] some stays = absurd (omega arith)
description_more line (next ∷ more) some stays = rw stays (sym (append_assoc line (10 ∷ []) (description_of (next ∷ more))))

description_ends : (line : List ℕ) (more : List (List ℕ)) → is_divider line ≡ true → description_of (line ∷ more) ≡ []
description_ends line [] here = rw here refl
description_ends line (next ∷ more) here = rw here refl

pub begins : (input : List ℕ) → LeftToDivide input input 0
begins input = record { done = []; split = refl; description = refl; capture = refl; lines = omega arith }

pub goes_on : (input rest line after : List ℕ) (count : ℕ) → LeftToDivide input rest count → rest ≡ line ++ 10 ∷ after → lines_of rest ≡ line ∷ lines_of after → is_divider line ≡ false → LeftToDivide input after (count + 1)
goes_on input rest line after count left parts lines stays = record {
  done = left.done ++ (line ++ 10 ∷ []);
  split = left.split ∙ ap (λ r. left.done ++ r) (parts ∙ sym (append_assoc line (10 ∷ []) after)) ∙ sym (append_assoc left.done (line ++ 10 ∷ []) after);
  description = left.description ∙ ap (λ l. left.done ++ description_of l) lines
      ∙ ap (λ d. left.done ++ d) (description_more line (lines_of after) (some_line after) stays)
      ∙ sym (append_assoc left.done (line ++ 10 ∷ []) (description_of (lines_of after)));
  capture = left.capture ∙ ap capture_lines lines ∙ rw stays refl;
  lines =
      let here : lines_to_divider (lines_of rest) ≡ suc (lines_to_divider (lines_of after)) = ap lines_to_divider lines ∙ rw stays refl in
      omega (arith, left.lines, here);
}

-- a line that is left divides
module _ (input rest : List ℕ) (count : ℕ) (left : LeftToDivide input rest count) (line : List ℕ) (more : List (List ℕ))
    (lines : lines_of rest ≡ line ∷ more) where
  pub description_here : (front : List ℕ) → ((before : List ℕ) → input ≡ before ++ rest → front ≡ before) → is_divider line ≡ true → front ≡ description_of (lines_of input)
  description_here front is_front here =
      is_front left.done left.split
      ∙ sym (left.description ∙ ap (λ l. left.done ++ description_of l) lines ∙ ap (λ d. left.done ++ d) (description_ends line more here) ∙ append-nil left.done)

  pub capture_here : is_divider line ≡ true → capture_lines (lines_of input) ≡ Some more
  capture_here here = left.capture ∙ ap capture_lines lines ∙ rw here refl

  pub count_here : is_divider line ≡ true → lines_to_divider (lines_of input) ≡ count + 1
  count_here here =
      let one : lines_to_divider (lines_of rest) ≡ 1 = ap lines_to_divider lines ∙ rw here refl in
      omega (arith, left.lines, one)

pub none_divides : (input rest : List ℕ) (count : ℕ) → LeftToDivide input rest count → lines_of rest ≡ rest ∷ [] → is_divider rest ≡ false → capture_lines (lines_of input) ≡ None
none_divides input rest count left lines stays = left.capture ∙ ap capture_lines lines ∙ rw stays refl

are_lines : (text : List ℕ) (lines : List (List ℕ)) → lines_of text ≡ lines → 0 < length lines → AreLines (Some lines) text
are_lines text [] e some = absurd (omega arith)
are_lines text (line ∷ more) e some = e

-- the lines of a text are its own
pub own_lines : (text : List ℕ) → AreLines (Some (lines_of text)) text
own_lines text = are_lines text (lines_of text) refl (some_line text)

-- past the first line, a line is one sooner
pub next_line : (line : List ℕ) (more : List (List ℕ)) (n : ℕ) → 0 < n → slice_get (line ∷ more) n ≡ slice_get more (n - 1)
next_line line more n past = grind (arith, common_steps)
