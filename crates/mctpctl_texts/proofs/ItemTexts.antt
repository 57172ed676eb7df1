-- The text of items, one further: of steps with their entries, and of requests.
use Rattle.std.proofs.Common.{◌≡◌, ℕ, suc, map, min, ◌≤◌, ◌+◌, ◌<◌, List, [], ◌∷◌, ◌++◌, drop, get_or, length, Option, None, Some, refl, sym, ap, subst, ◌∙◌, append_assoc, append-nil, arith, drop-cons}
use Rattle.std.specs.Fmt.{decimal}
use Rattle.std.specs.Iterator.{YieldsFirstBy}
use Rattle.std.specs.Option.{IsSome}
use Rattle.mctp_schedule.specs.Requests.{Request}
use Rattle.mctp_schedule.specs.declared.entry.Entry.{Entry}
use Rattle.schedule_text.specs.StepColumns.{moment_of_step}
use Rattle.schedule_text.specs.declared.step.Step.{Step}
use Rattle.mctpctl_texts.specs.EntryTexts.{entries_text, entry_line, entry_text}
use Rattle.mctpctl_texts.specs.ReportTexts.{requests_text, request_line}

next_dropped : {A : Type 0} (things : List A) (i : ℕ) (thing : A) → i < length things → thing ≡ get_or things i thing
    → drop i things ≡ thing ∷ drop (i + 1) things
next_dropped things i thing within is =
    let one : suc i ≡ i + 1 = omega arith in
    drop-cons things i thing within ∙ ap (λ t. t ∷ drop (suc i) things) (sym is) ∙ ap (λ n. thing ∷ drop n things) one

-- the lines of steps, by their moments alone
abbrev pub entries_at : List ℕ → List Entry → List ℕ
entries_at [] entries = []
entries_at (moment ∷ moments) [] = []
entries_at (moment ∷ moments) (entry ∷ entries) = entry_line moment entry ++ entries_at moments entries

pub by_moments : (steps : List Step) (entries : List Entry) → entries_at (map moment_of_step steps) entries ≡ entries_text steps entries
by_moments [] entries = refl
by_moments (step ∷ steps) [] = refl
by_moments (step ∷ steps) (entry ∷ entries) = ap (λ t. entry_line step.moment entry ++ t) (by_moments steps entries)

-- a moment and what came of its step are its line
pub line_of_parts : (moment : ℕ) (entry : Entry) → (decimal moment ++ 32 ∷ []) ++ (entry_text entry ++ 10 ∷ []) ≡ entry_line moment entry
line_of_parts moment entry = append_assoc (decimal moment) (32 ∷ []) (entry_text entry ++ 10 ∷ [])

pub entries_step : (text : List ℕ) (moments later : List ℕ) (entries rest : List Entry) (moment : ℕ) (entry : Entry)
    → moments ≡ moment ∷ later → entries ≡ entry ∷ rest
    → (text ++ entry_line moment entry) ++ entries_at later rest ≡ text ++ entries_at moments entries
entries_step text moments later entries rest moment entry moments_are entries_are =
    append_assoc text (entry_line moment entry) (entries_at later rest) ∙ rw (moments_are, entries_are) refl

-- past the last moment or the last entry there is no line
pub none_to_come : (moments : List ℕ) (entries : List Entry) (i steps all : ℕ) → i + length moments ≡ steps → i + length entries ≡ all
    → min steps all ≤ i → entries_at moments entries ≡ []
none_to_come [] entries i steps all moments_left entries_left past = refl
none_to_come (moment ∷ moments) [] i steps all moments_left entries_left past = refl
none_to_come (moment ∷ moments) (entry ∷ entries) i steps all moments_left entries_left past = absurd (omega (arith, moments_left, entries_left, past))

-- an iterator that has items left gives one
pub gives_one : {A B : Type 0} (view : A → B) (before after : List B) (item : Option A) → YieldsFirstBy view (λ left. left) before item after
    → 0 < length before → IsSome item
gives_one view before after None given some = absurd (omega (arith, ap length given.0, some))
gives_one view before after (Some item) given some = refl

-- and that is the first of them
pub gives_first : {A B : Type 0} (view : A → B) (before after : List B) (item : Option A) (first : A)
    → YieldsFirstBy view (λ left. left) before item after → item ≡ Some first → before ≡ view first ∷ after
gives_first view before after item first given is = subst (λ i. YieldsFirstBy view (λ left. left) before i after) is given

-- where none is to come, the text so far is all
pub none_left : (text left all : List ℕ) → left ≡ [] → text ++ left ≡ all → text ≡ all
none_left text left all none whole = sym (append-nil text) ∙ ap (λ t. text ++ t) (sym none) ∙ whole

pub requests_step : (before after : List ℕ) (requests : List Request) (i : ℕ) (request : Request)
    → i < length requests → request ≡ get_or requests i request → after ≡ before ++ request_line i request
    → after ++ requests_text (i + 1) (drop (i + 1) requests) ≡ before ++ requests_text i (drop i requests)
requests_step before after requests i request within is added =
    ap (λ (t : List ℕ). t ++ requests_text (i + 1) (drop (i + 1) requests)) added
    ∙ append_assoc before (request_line i request) (requests_text (i + 1) (drop (i + 1) requests))
    ∙ ap (λ (s : List Request). before ++ requests_text i s) (sym (next_dropped requests i request within is))
