-- How faults are spelled: four numbers with commas between.
use Rattle.std.specs.List.{slice_split}
use Rattle.std.specs.Prelude.{ℕ, ◌==◌, not, if◌then◌else◌, List, [], ◌∷◌, codes}
use Rattle.std.specs.Prelude.{Option, None, Some, is_some, option_and_then, option_map}
use Rattle.line_faults.specs.declared.fate.LineFaults.{LineFaults}
use Rattle.line_faults.specs.declared.fate.TheConstants.{MAX_DELAY, PERCENT}
use Rattle.line_faults.specs.declared.spelling.FaultsPart.{FaultsPart}
use Rattle.line_faults.specs.declared.spelling.FaultsPart.TheVariants.{Count, Seed, Lose, Repeat, Delay}
use Rattle.line_faults.specs.declared.spelling.TheConstants.{MAX_SEED}
use Rattle.line_words.specs.Numbers.{number_of}

-- the parts between commas
abbrev pub parts_of : List ℕ → List (List ℕ)
parts_of word = slice_split (λ b. b == 44) word

abbrev pub line_faults : ℕ → ℕ → ℕ → ℕ → LineFaults
line_faults seed lose repeat delay = record { seed = seed; lose = lose; repeat = repeat; delay = delay }

-- the faults that these four words spell
abbrev pub faults_by : (seed lose repeat delay : List ℕ) → Option LineFaults
faults_by seed lose repeat delay =
    option_and_then (λ s. option_and_then (λ l. option_and_then (λ r. option_map (line_faults s l r)
    (number_of MAX_DELAY delay)) (number_of PERCENT repeat)) (number_of PERCENT lose)) (number_of MAX_SEED seed)

-- the first of them that is none
abbrev pub refused_by : (seed lose repeat delay : List ℕ) → Option FaultsPart
refused_by seed lose repeat delay =
    if not (is_some (number_of MAX_SEED seed)) then Some Seed
    else if not (is_some (number_of PERCENT lose)) then Some Lose
    else if not (is_some (number_of PERCENT repeat)) then Some Repeat
    else if not (is_some (number_of MAX_DELAY delay)) then Some Delay
    else None

-- the faults that the parts spell, where there are four
abbrev pub faults_in : List (List ℕ) → Option LineFaults
faults_in [] = None
faults_in (a ∷ []) = None
faults_in (a ∷ b ∷ []) = None
faults_in (a ∷ b ∷ c ∷ []) = None
faults_in (a ∷ b ∷ c ∷ d ∷ []) = faults_by a b c d
faults_in (a ∷ b ∷ c ∷ d ∷ e ∷ more) = None

-- what is wrong with them
abbrev pub refused_in : List (List ℕ) → Option FaultsPart
refused_in [] = Some Count
refused_in (a ∷ []) = Some Count
refused_in (a ∷ b ∷ []) = Some Count
refused_in (a ∷ b ∷ c ∷ []) = Some Count
refused_in (a ∷ b ∷ c ∷ d ∷ []) = refused_by a b c d
refused_in (a ∷ b ∷ c ∷ d ∷ e ∷ more) = Some Count

abbrev pub name_of_part : FaultsPart → List ℕ
name_of_part Count = codes "four numbers are needed, with commas between"
name_of_part Seed = codes "SEED is a number of at most 16 digits"
name_of_part Lose = codes "LOSE is 0 to 100, in percent"
name_of_part Repeat = codes "REPEAT is 0 to 100, in percent"
name_of_part Delay = codes "DELAY is 0 to 60000, in milliseconds"
