-- A run that takes its input in pieces, where the bytes that come later are not known.
use Rattle.std.specs.Prelude.{◌≡◌, ◌≢◌, ◌⊎◌, ℕ, Bool, true, List, [], ◌++◌}
use Rattle.std.specs.Prelude.{Option, None, Some, Result, MatchResult}
use Rattle.std.specs.Io.KnownBytes.{Appends, Consumes}
use Rattle.mctpctl_engines.specs.LineRuns.{Written, stops_at, after_text}
use Rattle.mctpctl_input.specs.OutsideFaults.{no_memory}
use Rattle.mctpctl_input.specs.declared.faults.EngineFault.{EngineFault}
use Rattle.mctpctl_input.specs.declared.faults.EngineFault.TheVariants.{Write}

-- what a run writes of the bytes that are to come, if they are cut off or all
abbrev pub Gives : Type 0
Gives = Bool → List ℕ → Written

-- whatever comes after the piece: the run gives this text first, and goes on as `after` says
abbrev pub GoesOn : Gives → List ℕ → List ℕ → Gives → Type 0
GoesOn before piece text after =
    (is_cut : Bool) (later : List ℕ) → before is_cut (piece ++ later) ≡ after_text text (after is_cut later)

-- whatever comes after the piece: the run gives this text, and stops at the fault
abbrev pub StopsWith : Gives → List ℕ → List ℕ → EngineFault → Type 0
StopsWith before piece text fault =
    (is_cut : Bool) (later : List ℕ) → before is_cut (piece ++ later) ≡ after_text text (stops_at fault)

-- the text is that of a run whose input is cut off within the piece: that of the lines that ended
abbrev pub IsFront : Gives → List ℕ → List ℕ → Type 0
IsFront before piece text = (front back : List ℕ) × (piece ≡ front ++ back) × (text ≡ (before true front).text)

-- a piece that is taken gives text, which is added, and so does one that ends the run
abbrev pub Takes : Gives → List ℕ → Gives → List ℕ → List ℕ → Result Unit EngineFault → Type 0
Takes before piece after old new result =
    MatchResult result
    (λ _. (text : List ℕ) × (new ≡ old ++ text) × GoesOn before piece text after)
    (λ fault. (text : List ℕ) × (new ≡ old ++ text)
    × (((fault ≡ no_memory) × IsFront before piece text) ⊎ ((fault ≢ no_memory) × StopsWith before piece text fault)))

-- the end of the input gives the text of what was left of it
abbrev pub Finishes : Written → List ℕ → List ℕ → Result Unit EngineFault → Type 0
Finishes rest old new result =
    MatchResult result
    (λ _. (rest.fault ≡ None) × (new ≡ old ++ rest.text))
    (λ fault. ((fault ≡ no_memory) × (new ≡ old))
    ⊎ ((fault ≢ no_memory) × (rest.fault ≡ Some fault) × (new ≡ old ++ rest.text)))

-- as `Takes`, of what a writer took, which may fail too
abbrev pub TakesTo : Gives → List ℕ → Gives → Option (List ℕ) → Option (List ℕ) → Result Unit EngineFault → Type 0
TakesTo before piece after old new result =
    MatchResult result
    (λ _. (text : List ℕ) × Appends old new text × GoesOn before piece text after)
    (λ fault. (fault ≡ Write) ⊎ ((text : List ℕ) × Appends old new text
    × (((fault ≡ no_memory) × IsFront before piece text) ⊎ ((fault ≢ no_memory) × StopsWith before piece text fault))))

-- as `Finishes`, of what a writer took, which may fail too
abbrev pub FinishesTo : Written → Option (List ℕ) → Option (List ℕ) → Result Unit EngineFault → Type 0
FinishesTo rest old new result =
    MatchResult result
    (λ _. (rest.fault ≡ None) × Appends old new rest.text)
    (λ fault. (fault ≡ Write) ⊎ ((fault ≡ no_memory) × Appends old new [])
    ⊎ ((fault ≢ no_memory) × (rest.fault ≡ Some fault) × Appends old new rest.text))

-- what was written is the text of the lines that ended in the bytes that were read
abbrev pub WroteOfRead : Gives → Option (List ℕ) → Option (List ℕ) → Option (List ℕ) → Option (List ℕ) → Type 0
WroteOfRead gives all left old new =
    (taken : List ℕ) × Consumes all left taken × Appends old new (gives true taken).text

-- what was written is the text of the lines that ended in a front of the input
abbrev pub WroteOfFront : Gives → Option (List ℕ) → Option (List ℕ) → Option (List ℕ) → Type 0
WroteOfFront gives all old new =
    (front : List ℕ) × (back : Option (List ℕ)) × Consumes all back front × Appends old new (gives true front).text
