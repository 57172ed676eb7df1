-- How the fault for which a description or a line was refused is explained.
use Rattle.std.specs.Prelude.{◌≡◌, ◌⊎◌, ◌≤◌, ⊤, ℕ, List, [], ◌++◌, codes}
use Rattle.std.specs.Fmt.{decimal}
use Rattle.mctpctl_input.specs.declared.faults.EngineFault.{EngineFault}
use Rattle.mctpctl_input.specs.declared.faults.EngineFault.TheVariants.{Device, Line}
use Rattle.mctpctl_input.specs.declared.faults.LineKind.{LineKind}
use Rattle.mctpctl_input.specs.declared.faults.LineKind.TheVariants as kinds
use Rattle.pldm_device.specs.declared.description_fault.FileFault.{FileFault}
use Rattle.pldm_device.specs.declared.description_fault.FileFault.TheVariants.{Toml, MissingKey, WrongKind, OutOfRange}
use Rattle.pldm_device.specs.declared.description_fault.FileFault.TheVariants.{Duplicate, BadHex}

-- the words before what is needed, or before what was found; a bad record has words for each flaw
abbrev pub opening : FileFault → List ℕ
opening MissingKey = codes "the key is missing, needed is "
opening WrongKind = codes "found "
opening OutOfRange = codes "found "
opening BadHex = codes "found "
opening Duplicate = codes "found "
opening _ = []

-- nothing, or the words of the fault and more
abbrev pub IsReason : FileFault → List ℕ → Type 0
IsReason fault text = (text ≡ []) ⊎ ((rest : List ℕ) × (text ≡ opening fault ++ rest))

-- the parser's message for what is no TOML; else nothing, or a reason behind its place and its path
abbrev pub Explains : FileFault → List ℕ → Type 0
Explains fault text =
    (fault ≡ Toml) ⊎ (text ≡ [])
    ⊎ ((front : List ℕ) × (reason : List ℕ) × (text ≡ front ++ reason) × IsReason fault reason)

-- of a description the fault is explained that the engine returned
abbrev pub ExplainsDevice : EngineFault → List ℕ → Type 0
ExplainsDevice (Device fault) text = Explains fault text
ExplainsDevice _ text = ⊤

-- the words that open the reason for which a line was refused: each kind has its own
abbrev pub line_opening : LineKind → List ℕ
line_opening kinds.LongLine = codes "the line has "
line_opening kinds.Words = codes "wrong words: "
line_opening kinds.Number = codes "wrong number: "
line_opening kinds.BackInTime = codes "the moment "
line_opening kinds.BadHex = codes "wrong hex: "
line_opening kinds.NoSuchRequester = codes "no earlier line is of the requester "
line_opening kinds.SameRequester = codes "an earlier line is of the requester "

-- nothing, or a reason right behind the line's number in the whole input, which has no fewer lines
abbrev pub ExplainsNumbered : ℕ → LineKind → List ℕ → Type 0
ExplainsNumbered number kind text =
    (text ≡ [])
    ⊎ ((shown : ℕ) × (rest : List ℕ) × (number ≤ shown)
    × (text ≡ codes "input line " ++ (decimal shown ++ (codes ": " ++ (line_opening kind ++ rest)))))

-- of a line the fault is explained that the engine returned
abbrev pub ExplainsLine : EngineFault → List ℕ → Type 0
ExplainsLine (Line number kind) text = ExplainsNumbered number kind text
ExplainsLine _ text = ⊤
