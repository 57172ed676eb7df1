-- What may stand at a place of an input, in words.
use Rattle.std.specs.Prelude.{◌≡◌, ◌≢◌, ℕ, List, [], ◌∷◌, ◌++◌, codes}
use Rattle.std.specs.Fmt.{decimal}
use Rattle.pldm_device.specs.declared.allowed.Allowed.{Allowed}
use Rattle.pldm_device.specs.declared.allowed.Allowed.TheVariants.{Tables, HexBytes, Name, Record}
use Rattle.pldm_device.specs.declared.allowed.RecordFlaw.{RecordFlaw}
use Rattle.mctpctl_explain.specs.RepeatedWords.{IsQuoted}

-- of what is counted the count is said
pub record SaysAllowed (allowed : Allowed) (text : List ℕ) : Type 0 where
  pub tables : (most : ℕ) → allowed ≡ Tables most → text ≡ codes "a list of at most " ++ (decimal most ++ codes " tables")
  pub bytes : (count : ℕ) → allowed ≡ HexBytes count → text ≡ codes "hex text of " ++ (decimal count ++ codes " bytes")
  pub name : (most : ℕ) → allowed ≡ Name most → text ≡ codes "a text of 1 to " ++ (decimal most ++ codes " printed ASCII characters")

-- it is not said of bytes that they are no record
abbrev pub IsNoFlaw : Allowed → Type 0
IsNoFlaw allowed = (flaw : RecordFlaw) → allowed ≢ Record flaw

-- the word that was found, between quotes, and what is expected in its place; or what is expected at the line's end
abbrev pub SaysExpected : List ℕ → List ℕ → Type 0
SaysExpected [] text = (rest : List ℕ) × (text ≡ codes "expected " ++ rest)
SaysExpected (byte ∷ more) text =
    (found : List ℕ) × (rest : List ℕ) × IsQuoted found × (text ≡ found ++ (codes ": expected " ++ rest))

-- the word, between quotes, and what it is
abbrev pub SaysMisplaced : List ℕ → Type 0
SaysMisplaced text =
    (option : List ℕ) × IsQuoted option × (text ≡ option ++ codes " is an option, and options stand before the command")
