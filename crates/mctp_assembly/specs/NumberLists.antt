-- Lists of values by numbers: such that rise, and such that only differ.
use Rattle.std.specs.FinMap as map
use Rattle.std.specs.declared.cmp.Ordering.{Ordering}
use Rattle.std.specs.Prelude.{◌≡◌, ◌≢◌, ℕ, ◌<◌, ◌≤◌, ◌==◌, List, [], ◌∷◌, length, Option, Some, None, if◌then◌else◌, slice_index_or}

-- numbers, and a value under each
abbrev pub NumberList : Type 0 → Type 0
NumberList X = List (ℕ × X)

-- the value under a number
abbrev pub at : {X : Type 0} → NumberList X → ℕ → Option X
at [] n = None
at ((k, value) ∷ rest) n = if k == n then Some value else at rest n

-- a list with this under one number, and under each other what there was
abbrev pub Changes : {X : Type 0} → NumberList X → NumberList X → ℕ → Option X → Type 0
Changes old new n value = (q : ℕ) → at new q ≡ (if n == q then value else at old q)

-- ---- numbers alone
-- no two of them are equal
abbrev pub AreDistinct : List ℕ → Type 0
AreDistinct numbers = (i j : ℕ) → i < j → j < length numbers → slice_index_or numbers i 0 ≢ slice_index_or numbers j 0

-- the number is the one at this place
pub record StandsAt (numbers : List ℕ) (n i : ℕ) : Type 0 where
  pub in_range : i < length numbers
  pub has : slice_index_or numbers i 0 ≡ n

-- the number is none of them
abbrev pub StandsNowhere : List ℕ → ℕ → Type 0
StandsNowhere numbers n = (i : ℕ) → i < length numbers → slice_index_or numbers i 0 ≢ n

-- ---- numbers with values
-- `past` is what stands past the end of a list; nothing looks at it
module _ {X : Type 0} (past : X) where
  -- the number at a place of the list
  abbrev pub number_in : NumberList X → ℕ → ℕ
  number_in list i = (slice_index_or list i (0, past)).0

  -- the numbers rise, so none comes twice
  abbrev pub Rises : NumberList X → Type 0
  Rises list = (i j : ℕ) → i < j → j < length list → number_in list i < number_in list j

  -- no number comes twice
  abbrev pub Differ : NumberList X → Type 0
  Differ list = (i j : ℕ) → i < j → j < length list → number_in list i ≢ number_in list j

  -- the number stands at this place
  pub record IsAt (list : NumberList X) (n i : ℕ) : Type 0 where
    pub in_range : i < length list
    pub has : number_in list i ≡ n

  -- the number would go to this place: smaller ones before it, and greater ones from it on
  pub record IsGapFor (list : NumberList X) (n i : ℕ) : Type 0 where
    pub in_range : i ≤ length list
    pub smaller : (j : ℕ) → j < i → number_in list j < n
    pub greater : (j : ℕ) → i ≤ j → j < length list → n < number_in list j

-- the values by the keys that have these numbers
abbrev pub keyed : {K X : Type 0} → (ℕ → K) → NumberList X → List (K × X)
keyed key_at [] = []
keyed key_at ((n, value) ∷ rest) = (key_at n, value) ∷ keyed key_at rest

abbrev pub map_in : {K X : Type 0} → (R : K → K → Ordering) → (ℕ → K) → NumberList X → map.FinMap R X
map_in R key_at list = map.from_entries (keyed key_at list)
