-- Lists that have the newest first, and one element of each number.
use Rattle.std.specs.Prelude.{◌≡◌, ◌<◌, ℕ, List, [], ◌∷◌, map, not, ◌==◌, Option, None, if◌then◌else◌}
use Rattle.std.specs.List.{filter, find}

module _ {A : Type 0} (number : A → ℕ) where
  -- the element of this number
  abbrev pub of_number : ℕ → List A → Option A
  of_number n xs = find (λ x. number x == n) xs

  -- the others
  abbrev pub without : ℕ → List A → List A
  without n xs = filter (λ x. not (number x == n)) xs

  -- x is put in front, in the place of the one of its number
  abbrev pub renewed : A → List A → List A
  renewed x xs = x ∷ without (number x) xs

  -- x takes the place of the one of its number, where there is one
  abbrev pub replaced : A → List A → List A
  replaced x xs = map (λ y. if number y == number x then x else y) xs

  -- no two have one number
  abbrev pub IsApart : List A → Type 0
  IsApart [] = Unit {0}
  IsApart (x ∷ xs) = (of_number (number x) xs ≡ None) × IsApart xs

  -- each number is below n
  abbrev pub AllBelow : ℕ → List A → Type 0
  AllBelow n [] = Unit {0}
  AllBelow n (x ∷ xs) = (number x < n) × AllBelow n xs
