-- The words that lines say, computed.
use Rattle.std.proofs.Common.{◌≡◌, [], ◌∷◌, ◌++◌, codes, refl}
use Rattle.line_words.specs.Lines.{said_words}

-- an empty line, spaces with a carriage return, and comments say nothing
empty : said_words [] ≡ []
empty = refl

spaces : said_words (codes "   " ++ 13 ∷ []) ≡ []
spaces = refl

comment : said_words (codes "  # 1 2 3") ≡ []
comment = refl

-- spaces all around, and one carriage return at the very end
two_words : said_words (codes " 7  0aF0 " ++ 13 ∷ []) ≡ codes "7" ∷ codes "0aF0" ∷ []
two_words = refl

-- of two carriage returns one stays, and so does one before a space
two_returns : said_words (codes "7" ++ 13 ∷ 13 ∷ []) ≡ (codes "7" ++ 13 ∷ []) ∷ []
two_returns = refl

return_inside : said_words (codes "7" ++ 13 ∷ codes " ") ≡ (codes "7" ++ 13 ∷ []) ∷ []
return_inside = refl

-- a tab is part of a word, and so is `#` after a word
tab : said_words (48 ∷ 9 ∷ codes "0") ≡ (48 ∷ 9 ∷ codes "0") ∷ []
tab = refl

late_comment : said_words (codes "0 #") ≡ codes "0" ∷ codes "#" ∷ []
late_comment = refl
