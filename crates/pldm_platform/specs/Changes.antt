-- What a call that may change a thing leaves: the changed thing, or the same one and a refusal.
use Rattle.std.specs.Prelude.{◌≡◌, Option, Some, None, Result, Ok, Err}

abbrev pub Changes : {A E : Type 0} → Result A E → A → Result Unit E → A → Type 0
Changes (Ok changed) old result new = (result ≡ Ok tt) × (new ≡ changed)
Changes (Err refusal) old result new = (result ≡ Err refusal) × (new ≡ old)

-- the changed thing, or the old one at a refusal
abbrev pub changed_or : {A E : Type 0} → A → Result A E → A
changed_or old (Ok changed) = changed
changed_or old (Err refusal) = old

-- what is made of the changed thing, or the refusal
abbrev pub made_of : {A B E : Type 0} → (A → B) → Result A E → Result B E
made_of make (Ok changed) = Ok (make changed)
made_of make (Err refusal) = Err refusal

-- whether there is a refusal
abbrev pub refusal_of : {A E : Type 0} → Result A E → Option E
refusal_of (Ok changed) = None
refusal_of (Err refusal) = Some refusal
